-- `purges::purge_alone` meets its contract: refused by its one test, or the purged node put.
use Rattle.std.proofs.Common.{rules, ◌≡◌, ◌<◌, sym, ap, ◌∙◌, arith}
use lib.Dec.{leb}
use Rattle.meaning.specs.Rows.{record_at}
use Rattle.meaning.specs.Table.{form_of, Sound, Vectors, count}
use Rattle.meaning.proofs.TableLaws.{sound_facts}
use Rattle.purges.specs.Dropped.{held_rows}
use Rattle.purges.proofs.PurgeLaws.{vectors_form, leaving_limit, absent_alone, done_alone, cut_sound}
use Rattle.purges.proofs.purge_alone.Goals as goal

pub drop_rows-left-requires : goal.drop_rows-left-requires
drop_rows-left-requires c =
    let t = c.args.t.now.words.now in
    let s : Sound t = sound_facts t c.args.t.now.is_sound in
    let form : form_of t ≡ Vectors = vectors_form (form_of t) c.has_columns-columns.result c.has_columns-columns.ensures (search rules) in
    record {
      is_sound = s;
      there = omega arith;
      many = c.held-held.ensures.0;
      room = c.held-held.ensures.1;
      askable = λ i h. search rules;
      follows = λ i b h e.
          let r = record_at (held_rows c.args.node c.held-held.result t) i in
          let said : b ≡ leb r.timestamp c.limit_alone-limit.result = search rules in
          said ∙ ap (λ m. leb r.timestamp m) c.limit_alone-limit.ensures ∙ sym (leaving_limit t c.args.node form r);
    }

pub returns-then-nodes-p-clause-done : goal.returns-then-nodes-p-clause-done
returns-then-nodes-p-clause-done c =
    let t = c.args.t.now.words.now in
    absent_alone t (sound_facts t c.args.t.now.is_sound) c.args.node c.nodes-nodes.result c.nodes-nodes.ensures.0 c.if-nodes-p.true

pub returns-then-columns-clause-done : goal.returns-then-columns-clause-done
returns-then-columns-clause-done c =
    let t = c.args.t.now.words.now in
    done_alone t (sound_facts t c.args.t.now.is_sound) c.args.node c.cut_of-cut.ensures.done.dropped c.nodes-nodes.result
    c.nodes-nodes.ensures.0 c.if-nodes-p.false

pub invariant_of-t : goal.invariant_of-t
invariant_of-t c =
    let t = c.args.t.now.words.now in
    let here : c.args.node < count t = omega arith in
    record { is_sound = cut_sound t (sound_facts t c.args.t.now.is_sound) c.args.node c.drop_rows-left.ensures.0 here }

pub returns-clause-done : goal.returns-clause-done
returns-clause-done c =
    let t = c.args.t.now.words.now in
    done_alone t (sound_facts t c.args.t.now.is_sound) c.args.node c.drop_rows-left.ensures.0 c.nodes-nodes.result
    c.nodes-nodes.ensures.0 c.if-nodes-p.false
