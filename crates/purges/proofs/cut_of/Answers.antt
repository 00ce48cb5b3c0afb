-- `purges::cut_of` meets its contract on either form: by the row of smallest entries, or by the limit.
use Rattle.std.proofs.Common.{rules, ◌≡◌, sym, ap, ◌∙◌}
use lib.Dec.{leb}
use Rattle.meaning.specs.Rows.{record_at}
use Rattle.purges.specs.Dropped.{held_rows}
use Rattle.meaning.specs.Table.{form_of, Sound, Vectors}
use Rattle.meaning.proofs.TableLaws.{sound_facts}
use Rattle.purges.proofs.PurgeLaws.{columns_form, vectors_form, cut_here, cut_room, leaving_limit, cut_sound}
use Rattle.purges.proofs.cut_of.Goals as goal

pub cut_columns-requires : goal.cut_columns-requires
cut_columns-requires c =
    (c.requires, columns_form (form_of c.args.t.now.words.now) c.has_columns.result c.has_columns.ensures (search rules))

pub limit_of-low-requires : goal.limit_of-low-requires
limit_of-low-requires c =
    let t = c.args.t.now.words.now in
    let s : Sound t = sound_facts t c.args.t.now.is_sound in (
      cut_here t s c.args.p c.args.n c.args.held c.requires,
      c.requires.nodes,
      vectors_form (form_of t) c.has_columns.result c.has_columns.ensures (search rules),
    )

pub drop_rows-left-requires : goal.drop_rows-left-requires
drop_rows-left-requires c =
    let t = c.args.t.now.words.now in
    let s : Sound t = sound_facts t c.args.t.now.is_sound in
    let form : form_of t ≡ Vectors = vectors_form (form_of t) c.has_columns.result c.has_columns.ensures (search rules) in
    record {
      is_sound = s;
      there = cut_here t s c.args.p c.args.n c.args.held c.requires;
      many = c.requires.many;
      room = cut_room t s c.args.p c.args.n c.args.held c.requires;
      askable = λ i h. search rules;
      follows = λ i b h e.
          let r = record_at (held_rows c.args.p c.args.held t) i in
          let said : b ≡ leb r.timestamp c.limit_of-low.result.value = search rules in
          said ∙ ap (λ m. leb r.timestamp m) c.limit_of-low.ensures.0 ∙ sym (leaving_limit t c.args.p form r);
    }

pub invariant_of-t : goal.invariant_of-t
invariant_of-t c =
    let t = c.args.t.now.words.now in
    let s : Sound t = sound_facts t c.args.t.now.is_sound in
    record { is_sound = cut_sound t s c.args.p c.drop_rows-left.ensures.0 (cut_here t s c.args.p c.args.n c.args.held c.requires) }
