-- `purges::cut_columns` meets its contract: the row that is lent is that of the smallest entries, and each record is held to it.
use mathlib.Core.Path.{◌≡◌, refl, sym, ap, ◌∙◌}
use mathlib.Core.List.{List}
use Prim.Native.Nat.{ℕ, ◌≤◌, ◌<◌}
use native.Mathlib.Omega.{arith}
use lib.ListN.{length, get_or, take, replicate}
use lib.Seq.{length-take-le}
use lib.Dec.{leb}
use borrow.Author.Rules.{rules}
use Rattle.meaning.specs.Rows.{covers, record_at}
use Rattle.meaning.specs.Table.{Sound}
use Rattle.meaning.proofs.TableLaws.{sound_facts}
use Rattle.purges.specs.Dropped.{held_rows, Cuts}
use Rattle.purges.proofs.PurgeLaws.{cut_here, cut_room, bars_long, leaving_row, held_origin, held_rows_are, cut_sound}
use Rattle.purges.proofs.cut_columns.Goals as goal

-- a row of n words lent from the widest
abbrev zeros : List ℕ
zeros = replicate 16 0

wide : (n : ℕ) → n ≤ 16 → n ≡ length (take n zeros)
wide n h = sym (length-take-le n zeros h)

narrow : (t : List ℕ) (s : Sound t) (p n k : ℕ) → Cuts t p n k → n ≤ 16
narrow t s p n k d =
    let nodes = d.nodes in
    let high = s.high in
    omega arith

pub slice_bounds-bars-end : goal.slice_bounds-bars-end
slice_bounds-bars-end c =
    let t = c.args.t.now.words.now in
    wide c.args.n (narrow t (sound_facts t c.args.t.now.is_sound) c.args.p c.args.n c.args.held c.requires.0)

pub bars_of-at-requires : goal.bars_of-at-requires
bars_of-at-requires c =
    let t = c.args.t.now.words.now in
    let s : Sound t = sound_facts t c.args.t.now.is_sound in
    let e = wide c.args.n (narrow t s c.args.p c.args.n c.args.held c.requires.0) in
    let there = c.requires.0.there in
    record {
      long = s.long;
      form = c.requires.1;
      high = s.high;
      nodes = sym e ∙ c.requires.0.nodes;
      there = rw (← e) there;
      wide = refl;
    }

pub drop_rows-left-requires : goal.drop_rows-left-requires
unfolding covers
drop_rows-left-requires c =
    let t = c.args.t.now.words.now in
    let p = c.args.p in
    let k = c.args.held in
    let s : Sound t = sound_facts t c.args.t.now.is_sound in
    let here = cut_here t s p c.args.n k c.requires.0 in
    let room = cut_room t s p c.args.n k c.requires.0 in
    let rows = held_rows_are t s p k here room in
    let bars = c.bars_of-at.ensures.smallest in
    let wide = bars_long t s p here c.requires.1 c.bars_of-at.new.bars bars in
    record {
      is_sound = s;
      there = here;
      many = c.requires.0.many;
      room = room;
      askable = λ i h.
          let below : (record_at (held_rows p k t) i).origin < length c.bars_of-at.new.bars =
          omega (arith, held_origin t s p k here room c.requires.0.many i (omega arith))
          in
          search rules;
      follows = λ i b h e.
          let r = record_at (held_rows p k t) i in
          let said : b ≡ leb r.timestamp (get_or c.bars_of-at.new.bars r.origin 0) = search rules in
          said ∙ ap (λ row. covers row r) bars ∙ sym (leaving_row t s p here c.requires.1 r);
    }

pub invariant_of-t : goal.invariant_of-t
invariant_of-t c =
    let t = c.args.t.now.words.now in
    let s : Sound t = sound_facts t c.args.t.now.is_sound in
    record { is_sound = cut_sound t s c.args.p c.drop_rows-left.ensures.0 (cut_here t s c.args.p c.args.n c.args.held c.requires.0) }
