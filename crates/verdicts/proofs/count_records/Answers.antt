-- `verdicts::count_records`. The invariant: the records from word `end` on are counted.
use mathlib.Core.Path.{◌≡◌, ap, subst, ◌∙◌}
use mathlib.Core.List.{List}
use Prim.Native.Nat.{ℕ, ◌-◌, ◌*◌, ◌/◌, ◌%◌, ◌<◌}
use native.Mathlib.Omega.{arith}
use lib.ListN.{get_or}
use lib.Bits.{bit_or}
use Rattle.meaning.specs.Rows.{record_at}
use Rattle.verdicts.proofs.CountLaws.{Counting, counting_none, counting_more, count-wide, count-gap, count-all}
use Rattle.verdicts.proofs.NoteLaws.{verdict_before}
use Rattle.verdicts.proofs.count_records.Goals as goal

module _ (e : ℕ) (some : 0 < e) (even : e ≡ 4 * (e / 4)) where
  number-some : 0 < e / 4
  number-some = omega arith

  verdict_end : (w : List ℕ) → get_or w (e - 1) 0 ≡ (record_at w (e / 4 - 1)).verdict
  verdict_end w = ap (λ (j : ℕ). get_or w (j - 1) 0) even ∙ verdict_before w (e / 4) number-some

  before : e / 4 - 1 ≡ (e - 4) / 4
  before = omega arith

pub loop-end-init : goal.loop-end-init
loop-end-init c =
    let none = c.new-chains.ensures in
    (omega (arith, c.requires.0), rw (none.heads_none, none.links_none) (counting_none c.args.words.now c.requires.1 c.requires.0))

pub bounds-words-end : goal.bounds-words-end
bounds-words-end c = omega (arith, c.loop-end.invariant.0, c.loop-end.invariant.1.inside, c.loop-end-test.true)

pub count_record-requires-clause-number_value : goal.count_record-requires-clause-number_value
count_record-requires-clause-number_value c =
    let some = c.loop-end-test.true in
    let even = c.loop-end.invariant.0 in (
      number-some c.loop-end.end some even,
      c.loop-end.invariant.1.inside,
      ap (λ (v : ℕ). v % 256) (verdict_end c.loop-end.end some even c.args.words.now),
    )

pub count_record-requires-clause-noted : goal.count_record-requires-clause-noted
count_record-requires-clause-noted c = c.loop-end.invariant.1.noted

pub overflow_sub-end : goal.overflow_sub-end
overflow_sub-end c = omega (arith, c.loop-end.invariant.0, c.loop-end-test.true)

pub loop-end-smaller : goal.loop-end-smaller
loop-end-smaller c = omega (arith, c.loop-end.invariant.0, c.loop-end-test.true)

pub loop-end-preserved : goal.loop-end-preserved
loop-end-preserved c =
    let w = c.args.words.now in
    let e = c.loop-end.end in
    let some = c.loop-end-test.true in
    let even = c.loop-end.invariant.0 in
    let new = c.count_record.new in (
      omega (arith, even, some),
      subst (λ (k : ℕ). Counting w k new.chains.heads new.chains.links new.self.scrubbed new.self.touched (bit_or c.loop-end.seen (get_or w (e - 1) 0)))
          (before e some even)
          (counting_more w c.requires.1 c.requires.0 (e / 4) _ _ _ _ _ _ _ _ _ _ (number-some e some even) (verdict_end e some even w)
          c.count_record.ensures c.loop-end.invariant.1),
    )

pub returns-then-seen-gt255 : goal.returns-then-seen-gt255
returns-then-seen-gt255 c =
    let counted = c.loop-end.invariant.1 in
    count-wide _ c.requires.1 c.requires.0 _ (omega (arith, c.loop-end-test.false)) _ _ _ _ _ counted c.if-seen-gt255.true

pub overflow_sub-result : goal.overflow_sub-result
overflow_sub-result c =
    let counted = c.loop-end.invariant.1 in
    count-gap _ c.requires.1 c.requires.0 _ (omega (arith, c.loop-end-test.false)) _ _ _ _ _ counted (omega (arith, c.if-seen-gt255.false))

pub returns : goal.returns
returns c =
    let counted = c.loop-end.invariant.1 in
    count-all _ c.requires.1 c.requires.0 _ (omega (arith, c.loop-end-test.false)) _ _ _ _ _ counted (omega (arith, c.if-seen-gt255.false))
