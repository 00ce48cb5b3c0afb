-- `records::count_of` meets its contract: what is kept of the rows passed, and of one row more.
use Rattle.std.proofs.Common.{◌≡◌, Bool, [], ◌∷◌, ◌+◌, ◌≤◌, length, ℕ, List, arith, sym, ap, ◌∙◌}
use lib.ListN.{length-append}
use Rattle.meaning.specs.declared.Record.{Record}
use Rattle.meaning.specs.Rows.{keep, keep_if, record_at, records}
use Rattle.meaning.proofs.RowLaws.{keep_row, keep_one, length-keep, length-records}
use Rattle.records.proofs.count_of.Goals as goal
use Rattle.records.proofs.count_of.Goals.{then-passes, else-passes}

module _ (rule : Record → Bool) (i : ℕ) (w : List ℕ) where
  few : length (keep rule (records i w)) ≤ i
  few = omega (arith, length-keep rule (records i w), length-records i w)

  next :
      (b : Bool) → b ≡ rule (record_at w i) →
      length (keep rule (records (i + 1) w)) ≡ length (keep rule (records i w)) + length (keep_if b (record_at w i) [])
  next b e =
      ap length (keep_row rule i w) ∙
      length-append (keep rule (records i w)) (keep rule (record_at w i ∷ [])) ∙
      ap (λ x. length (keep rule (records i w)) + length x) (keep_one rule (record_at w i) ∙ ap (λ b. keep_if b (record_at w i) []) (sym e))

pub loop-row-init : goal.loop-row-init
loop-row-init g c = (omega arith, λ rule f. omega (arith, few rule 0 c.args.log.now))

pub loop-row-preserved : goal.loop-row-preserved
loop-row-preserved g c =
    let log = c.args.log.now in
    let row = c.loop-row.row in
    let one = λ (b : Bool). length (keep_if b (record_at log row) []) in
    elim c.if-passes.branch [
      | then-passes w ↦ (
        omega arith,
        λ rule f.
            let more = next rule row log c.passes.result (f row c.passes.result c.loop-row-test.true (rw (← c.record_at.ensures) c.passes.ensures)) in
            omega (arith, c.loop-row.invariant.1 rule f, ap one w.if-passes.true),
      )
      | else-passes w ↦ (
        omega arith,
        λ rule f.
            let more = next rule row log c.passes.result (f row c.passes.result c.loop-row-test.true (rw (← c.record_at.ensures) c.passes.ensures)) in
            omega (arith, c.loop-row.invariant.1 rule f, ap one w.if-passes.false),
      )
    ]
