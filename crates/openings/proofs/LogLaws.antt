-- The records of a node's log that a side is shown.
use mathlib.Core.Path.{◌≡◌, sym, ap, ◌∙◌}
use mathlib.Core.Bool.{true}
use mathlib.Core.List.{List}
use Prim.Native.Nat.{ℕ, ◌*◌, ◌≤◌, ◌<◌}
use native.Mathlib.Omega.{arith}
use Rattle.meaning.specs.Rows.{record_at, records, all}
use Rattle.meaning.specs.Table.{form_of, log_most, log_at, part, count, held, node, record_sound, Sound}
use Rattle.meaning.proofs.RowLaws.{all_row, every-all, every-records}
use Rattle.openings.specs.Begun.{held_log}

-- the whole log is its held records
pub whole_log : (t : List ℕ) (q k : ℕ) → k ≡ held t q → held_log t q k ≡ (node t q).log
unfolding node
whole_log t q k e = ap (λ (m : ℕ). records m (part (log_at (form_of t) q) (4 * log_most) t)) e

-- each of a node's records is right, so those that a side is shown are
pub right_log : (t : List ℕ) → Sound t → (q k : ℕ) → q < count t → k ≤ held t q → all (record_sound (count t)) (held_log t q k) ≡ true
unfolding node
right_log t s q k h g =
    sym (every-records k (record_sound (count t)) (part (log_at (form_of t) q) (4 * log_most) t)) ∙
    every-all k (λ i. record_sound (count t) (record_at (part (log_at (form_of t) q) (4 * log_most) t) i))
    (λ i l. all_row (record_sound (count t)) (held t q) (part (log_at (form_of t) q) (4 * log_most) t) (s.right q h) i (omega arith))
