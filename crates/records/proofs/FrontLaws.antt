-- Laws of the front of a log, as it is lent: its rows are the log's first, and all its records are the log's first.
use Rattle.std.proofs.Common.{◌≡◌, ℕ, ◌+◌, ◌*◌, ◌≤◌, ◌<◌, List, length, take, arith, ap, ◌∙◌}
use Rattle.std.proofs.lemmas.List.{get_or-take}
use lib.Seq.{length-take-le}
use Rattle.meaning.specs.Rows.{record_at, records}
use Rattle.meaning.proofs.RowLaws.{record_at_agree, records_agree}
use Rattle.records.specs.Tests.{rows, all_records}

module _ (k : ℕ) (w : List ℕ) where
  pub front_rows : 4 * k ≤ length w → rows (take (4 * k) w) ≡ k
  front_rows h = omega (arith, length-take-le (4 * k) w h)

  pub front-record : (i : ℕ) → i < k → record_at (take (4 * k) w) i ≡ record_at w i
  front-record i h = record_at_agree (take (4 * k) w) w i i (λ m l. get_or-take (4 * k) w (4 * i + m) 0 (omega arith))

  pub front_records : 4 * k ≤ length w → all_records (take (4 * k) w) ≡ records k w
  front_records h =
      ap (λ (m : ℕ). records m (take (4 * k) w)) (front_rows h) ∙ records_agree k (take (4 * k) w) w (λ m l. get_or-take (4 * k) w m 0 l)
