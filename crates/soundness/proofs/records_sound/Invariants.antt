-- `soundness::records_sound`. The invariant: no origin is counted and the bits seen make a byte just if each of the records passed is sound.
use Rattle.std.proofs.Common.{◌≡◌, ◌≤◌, ◌&&◌, leb, eqb}
use Rattle.meaning.specs.Rows.{every, record_at}
use Rattle.meaning.specs.Table.{record_sound}
use Rattle.soundness.proofs.records_sound.Given as goal

abbrev pub invariant-loop-origin : goal.invariant-loop-origin
invariant-loop-origin l = record {
  few : l.beyonds ≤ l.origin-index;
  passed : (eqb l.beyonds 0 && leb l.verdicts 255) ≡ every l.origin-index (λ i. record_sound l.n (record_at l.w i));
}
