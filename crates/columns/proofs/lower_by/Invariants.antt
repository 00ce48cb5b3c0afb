-- `columns::lower_by` meets its contract: the entries passed are lowered, the others as they were, and `low` is above none of the column's that were
-- passed and not below its smallest.
use Rattle.std.proofs.Common.{◌≡◌, ℕ, ◌<◌, ◌≤◌, get_or, min}
use Rattle.columns.proofs.LowerLaws.{Low}
use Rattle.columns.proofs.lower_by.Given as goal

abbrev pub invariant-loop-i : goal.invariant-loop-i
invariant-loop-i l = record {
  lowered : (k : ℕ) → k < l.i → get_or l.row k 0 ≡ min (get_or l.initial.row k 0) (get_or l.column k 0);
  left : (k : ℕ) → l.i ≤ k → get_or l.row k 0 ≡ get_or l.initial.row k 0;
  low : Low l.column l.i l.low;
}
