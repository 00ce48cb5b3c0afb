-- `columns::raise_by` meets its contract: the entries passed are raised, the others as they were.
use Rattle.std.proofs.Common.{◌≡◌, ℕ, ◌<◌, ◌≤◌, get_or, max}
use Rattle.columns.proofs.raise_by.Given as goal

abbrev pub invariant-loop-i : goal.invariant-loop-i
invariant-loop-i l = record {
  raised : (k : ℕ) → k < l.i → get_or l.row k 0 ≡ max (get_or l.initial.row k 0) (get_or l.other k 0);
  left : (k : ℕ) → l.i ≤ k → get_or l.row k 0 ≡ get_or l.initial.row k 0;
}
