-- `logs::close_up` meets its contract: the invariant says that the rows passed are closed up by each rule that the test follows, and the rest is as it was.
-- The first row is free from the start, so that what is left of the rows passed is fewer than they are.
use Rattle.std.proofs.Common.{◌≡◌, Bool, List, ℕ, ◌*◌, ◌≤◌, ◌<◌, length, get_or}
use Rattle.meaning.specs.declared.Record.{Record}
use Rattle.meaning.specs.Rows.{records, words}
use Rattle.meaning.specs.Table.{place}
use Rattle.logs.specs.Carry.{stay, Closes, FollowsIn}
use Rattle.logs.proofs.close_up.Given as goal

-- the log with its first i rows closed up
abbrev pub closed : (Record → Bool) → ℕ → List ℕ → List ℕ
closed leaves i w = place 0 (words (stay leaves (records i w))) w

abbrev pub invariant-loop-row : goal.invariant-loop-row
invariant-loop-row g l = record {
  free : l.kept < l.row;
  few : l.kept ≤ l.held;
  long : length l.tail ≡ length l.initial.tail;
  rest : (m : ℕ) → 4 * l.row ≤ m → get_or l.tail m 0 ≡ get_or l.initial.tail m 0;
  done : (rule : Record → Bool) → FollowsIn l.held (λ r b. goal.F-post g l.goes r b) rule l.initial.tail → Closes rule l.held l.initial.tail →
      (l.kept ≡ length (stay rule (records l.row l.initial.tail))) × (l.tail ≡ closed rule l.row l.initial.tail);
}
