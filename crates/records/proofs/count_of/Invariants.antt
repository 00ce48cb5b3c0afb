-- `records::count_of` meets its contract: the invariant is that the records of the rows passed are counted by each rule that the test follows.
use Rattle.std.proofs.Common.{◌≡◌, Bool, length, ◌≤◌}
use Rattle.meaning.specs.declared.Record.{Record}
use Rattle.meaning.specs.Rows.{keep, records}
use Rattle.records.specs.Tests.{Follows}
use Rattle.records.proofs.count_of.Given as goal

abbrev pub invariant-loop-row : goal.invariant-loop-row
invariant-loop-row g l =
    (l.count ≤ l.row)
    × ((rule : Record → Bool) → Follows (λ r b. goal.F-post g l.passes r b) rule l.log → l.count ≡ length (keep rule (records l.row l.log)))
