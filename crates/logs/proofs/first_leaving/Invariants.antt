-- `logs::first_leaving` meets its contract: the invariant is that all records of the rows passed stay, by each rule that the test follows.
use Rattle.std.proofs.Common.{◌≡◌, Bool}
use Rattle.meaning.specs.declared.Record.{Record}
use Rattle.meaning.specs.Rows.{records}
use Rattle.records.specs.Tests.{Follows}
use Rattle.logs.specs.Carry.{stay}
use Rattle.logs.proofs.first_leaving.Given as goal

abbrev pub invariant-loop-row : goal.invariant-loop-row
invariant-loop-row g l =
    (rule : Record → Bool) → Follows (λ r b. goal.F-post g l.goes r b) rule l.log → stay rule (records l.row l.log) ≡ records l.row l.log
