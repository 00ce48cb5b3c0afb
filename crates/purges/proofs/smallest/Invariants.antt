-- `purges::smallest` meets its contract: the invariant says that `low` is above none of the entries passed and not below the smallest.
use Rattle.columns.proofs.LowerLaws.{Low}
use Rattle.purges.proofs.smallest.Given as goal

abbrev pub invariant-loop-entry : goal.invariant-loop-entry
invariant-loop-entry l = Low l.row l.entry-index l.low
