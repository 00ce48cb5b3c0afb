-- `all`: each case takes bytes away from what is left.
use lib.ListN.{length}
use Rattle.edges.proofs.cases.all.Given as goal

abbrev pub decreases-loop-rest : goal.decreases-loop-rest
decreases-loop-rest l = length l.rest
