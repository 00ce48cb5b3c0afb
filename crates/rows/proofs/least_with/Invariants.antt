-- `rows::least_with` meets its contract: the invariant is that of a search for the smallest (`LeastLaws.Found`).
use Rattle.std.proofs.Common.{set}
use Rattle.rows.proofs.LeastLaws.{Found}
use Rattle.rows.proofs.least_with.Given as goal

abbrev pub invariant-loop-k : goal.invariant-loop-k
invariant-loop-k l = Found (set l.row l.i l.v) l.low l.at l.k
