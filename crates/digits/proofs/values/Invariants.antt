-- `values` meets its contract: the loop's invariant is what the bits seen tell of the characters passed, the sum of their bytes, and their numbers in v.
use Rattle.digits.proofs.DigitLaws.{Seen, Sum, Valued}
use Rattle.digits.proofs.values.Given as goal

abbrev pub invariant-loop-k : goal.invariant-loop-k
invariant-loop-k l = Seen l.s l.pass.seen l.k × Sum l.s l.pass.sum l.k × Valued l.s l.v l.k
