-- `total` meets its contract: the loop's invariant is what the bits seen tell of the characters passed, and the sum of their bytes.
use Rattle.digits.proofs.DigitLaws.{Seen, Sum}
use Rattle.digits.proofs.total.Given as goal

abbrev pub invariant-loop-k : goal.invariant-loop-k
invariant-loop-k l = Seen l.s l.pass.seen l.k × Sum l.s l.pass.sum l.k
