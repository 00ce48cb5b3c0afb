-- `put` meets its contract: the words passed are the values'.
use native.Mathlib.Omega.{arith}
use Rattle.six.proofs.SixLaws.{stored_more, stored_all}
use Rattle.six.proofs.put.Goals as goal

pub loop-k-preserved : goal.loop-k-preserved
loop-k-preserved c = stored_more c.loop-k.words c.args.values c.loop-k.k (omega arith) (omega arith) c.loop-k.invariant

pub returns : goal.returns
returns c = stored_all c.loop-k.words c.args.values c.loop-k.k (omega arith) (omega arith) c.loop-k.invariant
