-- `rows::fill_raised` meets its contract: each entry of the row that was lent comes back as the greater of the two rows'.
use Rattle.std.proofs.Common.{arith}
use Rattle.rows.proofs.RaiseLaws.{raise_is}
use Rattle.rows.proofs.fill_raised.Goals as goal

pub returns : goal.returns
returns c =
    raise_is c.args.mine.now c.args.theirs.now c.loop-i.row (omega arith) (omega arith) (λ k h. c.loop-i.invariant k (omega arith))
