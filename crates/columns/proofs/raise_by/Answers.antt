-- `columns::raise_by` meets its contract: a row with the greater of both entries at each place is `raise` of the two.
use Rattle.rows.proofs.RaiseLaws.{raise_is}
use Rattle.std.proofs.Common.{arith}
use Rattle.columns.proofs.raise_by.Goals as goal

pub returns : goal.returns
returns c = raise_is c.args.row.now c.args.other.now c.loop-i.row c.requires c.loop-i.auto.row (λ k h. c.loop-i.invariant.raised k (omega arith))
