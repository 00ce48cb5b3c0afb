-- `purges::smallest` meets its contract: the invariant says that `low` is above none of the entries passed and not below the smallest.
use Rattle.std.proofs.Common.{arith}
use Rattle.columns.proofs.LowerLaws.{low_most, low_more, low_all}
use Rattle.purges.proofs.smallest.Goals as goal

pub loop-entry-init : goal.loop-entry-init
loop-entry-init c = low_most c.args.row.now c.requires (λ i. let fits = c.type_inv.row i in omega arith)

pub loop-entry-preserved : goal.loop-entry-preserved
loop-entry-preserved c =
    low_more c.args.row.now c.loop-entry.entry-index c.loop-entry.low c.min-low.result (omega arith) c.min-low.ensures c.loop-entry.invariant

pub returns : goal.returns
returns c = low_all c.args.row.now c.loop-entry.entry-index c.loop-entry.low c.requires (omega arith) c.loop-entry.invariant
