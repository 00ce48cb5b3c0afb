-- `columns::lower_by` meets its contract: a row with the smaller of both entries at each place is `lower` of the two.
use Rattle.std.proofs.Common.{arith}
use Rattle.std.proofs.lemmas.Grind.{common_steps}
use Rattle.columns.proofs.LowerLaws.{lower_is, low_most, low_more, low_all}
use Rattle.columns.proofs.lower_by.Goals as goal

pub loop-i-init : goal.loop-i-init
loop-i-init c = record {
  lowered = λ k h. omega arith;
  left = λ k h. cc;
  low = low_most c.args.column.now (omega arith) (λ i. let fits = c.type_inv.column i in omega arith);
}

pub loop-i-preserved : goal.loop-i-preserved
loop-i-preserved c = record {
  lowered = λ k h. grind (arith, common_steps);
  left = λ k h. grind (arith, common_steps);
  low = low_more c.args.column.now c.loop-i.i c.loop-i.low c.min-low.result (omega arith) c.min-low.ensures c.loop-i.invariant.low;
}

pub returns : goal.returns
returns c = (
  lower_is c.args.row.now c.args.column.now c.loop-i.row c.requires.0 c.loop-i.auto.row (λ k h. c.loop-i.invariant.lowered k (omega arith)),
  low_all c.args.column.now c.loop-i.i c.loop-i.low (omega arith) (omega arith) c.loop-i.invariant.low,
)
