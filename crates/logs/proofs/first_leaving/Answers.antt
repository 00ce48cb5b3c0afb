-- `logs::first_leaving` meets its contract: all records of the rows passed stay, and so does that of one row more at which the test says so.
use Rattle.std.proofs.Common.{sym, ◌∙◌}
use Rattle.logs.proofs.MoveLaws.{stay_none, stay_next}
use Rattle.logs.proofs.first_leaving.Goals as goal

pub loop-row-init : goal.loop-row-init
loop-row-init g c = λ rule f. stay_none rule c.args.log.now

pub loop-row-preserved : goal.loop-row-preserved
loop-row-preserved g c = λ rule f.
    let said = f c.loop-row.row c.goes.result c.loop-row-test.true (rw (← c.record_at.ensures) c.goes.ensures) in
    stay_next rule c.loop-row.row c.args.log.now (c.loop-row.invariant rule f) (sym said ∙ c.if-goes.false)
