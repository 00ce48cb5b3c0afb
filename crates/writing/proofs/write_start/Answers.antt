-- `write_start` meets its contract: a count that is wrong, or what `start` answers.
use native.Mathlib.Omega.{arith}
use Rattle.meaning.proofs.FrameLaws.{count_right_lem, count_wrong, started_count}
use Rattle.writing.proofs.write_start.Goals as goal

pub start-requires : goal.start-requires
start-requires c = count_right_lem c.args.n (omega arith) (omega arith)

pub returns-in_default : goal.returns-in_default
returns-in_default c =
    started_count c.args.out.now c.args.n (count_wrong c.args.n (omega arith))

pub returns-in_default-2 : goal.returns-in_default-2
returns-in_default-2 c =
    started_count c.args.out.now c.args.n (count_wrong c.args.n (omega arith))
