-- `node_lines`: what is printed so far is the lines of the nodes passed so far.
use native.Mathlib.Omega.{arith}
use Rattle.printing.proofs.Printing.{printed_none, printed_as, printed_then}
use Rattle.nodelines.proofs.LineLaws.{lines_none, lines_more}
use Rattle.nodelines.proofs.node_lines.Goals as goal

pub loop-p-init : goal.loop-p-init
loop-p-init c = printed_as (lines_none c.args.table.now.words.now) (omega arith) (printed_none c.args.printer.now 0 (omega arith))

pub loop-p-preserved : goal.loop-p-preserved
loop-p-preserved c =
    let l = c.loop-p in
    printed_as (lines_more l.p c.args.table.now.words.now) (omega arith) (printed_then l.invariant c.node_line.ensures)
