-- `first_line` is four texts, one after the other.
use native.Mathlib.Omega.{arith}
use Rattle.printing.proofs.Printing.{printed_as, printed_then}
use Rattle.textlines.proofs.LineLaws.{first_is}
use Rattle.textlines.proofs.first_line.Goals as goal

pub returns : goal.returns
returns c =
    let done = c.args.done in
    printed_as (first_is done.n done.steps done.refused) (omega arith)
    (printed_then c.said_one.ensures (printed_then c.said_one-2.ensures (printed_then c.said_one-3.ensures c.put.ensures)))
