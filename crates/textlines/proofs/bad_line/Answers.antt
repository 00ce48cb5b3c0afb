-- `bad_line` is four texts, one after the other.
use native.Mathlib.Omega.{arith}
use Rattle.printing.proofs.Printing.{printed_as, printed_then}
use Rattle.textlines.proofs.LineLaws.{bad_is}
use Rattle.textlines.proofs.bad_line.Goals as goal

pub returns : goal.returns
returns c =
    rw (← c.from-number.ensures) (printed_as (bad_is c.args.line c.from-number.result c.args.fault.place) (omega arith)
    (printed_then c.said_one.ensures (printed_then c.entry.ensures (printed_then c.entry-2.ensures c.put.ensures))))
