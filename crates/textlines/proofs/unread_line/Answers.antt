-- `unread_line` is three texts, one after the other.
use native.Mathlib.Omega.{arith}
use Rattle.printing.proofs.Printing.{printed_as, printed_then}
use Rattle.textlines.proofs.LineLaws.{unread_is}
use Rattle.textlines.proofs.unread_line.Goals as goal

pub returns : goal.returns
returns c =
    rw (← c.from-number.ensures) (printed_as (unread_is c.from-number.result) (omega arith)
    (printed_then c.said_one.ensures (printed_then c.entry.ensures c.put.ensures)))
