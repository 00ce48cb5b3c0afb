-- `entry` is a space and a number, one after the other.
use native.Mathlib.Omega.{arith}
use Rattle.printing.proofs.Writing.{spaced_one}
use Rattle.printing.proofs.Printing.{printed_then, printed_as}
use Rattle.printing.proofs.Printer.entry.Goals as goal

pub returns : goal.returns
returns c =
    printed_as (spaced_one c.args.v) (omega arith) (printed_then c.put.ensures c.number.ensures)
