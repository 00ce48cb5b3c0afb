-- `all_lines` is the first line and the nodes' lines.
use mathlib.Core.Path.{refl}
use native.Mathlib.Omega.{arith}
use Rattle.printing.proofs.Printing.{printed_as, printed_then}
use Rattle.text.proofs.all_lines.Goals as goal

pub returns : goal.returns
returns c = printed_as refl (omega arith) (printed_then c.first_line.ensures c.node_lines.ensures)
