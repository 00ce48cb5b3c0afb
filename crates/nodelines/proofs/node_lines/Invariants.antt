-- `node_lines`: what is printed so far is the lines of the nodes passed so far.
use Prim.Native.Nat.{◌*◌}
use Rattle.meaning.specs.Journals.{node_lines}
use Rattle.printing.specs.Printed.{Printed}
use Rattle.nodelines.proofs.node_lines.Given as goal

abbrev pub invariant-loop-p : goal.invariant-loop-p
invariant-loop-p l = Printed l.initial.printer (node_lines l.p l.table.words.now) (720 * l.p) l.printer
