-- `row`: what is printed so far is the row of the numbers passed so far.
use Prim.Native.Nat.{◌*◌}
use lib.ListN.{take}
use Rattle.meaning.specs.Journals.{spaced}
use Rattle.printing.specs.Printed.{Printed}
use Rattle.wording.proofs.row.Given as goal

abbrev pub invariant-loop-v : goal.invariant-loop-v
invariant-loop-v l = Printed l.initial.printer (spaced (take l.v-index l.vs)) (21 * l.v-index) l.printer
