-- `apply_from`: at every line, what is left gives the answer and the table of the whole (`Reached`), and the table is the same words. Each line passes
-- at least its LF, in a turn or by the reader.
use Prim.Native.Nat.{◌-◌}
use lib.ListN.{length}
use Rattle.looks.specs.Words.{SameWords}
use Rattle.lines.proofs.Applying.{Reached}
use Rattle.lines.proofs.apply_from.Given as goal

abbrev pub invariant-loop-x : goal.invariant-loop-x
invariant-loop-x l = Reached l.s l.from l.first l.initial.t.words.now l.t.words.now l.stop l.steps l.refused × SameWords l.initial.t l.t

abbrev pub decreases-loop-x : goal.decreases-loop-x
decreases-loop-x l = length l.s - l.stop
