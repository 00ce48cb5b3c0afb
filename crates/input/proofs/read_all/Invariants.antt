-- `read_all`: at each turn there is room behind what has come.
use Prim.Native.Nat.{◌<◌}
use lib.ListN.{length}
use Rattle.input.proofs.read_all.Given as goal

abbrev pub invariant-loop-turn : goal.invariant-loop-turn
invariant-loop-turn g l = l.at < length l.bytes
