-- `seal` meets its contract: the sum of the bytes passed, and its wrapped negation after the last.
use Rattle.std.proofs.Common.{◌≡◌, take}
use Rattle.meaning.specs.Frames.{total}
use Rattle.fields.proofs.seal.Given as goal

abbrev pub invariant-loop-x : goal.invariant-loop-x
invariant-loop-x l = l.sum ≡ total (take l.x-index l.x-items)
