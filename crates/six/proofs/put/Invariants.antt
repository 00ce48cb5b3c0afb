-- `put` meets its contract: the words passed are the values'.
use Rattle.std.proofs.Common.{◌≡◌, take}
use Rattle.six.proofs.put.Given as goal

abbrev pub invariant-loop-k : goal.invariant-loop-k
invariant-loop-k l = take l.k l.words ≡ take l.k l.fn.values
