-- `spell` meets its contract: the digits of the bytes passed stand from place 0.
use Rattle.std.proofs.Common.{◌≡◌, take}
use Rattle.meaning.specs.Table.{place}
use Rattle.meaning.specs.Frames.{spelled}
use Rattle.spelling.proofs.spell.Given as goal

abbrev pub invariant-loop-k : goal.invariant-loop-k
invariant-loop-k l = l.d ≡ place 0 (spelled (take l.k l.b)) l.initial.d
