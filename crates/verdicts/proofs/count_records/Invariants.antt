-- `verdicts::count_records`. The invariant: the records from word `end` on are counted.
use mathlib.Core.Path.{◌≡◌}
use Prim.Native.Nat.{◌*◌, ◌/◌}
use Rattle.verdicts.proofs.CountLaws.{Counting}
use Rattle.verdicts.proofs.count_records.Given as goal

abbrev pub invariant-loop-end : goal.invariant-loop-end
invariant-loop-end l = (l.end ≡ 4 * (l.end / 4)) × Counting l.words (l.end / 4) l.chains.heads l.chains.links l.counts.scrubbed l.counts.touched l.seen

abbrev pub decreases-loop-end : goal.decreases-loop-end
decreases-loop-end l = l.end
