-- `pairs::Chains::find`. The invariant: where the search from here ends, the search from the slot's head ends. Each link leads to a later record.
use Prim.Native.Nat.{ℕ, ◌*◌, ◌≤◌}
use lib.ListN.{length, get_or}
use Rattle.pairs.specs.Chains.{Seeks, a_pair, slot_of}
use Rattle.pairs.proofs.ChainLaws.{ahead}
use Rattle.pairs.proofs.Chains.find.Given as goal

abbrev pub invariant-loop-number : goal.invariant-loop-number
invariant-loop-number l = (4 * l.next ≤ length l.words) × ((n : ℕ) → Seeks l.words l.self.links (a_pair l.pair.origin l.pair.block) l.next n →
    Seeks l.words l.self.links (a_pair l.pair.origin l.pair.block) (get_or l.self.heads (slot_of (a_pair l.pair.origin l.pair.block)) 0) n)

abbrev pub decreases-loop-number : goal.decreases-loop-number
decreases-loop-number l = ahead l.next
