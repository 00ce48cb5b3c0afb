-- `rows::fill_raised` meets its contract: the entries passed are the greater of the two rows'.
use Rattle.std.proofs.Common.{◌≡◌, ℕ, ◌<◌, get_or, max}
use Rattle.rows.proofs.fill_raised.Given as goal

abbrev pub invariant-loop-i : goal.invariant-loop-i
invariant-loop-i l = (k : ℕ) → k < l.i → get_or l.row k 0 ≡ max (get_or l.mine k 0) (get_or l.theirs k 0)
