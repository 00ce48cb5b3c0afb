-- `openings::row_with` meets its contract: the row copied, then one word of it changed.
use mathlib.Core.Path.{◌≡◌, ap, ◌∙◌}
use mathlib.Core.List.{List}
use Prim.Native.Nat.{ℕ, ◌+◌, ◌-◌}
use lib.ListN.{take, drop, set}
use Rattle.meaning.specs.Table.{part, nodes_most}
use Rattle.meaning.proofs.PlaceLaws.{part_lent}
use Rattle.openings.proofs.row_with.Goals as goal

changed : (t w : List ℕ) (at i v : ℕ) → w ≡ take ((at + nodes_most) - at) (drop at t) → set w i v ≡ set (part at nodes_most t) i v
changed t w at i v e = ap (λ (z : List ℕ). set z i v) (e ∙ part_lent at nodes_most t)

pub returns : goal.returns
returns c =
    changed c.args.t.now c.copy_row.new.to c.args.at c.args.i c.args.v c.copy_row.ensures
