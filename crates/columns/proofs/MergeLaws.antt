-- What `columns::merge` leaves, in the terms of the definition of a side that finishes.
use mathlib.Core.Path.{◌≡◌, refl}
use mathlib.Core.List.{List}
use Prim.Native.Nat.{ℕ}
use Rattle.meaning.specs.Table.{Columns, Node, row_pieces, lay}
use Rattle.meaning.specs.Node.{finished, learnt}
use Rattle.columns.specs.Merged.{put_columns, joined}

-- the rows of a side p that begins as x and finishes, its partner as y
pub joined-finished :
    (p : ℕ) (x y : Node) (t : List ℕ) →
    put_columns p (joined p x.summary y.summary x.columns y.columns) t ≡ lay (row_pieces Columns p (finished p x y)) t
unfolding finished learnt
joined-finished p x y t = refl
