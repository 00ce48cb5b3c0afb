-- `columns::lowest` meets its contract: the row is the smallest of the columns passed, and the search for the smallest entry of them is as far
-- (`LeastLaws.Found`).
use Rattle.std.proofs.Common.{◌≡◌, ℕ, ◌<◌, List, length, take, replicate, map}
use Rattle.meaning.specs.Rows.{least, lowest}
use Rattle.columns.specs.Merged.{columns_of}
use Rattle.rows.proofs.LeastLaws.{Found}
use Rattle.columns.proofs.lowest.Given as goal

-- the first k columns
pub record Lowered (t : List ℕ) (p n k : ℕ) (row : List ℕ) (low at : ℕ) : Type 0 where
  pub most : k ≡ 0 → row ≡ replicate n 4294967295
  pub smallest : 0 < k → row ≡ lowest (take k (columns_of n p t))
  pub found : Found (map least (columns_of n p t)) low at k

abbrev pub invariant-loop-q : goal.invariant-loop-q
invariant-loop-q l = Lowered l.t l.p (length l.initial.row) l.q l.row l.low l.at
