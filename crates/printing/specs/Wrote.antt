-- What writing a text into a lent buffer means, and the number that decimal digits say.
use Rattle.std.specs.Prelude.{◌≡◌, List, [], ◌∷◌, ℕ, ◌+◌, ◌-◌, ◌*◌, ◌≤◌, length}
use Rattle.meaning.specs.Table.{place}

-- A text of at most so many bytes was written at a place of the buffer t, which is then t'; r is the place after it.
pub record Wrote (t : List ℕ) (at : ℕ) (text : List ℕ) (most r : ℕ) (t' : List ℕ) : Type 0 where
  pub to : r ≡ at + length text
  pub within : r ≤ at + most
  pub is : t' ≡ place at text t

-- The number that decimal digits say, the higher ones first, after those already read
unfoldable pub value_from : ℕ → List ℕ → ℕ
value_from v [] = v
value_from v (c ∷ cs) = value_from (10 * v + (c - 48)) cs
