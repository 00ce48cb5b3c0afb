-- What a purge of a table with columns goes by. Document 02, T-06.
use Rattle.std.specs.Prelude.{◌≡◌, List, ℕ, ◌≤◌, ◌<◌, length}
use Rattle.meaning.specs.Rows.{least, lower, lowest}
use Rattle.meaning.specs.Table.{Columns, form_of, form_words, nodes_most, count, node}
use Rattle.meaning.specs.Steps.{lagging}

-- a row lowered by a column, and that column's smallest entry
abbrev pub LoweredBy : List ℕ → List ℕ → List ℕ → ℕ → Type 0
LoweredBy row column next low = (next ≡ lower row column) × (low ≡ least column)

-- A node of a table of columns, n its count, and a row of n words
pub record Lowers (row t : List ℕ) (p n : ℕ) : Type 0 where
  pub long : length t ≡ form_words (form_of t)
  pub form : form_of t ≡ Columns
  pub high : count t ≤ nodes_most
  pub nodes : n ≡ count t
  pub there : p < n
  pub wide : length row ≡ n

-- The row that then has the smallest of its columns, entry by entry, and who holds a purge up: "the first whose column has the smallest entry of all"
pub record Lowest (t : List ℕ) (p n : ℕ) (row : List ℕ) (at : ℕ) : Type 0 where
  pub smallest : row ≡ lowest (node t p).columns
  pub lags : at ≡ lagging t p
  pub below : at < n
