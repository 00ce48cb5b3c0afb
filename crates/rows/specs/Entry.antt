-- A row that is another but for one entry.
use Rattle.std.specs.Prelude.{◌≡◌, List, ℕ, length, get_or, set}
use Rattle.meaning.specs.Table.{part}

-- a row is the one that stands in a table from a place, but for its entry i
abbrev pub OneEntry : List ℕ → ℕ → ℕ → List ℕ → Type 0
OneEntry t at i row = row ≡ set (part at (length row) t) i (get_or row i 0)
