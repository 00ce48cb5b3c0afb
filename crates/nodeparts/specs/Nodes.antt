-- The words of a table that a node's line prints. Document 01, "Frames and journals": what the replay prints.
use Rattle.std.specs.Prelude.{◌≡◌, List, ◌++◌, ℕ, ◌≤◌, length}
use Rattle.meaning.specs.Table.{Vectors, form_words, nodes_most, count, part}
use Rattle.meaning.specs.Journals.{spaced}

-- a word and the first n entries of the table's row at a place
abbrev pub said_part : List ℕ → List ℕ → ℕ → List ℕ
said_part word t from = word ++ spaced (part from (count t) t)

-- A list of words with the length of a table of vectors, which alone are printed, and a count that its rows have room for
pub record Nodes (t : List ℕ) : Type 0 where
  pub long : length t ≡ form_words Vectors
  pub few : count t ≤ nodes_most
