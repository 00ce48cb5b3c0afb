-- What becomes of a node's columns in a session that it finishes. Document 02, T-06.
use Rattle.std.specs.Prelude.{◌≡◌, List, ℕ, ◌≤◌, ◌<◌, length, get_or, set}
use Rattle.meaning.specs.Rows.{raise, raise_each}
use Rattle.meaning.specs.Table.{
  Columns,
  form_of,
  form_words,
  nodes_most,
  column_at,
  part,
  place,
  count,
  columns_from,
  node,
  lay,
  column_pieces,
}
use Rattle.rows.specs.Entry.{OneEntry}

-- node p's n columns of n entries
abbrev pub columns_of : ℕ → ℕ → List ℕ → List (List ℕ)
columns_of n p t = columns_from n (column_at p 0) n t

-- the columns that node q brings to a session, its own the one that it begins with
abbrev pub brought : ℕ → ℕ → List ℕ → List ℕ → List (List ℕ)
brought n q own t = set (columns_of n q t) q own

-- the table with node p's columns changed
abbrev pub put_columns : ℕ → List (List ℕ) → List ℕ → List ℕ
put_columns p cs t = lay (column_pieces (column_at p 0) cs) t

-- "takes the greater starting value entry by entry" in every column, "and its own column also takes the partner's own": the columns of
-- `Node.finished`, from the own ones and all columns of both sides
abbrev pub joined : ℕ → List ℕ → List ℕ → List (List ℕ) → List (List ℕ) → List (List ℕ)
joined p sp sq cs ds = set (raise_each cs ds) p (raise (get_or (raise_each cs ds) p sp) sq)

-- n words from a place raised by a row
abbrev pub raised_by : ℕ → ℕ → List ℕ → List ℕ → List ℕ
raised_by n at row t = place at (raise (part at n t) row) t

-- the table with each of p's columns raised by what q brings, and as a side p that finishes leaves it
abbrev pub raised_columns : ℕ → ℕ → ℕ → List ℕ → List ℕ → List ℕ
raised_columns n p q sq t = put_columns p (raise_each (columns_of n p t) (brought n q sq t)) t

abbrev pub merged_columns : ℕ → ℕ → List ℕ → List ℕ → List ℕ → List ℕ
merged_columns p q sp sq t = put_columns p (joined p sp sq (set (node t p).columns p sp) (set (node t q).columns q sq)) t

-- Two nodes of n in a table that has room for all columns, and a row of n entries for the partner's own one
pub record Raises (t : List ℕ) (p q n : ℕ) (sq : List ℕ) : Type 0 where
  pub room : column_at nodes_most 0 ≤ length t
  pub few : n ≤ nodes_most
  pub mine : p < n
  pub theirs : q < n
  pub apart : p ≡ q → ⊥
  pub wide : length sq ≡ n

-- The same of a table of columns and n its count, with the own column of p, which is the table's but for its own entry
pub record Merges (t : List ℕ) (p q n : ℕ) (sp sq : List ℕ) : Type 0 where
  pub long : length t ≡ form_words (form_of t)
  pub form : form_of t ≡ Columns
  pub high : count t ≤ nodes_most
  pub nodes : n ≡ count t
  pub mine : p < n
  pub theirs : q < n
  pub apart : p ≡ q → ⊥
  pub own : length sp ≡ n
  pub wide : length sq ≡ n
  pub entry : OneEntry t (column_at p p) p sp
