-- A replay's text by its lines, and what is written of it into a lent buffer.
use Rattle.std.specs.Prelude.{◌≡◌, Bool, true, ◌&&◌, cond, List, [], ◌++◌, ℕ, ◌≤◌, length, get_or, leb, eqb, Ok, Err}
use Rattle.meaning.specs.Table.{Vectors, form_words, nodes_most, count, place}
use Rattle.meaning.specs.Journals.{Outcome, outcome_values, node_lines}
use Rattle.textlines.specs.TextLines.{bad_line, unread_line, first_line}

-- The text of an outcome by its values: no line and a number; a refused line, its number and place; or after two zeros the three counts, and then
-- the nodes
abbrev pub printed_of : List ℕ → List ℕ → List ℕ
printed_of vs t =
    cond (eqb (length vs) 2) (unread_line (get_or vs 1 0))
    (cond (eqb (length vs) 3) (bad_line (get_or vs 0 0) (get_or vs 1 0) (get_or vs 2 0))
    (first_line (get_or vs 2 0) (get_or vs 3 0) (get_or vs 4 0) ++ node_lines (get_or vs 2 0) t))

-- Room for the text of every outcome: 79 bytes for its first line and 720 for the line of each of 16 nodes are 11,599.
abbrev pub text_most : ℕ
text_most = 12288

-- The table has the words that are printed. The text of a refusal asks for none.
abbrev pub has_nodes : Outcome → List ℕ → Bool
has_nodes (Ok x) t = eqb (length t) (form_words Vectors) && (leb (count t) nodes_most && leb x.n nodes_most)
has_nodes (Err x) t = true

-- A text was written from place 0 of the buffer out, which is then out'; r is its length, for which there is room.
pub record Shown (out text : List ℕ) (r : ℕ) (out' : List ℕ) : Type 0 where
  pub long : r ≡ length text
  pub is : out' ≡ place 0 text out
  pub fits : r ≤ length out
  pub most : r ≤ text_most

-- What is written from place 0: nothing where the buffer is shorter than that room or the table has not the words
unfoldable pub text_for : List ℕ → Outcome → List ℕ → List ℕ
text_for out outcome t = cond (leb text_most (length out) && has_nodes outcome t) (printed_of (outcome_values outcome) t) []
