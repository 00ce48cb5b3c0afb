-- The table: its two forms, where each part stands, a node in it, a fresh one, soundness. Document 01, "The table"; document 02, T-04: "The table grows
-- by 16 words at its end", the marks; and T-06, the form of columns: "each node keeps a column of summary entries for every node, its own being its
-- summary (16 × 16 rows of 16 in place of both vectors, 8,225 words)".
-- No other file of the product's definitions knows an offset.
use Rattle.std.specs.Prelude.{
  ◌≡◌,
  Bool,
  true,
  not,
  ◌&&◌,
  cond,
  List,
  [],
  ◌∷◌,
  ◌++◌,
  ℕ,
  zero,
  suc,
  ◌+◌,
  ◌-◌,
  ◌*◌,
  ◌≤◌,
  ◌<◌,
  length,
  get_or,
  take,
  drop,
  replicate,
  leb,
  ltb,
  eqb,
}
use Rattle.meaning.specs.declared.Record.{Record}
use Rattle.meaning.specs.Rows.{every, all, unless, record_at, records, words}
use Rattle.meaning.specs.Refusals.{test, first}

-- A table with a summary and acknowledgements for each node, or with columns
pub data Form : Type 0 where
  Vectors : Form
  Columns : Form

-- The words of all nodes' rows: 16 summaries and 16 acknowledgement rows of 16, or 16 × 16 columns of 16
abbrev pub rows_most : Form → ℕ
rows_most Vectors = 512
rows_most Columns = 4096

-- A lent table of exactly 4,641 or 8,225 words: the count, the rows, held (16), logs (16 × 64 rows of 4), marks (16)
abbrev pub form_words : Form → ℕ
form_words f = 4129 + rows_most f

-- the length tells the form
unfoldable pub form_of : List ℕ → Form
form_of t = cond (eqb (length t) (form_words Columns)) Columns Vectors

abbrev pub nodes_most : ℕ
nodes_most = 16

abbrev pub log_most : ℕ
log_most = 64

abbrev pub count_at : ℕ
count_at = 0

-- node p's column for q
abbrev pub column_at : ℕ → ℕ → ℕ
column_at p q = 1 + 256 * p + 16 * q

-- a node's summary, on columns the own one of its columns
abbrev pub summary_at : Form → ℕ → ℕ
summary_at Vectors p = 1 + 16 * p
summary_at Columns p = column_at p p

abbrev pub acks_at : ℕ → ℕ
acks_at p = 257 + 16 * p

abbrev pub held_at : Form → ℕ → ℕ
held_at f p = 1 + rows_most f + p

abbrev pub log_at : Form → ℕ → ℕ
log_at f p = 17 + rows_most f + 256 * p

abbrev pub mark_at : Form → ℕ → ℕ
mark_at f p = 4113 + rows_most f + p

-- how many acknowledgements and how many columns a node of n has
abbrev pub acks_wide : Form → ℕ → ℕ
acks_wide Vectors n = n
acks_wide Columns n = 0

abbrev pub columns_wide : Form → ℕ → ℕ
columns_wide Vectors n = 0
columns_wide Columns n = n

-- k words from a place, and a list put over the words from a place
unfoldable pub part : ℕ → ℕ → List ℕ → List ℕ
part at k t = take k (drop at t)

unfoldable pub place : ℕ → List ℕ → List ℕ → List ℕ
place at ys t = take at t ++ (ys ++ drop (at + length ys) t)

unfoldable pub count : List ℕ → ℕ
count t = get_or t count_at 0

-- "a node number is n or more"
abbrev pub absent : List ℕ → ℕ → Bool
absent t p = leb (count t) p

unfoldable pub held : List ℕ → ℕ → ℕ
held t p = get_or t (held_at (form_of t) p) 0

-- "each node has a mark, at first 0"
unfoldable pub mark : List ℕ → ℕ → ℕ
mark t p = get_or t (mark_at (form_of t) p) 0

-- k columns of n entries, 16 words from one to the next
unfoldable pub columns_from : ℕ → ℕ → ℕ → List ℕ → List (List ℕ)
columns_from zero at n t = []
columns_from (suc k) at n t = part at n t ∷ columns_from k (at + 16) n t

-- A node: its summary, its acknowledgements (n entries each) and its log, oldest first; on columns it has no acknowledgement, and a column of n entries
-- for every node, "its own being its summary". Its mark stands beside it: only a delivery moves a mark
pub record Node : Type 0 where
  pub summary : List ℕ
  pub acks : List ℕ
  pub columns : List (List ℕ)
  pub log : List Record

unfoldable pub node : List ℕ → ℕ → Node
node t p =
    record {
      summary = part (summary_at (form_of t) p) (count t) t;
      acks = part (acks_at p) (acks_wide (form_of t) (count t)) t;
      columns = columns_from (columns_wide (form_of t) (count t)) (column_at p 0) (count t) t;
      log = records (held t p) (part (log_at (form_of t) p) (4 * log_most) t);
    }

-- Words that go to a place of the table; and such pieces laid over it, the last of the list first
pub record Piece : Type 0 where
  pub at : ℕ
  pub new : List ℕ

abbrev pub piece : ℕ → List ℕ → Piece
piece at new = record { at = at; new = new }

unfoldable pub lay : List Piece → List ℕ → List ℕ
lay [] t = t
lay (x ∷ xs) t = place x.at x.new (lay xs t)

-- a log's held rows; rows that it no longer holds "become zero"
abbrev pub log_words : ℕ → Node → List ℕ → List ℕ
log_words p x t = words x.log ++ replicate (4 * (held t p - length x.log)) 0

unfoldable pub column_pieces : ℕ → List (List ℕ) → List Piece
column_pieces at [] = []
column_pieces at (c ∷ cs) = piece at c ∷ column_pieces (at + 16) cs

-- a node's words and where they go: its n entries of each row, its held number, its log
abbrev pub row_pieces : Form → ℕ → Node → List Piece
row_pieces Vectors p x = piece (summary_at Vectors p) x.summary ∷ piece (acks_at p) x.acks ∷ []
row_pieces Columns p x = column_pieces (column_at p 0) x.columns

unfoldable pub pieces : Form → ℕ → Node → List ℕ → List Piece
pieces f p x t = row_pieces f p x ++ (piece (held_at f p) (length x.log ∷ []) ∷ piece (log_at f p) (log_words p x t) ∷ [])

-- the table with node p changed
unfoldable pub put_node : ℕ → Node → List ℕ → List ℕ
put_node p x t = lay (pieces (form_of t) p x t) t

-- the table with node p's mark changed
unfoldable pub put_mark : ℕ → ℕ → List ℕ → List ℕ
put_mark p m t = place (mark_at (form_of t) p) (m ∷ []) t

-- "A fresh table has its count set and every other word zero."
unfoldable pub fresh : Form → ℕ → List ℕ
fresh f n = n ∷ replicate (form_words f - 1) 0

abbrev pub count_right : ℕ → Bool
count_right n = leb 2 n && leb n nodes_most

-- the length is that of a form
abbrev pub length_right : List ℕ → Bool
length_right t = eqb (length t) (form_words (form_of t))

-- "Making one is refused with 1, the lent words unchanged, if the count or the length is wrong."
unfoldable pub fresh_refusal : List ℕ → ℕ → ℕ
fresh_refusal t n = first (test 1 (not (count_right n)) ∷ test 1 (not (length_right t)) ∷ [])

-- the form is that of the lent length
unfoldable pub made_fresh : List ℕ → ℕ → List ℕ
made_fresh t n = unless (fresh_refusal t n) (fresh (form_of t) n) t

-- "every record within the held part of those logs has origin below n and verdict at most 255"
unfoldable pub record_sound : ℕ → Record → Bool
record_sound n r = ltb r.origin n && leb r.verdict 255

unfoldable pub log_sound : List ℕ → ℕ → Bool
log_sound t p = leb (held t p) log_most && every (held t p) (λ i. record_sound (count t) (record_at (part (log_at (form_of t) p) (4 * log_most) t) i))

-- "A table is sound if its length is" 4,641 or 8,225, "its count is 2 to 16, every held number of a node below n is at most 64, and .."
unfoldable pub sound : List ℕ → Bool
sound t = length_right t && (count_right (count t) && every (count t) (log_sound t))

-- The same as facts, for the functions that work on a table known to be sound
pub record Sound (t : List ℕ) : Type 0 where
  pub long : length t ≡ form_words (form_of t)
  pub low : 2 ≤ count t
  pub high : count t ≤ nodes_most
  pub room : (p : ℕ) → p < count t → held t p ≤ log_most
  pub right : (p : ℕ) → p < count t → all (record_sound (count t)) (node t p).log ≡ true

-- A node that fits a table of this form and n nodes as its node p
pub record Shaped (f : Form) (n p : ℕ) (x : Node) : Type 0 where
  pub summary_long : length x.summary ≡ n
  pub acks_long : length x.acks ≡ acks_wide f n
  pub columns_long : length x.columns ≡ columns_wide f n
  pub column_long : (q : ℕ) → q < length x.columns → length (get_or x.columns q []) ≡ n
  pub column_own : p < length x.columns → get_or x.columns p [] ≡ x.summary
  pub log_short : length x.log ≤ log_most
