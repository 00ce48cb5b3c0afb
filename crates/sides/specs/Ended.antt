-- One side of a session: what its functions require, and what they settle.
use Rattle.std.specs.Prelude.{◌≡◌, Bool, true, false, List, [], ◌∷◌, ℕ, ◌+◌, ◌*◌, ◌≤◌, ◌<◌, length}
use Rattle.meaning.specs.declared.Record.{Record}
use Rattle.meaning.specs.Rows.{newer, words}
use Rattle.meaning.specs.Table.{form_of, form_words, Node, nodes_most, log_most, held_at, log_at, row_pieces, lay, place, count, held, put_node, Sound}
use Rattle.meaning.specs.Node.{ended}
use Rattle.meaning.specs.Steps.{overfull, carried}
use Rattle.openings.specs.declared.Start.{Start}
use Rattle.openings.specs.declared.Party.{Party}
use Rattle.openings.specs.Begun.{begins, begins_whole, begins_shown, shown, crowds, Fits, Opens}

-- what of a log a side takes, comparing with a row: the newer records if it finishes
abbrev pub came : Bool → List ℕ → List Record → List Record
came true known log = newer known log
came false known log = []

-- the table with these records behind node p's last
abbrev pub grown : ℕ → List Record → List ℕ → List ℕ
grown p rs t =
    place (held_at (form_of t) p) ((held t p + length rs) ∷ []) (place (log_at (form_of t) p + 4 * held t p) (words rs) t)

-- the table with the rows of node p as they become, that begins as x, its partner as y: both vectors, or its columns
abbrev pub rows_put : Bool → ℕ → Node → Node → List ℕ → List ℕ
rows_put finishes p x y t = lay (row_pieces (form_of t) p (ended finishes p x y)) t

-- the table after one side, p, that begins as x, its partner as y
abbrev pub sided : Bool → ℕ → Node → Node → List ℕ → List ℕ
sided finishes p x y t = put_node p (ended finishes p x y) t

-- what a side takes of what it is shown
abbrev pub comes : List ℕ → Party → Party → List Record
comes t mine theirs = came mine.finishes mine.start.summary.now (shown t theirs)

-- Two nodes of a sound table, a row with an entry for each node, how many records the side has, how many of its partner's it is shown, and room for
-- what comes
pub record Takes (t : List ℕ) (mine theirs : Party) : Type 0 where
  pub is_sound : Sound t
  pub here : mine.start.node < count t
  pub there : theirs.start.node < count t
  pub apart : mine.start.node ≡ theirs.start.node → ⊥
  pub long : length mine.start.summary.now ≡ count t
  pub mine_held : mine.held ≡ held t mine.start.node
  pub theirs_held : theirs.held ≤ held t theirs.start.node
  pub room : crowds t mine theirs ≡ false

-- How many records the side then has, and the words at exit
pub record Took (t : List ℕ) (mine theirs : Party) (r : ℕ) (u : List ℕ) : Type 0 where
  pub total : r ≡ mine.held + length (comes t mine theirs)
  pub most : r ≤ log_most
  pub leaves : u ≡ grown mine.start.node (comes t mine theirs) t

-- A node of a table of a right length, and the starting rows, which are the table's but for its own entries
pub record Settles (t : List ℕ) (x : Start) : Type 0 where
  pub long : length t ≡ form_words (form_of t)
  pub high : count t ≤ nodes_most
  pub fits : Fits t x
  pub opens : Opens t x

-- The same with another node, its partner, and the starting rows of that one
pub record Merges (t : List ℕ) (mine theirs : Start) : Type 0 where
  pub settles : Settles t mine
  pub fits : Fits t theirs
  pub apart : mine.node ≡ theirs.node → ⊥

-- the words with the starting rows of a side that does not finish, and the words at exit of either
abbrev pub settled : List ℕ → Start → List ℕ
settled t x = lay (row_pieces (form_of t) x.node (begins t x [])) t

abbrev pub Merged : Bool → List ℕ → Start → Start → List ℕ → Type 0
Merged f t mine theirs u = u ≡ rows_put f mine.node (begins t mine []) (begins t theirs []) t

-- A side of a session: as for `Takes`, with the starting rows of both, its own the table's but for its own entries
pub record Sides (t : List ℕ) (mine theirs : Party) : Type 0 where
  pub is_sound : Sound t
  pub fits : Fits t mine.start
  pub theirs_fits : Fits t theirs.start
  pub apart : mine.start.node ≡ theirs.start.node → ⊥
  pub opens : Opens t mine.start
  pub mine_held : mine.held ≡ held t mine.start.node
  pub theirs_held : theirs.held ≤ held t theirs.start.node
  pub room : overfull mine.finishes (begins_whole t mine.start) (begins_shown t theirs) ≡ false

-- How many records the side then has, and the words at exit
pub record Sided (t : List ℕ) (mine theirs : Party) (r : ℕ) (u : List ℕ) : Type 0 where
  pub total : r ≡ mine.held + carried mine.finishes (begins_whole t mine.start) (begins_shown t theirs)
  pub most : r ≤ log_most
  pub leaves : u ≡ sided mine.finishes mine.start.node (begins_whole t mine.start) (begins_shown t theirs) t
