-- What C is told of a table that it looks into: an entry of a node's rows, its held number, a word of a record, its mark, and 0 where there is none.
use Rattle.std.specs.Prelude.{Bool, ◌&&◌, cond, List, [], ◌∷◌, ℕ, length, get_or, ltb}
use Rattle.meaning.specs.declared.Record.{Record}
use Rattle.meaning.specs.Rows.{words}
use Rattle.meaning.specs.Table.{count, mark, node, sound}

-- the table is sound and has a node p
unfoldable pub present : List ℕ → ℕ → Bool
present t p = sound t && ltb p (count t)

-- "row p, entry o: node p has every record of node o up to this timestamp"; a row has n entries, and on columns it is the node's own column
unfoldable pub summary_entry : List ℕ → ℕ → ℕ → ℕ
summary_entry t p o = cond (present t p) (get_or (node t p).summary o 0) 0

-- "row p, entry q: what p knows that q has acknowledged"; a row has n entries, and none on columns
unfoldable pub ack_entry : List ℕ → ℕ → ℕ → ℕ
ack_entry t p q = cond (present t p) (get_or (node t p).acks q 0) 0

-- "each node keeps a column of summary entries for every node": p's column for q, entry o; n columns of n entries, and none on vectors
unfoldable pub column_entry : List ℕ → ℕ → ℕ → ℕ → ℕ
column_entry t p q o = cond (present t p) (get_or (get_or (node t p).columns q []) o 0) 0

-- "records in each node's log"
unfoldable pub held_number : List ℕ → ℕ → ℕ
held_number t p = cond (present t p) (length (node t p).log) 0

-- what stands for a record that is not held
abbrev pub nothing : Record
nothing = record { origin = 0; timestamp = 0; block = 0; verdict = 0 }

-- "origin, timestamp, block, verdict": word k, from 0, of the record at place i of p's log, oldest first
unfoldable pub record_word : List ℕ → ℕ → ℕ → ℕ → ℕ
record_word t p i k = cond (present t p) (get_or (words (get_or (node t p).log i nothing ∷ [])) k 0) 0

-- "each node has a mark, at first 0"
unfoldable pub mark_entry : List ℕ → ℕ → ℕ
mark_entry t p = cond (present t p) (mark t p) 0
