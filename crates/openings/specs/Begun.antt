-- What a side of a session begins with, as the code keeps it: its starting summary, on vectors its acknowledgement row too, and the table's columns.
-- And whether it has room.
use Rattle.std.specs.Prelude.{◌≡◌, Bool, ◌&&◌, List, ℕ, ◌+◌, ◌*◌, ◌≤◌, ◌<◌, length, set, take, ltb}
use Rattle.meaning.specs.declared.Record.{Record}
use Rattle.meaning.specs.Rows.{newer, records}
use Rattle.meaning.specs.Table.{Vectors, form_of, Node, log_most, acks_wide, summary_at, acks_at, log_at, part, count, held, node, Sound}
use Rattle.meaning.specs.Node.{opened}
use Rattle.rows.specs.Entry.{OneEntry}
use Rattle.openings.specs.declared.Reading.{Reading}
use Rattle.openings.specs.declared.Start.{Start}
use Rattle.openings.specs.declared.Party.{Party}
use Rattle.openings.specs.declared.Which.{Which}
use Rattle.openings.specs.declared.Which.TheVariants.{A, B}

-- the outcome at which a side alone finishes
abbrev pub alone : Which → ℕ
alone A = 1
alone B = 2

-- the node that a side's starting rows and a log make: its columns are the table's, but that its own is its starting summary
abbrev pub begun : List ℕ → ℕ → List ℕ → List ℕ → List Record → Node
begun t p summary acks log = record { summary = summary; acks = acks; columns = set (node t p).columns p summary; log = log }

-- the first entries of two rows, n and as many as there are acknowledgements, are the starting values of a node
abbrev pub Starts : List ℕ → Reading → List ℕ → List ℕ → Type 0
Starts t r summary acks =
    begun t r.node (take (count t) summary) (take (acks_wide (form_of t) (count t)) acks) (node t r.node).log ≡ opened r.node r.time (node t r.node)

-- rows that differ from node p's in its own entries alone
abbrev pub OwnOnly : List ℕ → ℕ → List ℕ → List ℕ → Type 0
OwnOnly t p summary acks = OneEntry t (summary_at (form_of t) p) p summary × (form_of t ≡ Vectors → OneEntry t (acks_at p) p acks)

-- the first k records of node q's log
abbrev pub held_log : List ℕ → ℕ → ℕ → List Record
held_log t q k = records k (part (log_at (form_of t) q) (4 * log_most) t)

-- of a partner's log the records that a side is shown
abbrev pub shown : List ℕ → Party → List Record
shown t theirs = held_log t theirs.start.node theirs.held

-- the node that a start makes with a log, with the whole of its own, and with what of that is shown
abbrev pub begins : List ℕ → Start → List Record → Node
begins t x log = begun t x.node x.summary.now x.acks.now log

abbrev pub begins_whole : List ℕ → Start → Node
begins_whole t x = begins t x (node t x.node).log

abbrev pub begins_shown : List ℕ → Party → Node
begins_shown t theirs = begins t theirs.start (shown t theirs)

-- A start of one of the table's nodes: its rows have as many entries as the node's
pub record Fits (t : List ℕ) (x : Start) : Type 0 where
  pub here : x.node < count t
  pub summary_long : length x.summary.now ≡ count t
  pub acks_long : length x.acks.now ≡ acks_wide (form_of t) (count t)

-- and its rows differ from the node's in the own entries alone
abbrev pub Opens : List ℕ → Start → Type 0
Opens t x = OwnOnly t x.node x.summary.now x.acks.now

-- a side that finishes would hold more than 64, those that it is shown and that are newer than its starting summary among them
abbrev pub crowds : List ℕ → Party → Party → Bool
crowds t mine theirs = mine.finishes && ltb log_most (mine.held + length (newer mine.start.summary.now (shown t theirs)))

-- A partner of a sound table's nodes, shown as many records as it has at most; and a side with a row that has an entry for each node, and with as many
-- records as a log has at most
pub record Shows (t : List ℕ) (mine theirs : Party) : Type 0 where
  pub is_sound : Sound t
  pub there : theirs.start.node < count t
  pub long : length mine.start.summary.now ≡ count t
  pub mine_held : mine.held ≤ log_most
  pub theirs_held : theirs.held ≤ held t theirs.start.node
