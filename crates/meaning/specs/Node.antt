-- What each action does to one node. Document 01, "The three actions"; document 02, T-04 and T-06.
use Rattle.std.specs.Prelude.{Bool, true, false, not, List, [], ◌∷◌, ◌++◌, map, ℕ, min, max, get_or, set, leb}
use Rattle.meaning.specs.declared.Record.{Record}
use Rattle.meaning.specs.Rows.{all, keep, least, raise, raise_each, covers, newer, due, in_order}
use Rattle.meaning.specs.Table.{Form, Vectors, Columns, Node}

-- a node's own summary entry
unfoldable pub own : ℕ → Node → ℕ
own p x = get_or x.summary p 0

-- On columns a node's own column is its summary: each action that changes the one changes the other. A node of vectors has no column to change.
-- Write: "The record with origin p goes after the last held record of p; the summary entry of p for itself becomes t."
unfoldable pub wrote : ℕ → ℕ → ℕ → ℕ → Node → Node
wrote p t block verdict x =
    record {
      summary = set x.summary p t;
      acks = x.acks;
      columns = set x.columns p (set x.summary p t);
      log = x.log ++ (record { origin = p; timestamp = t; block = block; verdict = verdict } ∷ []);
    }

-- Session: "the own summary entry becomes the reading, then the own acknowledgement entry becomes the smallest entry of that summary";
-- a node of columns has no acknowledgement
unfoldable pub opened : ℕ → ℕ → Node → Node
opened p reading x =
    record {
      summary = set x.summary p reading;
      acks = set x.acks p (least (set x.summary p reading));
      columns = set x.columns p (set x.summary p reading);
      log = x.log;
    }

-- what a side that finishes takes: "in the partner's log order, those records the partner held at the start" that are newer than its own starting summary
abbrev pub sent : Node → Node → List Record
sent mine theirs = newer mine.summary theirs.log

-- On columns a side that finishes "takes the greater starting value entry by entry", in every column
abbrev pub merged : Node → Node → List (List ℕ)
merged mine theirs = raise_each mine.columns theirs.columns

-- "and its own column also takes the partner's own"; on vectors, where no column stands, the summary takes the partner's
unfoldable pub learnt : ℕ → Node → Node → List ℕ
learnt p mine theirs = raise (get_or (merged mine theirs) p mine.summary) theirs.summary

-- "A side that finishes appends" them. "It then takes, entry by entry, the greater of both starting summaries and the greater of both starting
-- acknowledgement rows."
unfoldable pub finished : ℕ → Node → Node → Node
finished p mine theirs =
    record {
      summary = learnt p mine theirs;
      acks = raise mine.acks theirs.acks;
      columns = set (merged mine theirs) p (learnt p mine theirs);
      log = mine.log ++ sent mine theirs;
    }

-- "A side that doesn't finish keeps its starting values and takes no record."
abbrev pub ended : Bool → ℕ → Node → Node → Node
ended true p mine theirs = finished p mine theirs
ended false p mine theirs = mine

-- Purge: the held records for which a test says so leave
unfoldable pub purged : (Record → Bool) → Node → Node
purged leaves x = record { summary = x.summary; acks = x.acks; columns = x.columns; log = keep (λ r. not (leaves r)) x.log }

-- what a purge of a node with mark m goes by on vectors: "the smallest entry of p's acknowledgement row"; and it "removes only records that are also
-- not above the mark"
unfoldable pub limit_of : ℕ → Node → ℕ
limit_of m x = min (least x.acks) m

-- "Every held record whose timestamp is at most" that "leaves"; on columns "every column's entry for its origin is at least its timestamp", and no mark
-- is read
unfoldable pub leaves : Form → ℕ → Node → Record → Bool
leaves Vectors m x r = leb r.timestamp (limit_of m x)
leaves Columns m x r = all (λ c. covers c r) x.columns

-- what is smallest of each node: its acknowledgement, or its column's smallest entry
unfoldable pub lows : Form → Node → List ℕ
lows Vectors x = x.acks
lows Columns x = map least x.columns

-- what a node knows that q has of o: q's acknowledgement, or the entry for o of q's column
unfoldable pub know : Form → Node → ℕ → ℕ → ℕ
know Vectors x q o = get_or x.acks q 0
know Columns x q o = get_or (get_or x.columns q []) o 0

-- Deliver, of a node with mark m: due are "the held records above the mark and not above the smallest summary entry", and it gives them "by timestamp
-- and then origin"
unfoldable pub waiting : ℕ → Node → List Record
waiting m x = due m (least x.summary) x.log

unfoldable pub given : ℕ → Node → List Record
given m x = in_order (waiting m x)

-- and it "raises the mark to that entry where it is greater"; the node itself stays
unfoldable pub raised : ℕ → Node → ℕ
raised m x = max m (least x.summary)
