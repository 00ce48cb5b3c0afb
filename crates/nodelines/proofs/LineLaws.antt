-- Laws of a node's line, by its parts.
use mathlib.Core.Path.{◌≡◌, refl}
use mathlib.Core.List.{List, [], ◌∷◌, ◌++◌}
use Prim.Native.Nat.{ℕ, ◌+◌, ◌*◌}
use native.Mathlib.Numerals.{add-one}
use Rattle.meaning.specs.Rows.{ascii}
use Rattle.meaning.specs.Table.{Vectors, form_of, log_most, summary_at, acks_at, log_at, part, held, node}
use Rattle.meaning.specs.Journals.{decimal, said, node_line, node_lines}
use Rattle.meaning.proofs.RowLaws.{length-records}
use Rattle.nodeparts.specs.Nodes.{said_part}

-- a node's line is its parts, one after the other
pub line_is : (t : List ℕ) (p : ℕ) → form_of t ≡ Vectors
    → decimal p ++ (said_part (ascii " S") t (summary_at (form_of t) p) ++ (said_part (ascii " K") t (acks_at p) ++ (said " L" (held t p ∷ []) ++ (10 ∷ [])))) ≡
    node_line p (node t p)
unfolding node_line node said
line_is t p form = rw (length-records (held t p) (part (log_at (form_of t) p) (4 * log_most) t), form)

-- no line; the lines of one node more
pub lines_none : (t : List ℕ) → [] ≡ node_lines 0 t
unfolding node_lines
lines_none t = refl

pub lines_more : (p : ℕ) (t : List ℕ) → node_lines p t ++ node_line p (node t p) ≡ node_lines (p + 1) t
unfolding node_lines
lines_more p t = rw add-one
