-- The digits that are due at a place of a journal, and what the line of so many digits says.
use Rattle.std.specs.Prelude.{cond, List, ℕ, zero, suc, ◌+◌, get_or, take, drop, eqb, Option, Some, None}
use Rattle.meaning.specs.Frames.{Line, read_line}

-- the digits of a write, a session, a purge and a delivery by their kind's two characters, 0 for any others
unfoldable pub due_by : ℕ → ℕ → ℕ
due_by high low = cond (eqb high 48) (cond (eqb low 49) 24 (cond (eqb low 50) 26 (cond (eqb low 51) 6 (cond (eqb low 53) 6 0)))) 0

-- so many characters where an LF stands after them, 0 where none does
unfoldable pub ends_at : List ℕ → ℕ → ℕ → ℕ
ends_at s at due = cond (eqb (get_or s (at + due) 0) 10) due 0

-- the digits of the line at a place, by its first two characters
unfoldable pub due_at : List ℕ → ℕ → ℕ
due_at s at = ends_at s at (due_by (get_or s at 0) (get_or s (at + 1) 0))

-- what those characters say
unfoldable pub said_at : List ℕ → ℕ → Line
said_at s at = read_line 1 (take (due_at s at) (drop at s))

-- so many digits, none where it is 0
abbrev pub some_due : ℕ → Option ℕ
some_due zero = None
some_due (suc k) = Some (suc k)
