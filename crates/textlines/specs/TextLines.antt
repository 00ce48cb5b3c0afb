-- The lines of a replay's text that are not a node's. Document 01, "Frames and journals": what the replay prints.
use Rattle.std.specs.Prelude.{List, [], ◌∷◌, ◌++◌, ℕ}
use Rattle.meaning.specs.Rows.{ascii}
use Rattle.meaning.specs.Journals.{said}

-- "`BAD line number`", and the place "as a third number after `BAD`"
abbrev pub bad_line : ℕ → ℕ → ℕ → List ℕ
bad_line line number place = said "BAD" (line ∷ number ∷ place ∷ []) ++ ascii "\n"

-- no line: "16 has none"
abbrev pub unread_line : ℕ → List ℕ
unread_line number = said "BAD" (0 ∷ number ∷ []) ++ ascii "\n"

-- "the first line is `N`, the count, `STEPS`, all step lines, `REFUSED`, those refused"
abbrev pub first_line : ℕ → ℕ → ℕ → List ℕ
first_line n steps refused = said "N" (n ∷ []) ++ (said " STEPS" (steps ∷ []) ++ (said " REFUSED" (refused ∷ []) ++ ascii "\n"))
