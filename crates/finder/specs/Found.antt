-- What the line finder answers, by the definitions of a line, and the values of its answer. Document 01, "Frames and journals".
use Rattle.std.specs.Prelude.{cond, List, [], ◌∷◌, ℕ, ◌+◌, length, leb}
use Rattle.finder.specs.declared.Found.{Found}
use Rattle.finder.specs.declared.Found.TheVariants.{Line, Unended, Over}
use Rattle.meaning.specs.Journals.{unended, line_at}

-- "At the end or beyond it says so"; "bytes are left but no LF follows"; else the place of the LF that ends the line
unfoldable pub found_at : List ℕ → ℕ → Found
found_at s at = cond (leb (length s) at) Over (cond (unended s at) Unended (Line (at + length (line_at s at))))

-- Document 01's values of each answer: the refusal (0 for none), then the place of the LF that ends a line
abbrev pub found_values : Found → List ℕ
found_values (Line end) = 0 ∷ end ∷ []
found_values Unended = 14 ∷ []
found_values Over = 0 ∷ []
