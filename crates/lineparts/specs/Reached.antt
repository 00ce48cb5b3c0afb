-- The part and the position that go with what the reader finds. Document 01, "Frames and journals".
use Rattle.std.specs.Prelude.{List, ℕ}
use Rattle.meaning.specs.Journals.{line_at, next_at, handed_back, position}

-- the part that goes with what the reader finds at a place, told the line number, and the position afterwards
abbrev pub part_at : List ℕ → ℕ → ℕ → List ℕ
part_at s at line = handed_back (next_at s at line) (line_at s at)

abbrev pub position_at : List ℕ → ℕ → ℕ → ℕ
position_at s at line = position at (next_at s at line)
