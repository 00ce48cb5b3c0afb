-- What printing a word and a row of numbers after it means.
use Rattle.std.specs.Prelude.{List, ◌++◌, ℕ, ◌+◌, ◌*◌, length}
use Rattle.meaning.specs.Journals.{spaced}
use Rattle.printing.specs.declared.Printer.{Printer}
use Rattle.printing.specs.Printed.{Printed}

-- The most bytes of a word and a row of numbers after it, each with a space before it and at most 20 digits
abbrev pub row_most : List ℕ → List ℕ → ℕ
row_most word vs = length word + 21 * length vs

-- A word and a row of numbers after it were printed so.
abbrev pub PrintedRow : Printer → List ℕ → List ℕ → Printer → Type 0
PrintedRow p word vs p' = Printed p (word ++ spaced vs) (row_most word vs) p'
