-- What printing a text into the buffer that a printer holds means.
use Rattle.std.specs.Prelude.{◌≡◌, List, ℕ, ◌+◌, ◌≤◌, length}
use Rattle.printing.specs.declared.Printer.{Printer}
use Rattle.printing.specs.Wrote.{Wrote}

-- There is room for so many bytes more.
abbrev pub Room : Printer → ℕ → Type 0
Room p most = p.at + most ≤ length p.out.now

-- A printer p printed a text of at most so many bytes at its place, and is then p': the same buffer, of the same length, and the place after the
-- text, which is within it.
pub record Printed (p : Printer) (text : List ℕ) (most : ℕ) (p' : Printer) : Type 0 where
  pub same : p'.out.ghost_name ≡ p.out.ghost_name
  pub long : length p'.out.now ≡ length p.out.now
  pub fits : p'.at ≤ length p'.out.now
  pub wrote : Wrote p.out.now p.at text most p'.at p'.out.now
