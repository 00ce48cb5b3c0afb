-- What a reader that is made or moved holds. Document 01, "Frames and journals".
use Rattle.std.specs.Prelude.{◌≡◌, List, ℕ}
use Rattle.std.specs.Borrow.{Bor}
use Rattle.reader.specs.declared.Reader.{Reader}

-- the reader r holds this journal, the caller's own reference, and stands at this place of it
abbrev pub Stands : Bor (List ℕ) → ℕ → Reader → Type 0
Stands journal at r = (r.journal ≡ journal) × (r.at ≡ at)
