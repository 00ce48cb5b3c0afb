-- Which part of the caller's journal is handed back: the memory it lies in, its place there and its bytes. Document 01, "Frames and journals".
use Rattle.std.specs.Prelude.{◌≡◌, cond, List, ℕ, ◌+◌, length, leb}
use Rattle.std.specs.Borrow.{Bor}

-- the place at which a part begins: its own, and the journal's end where it lies beyond that
abbrev pub begins : List ℕ → ℕ → ℕ
begins s at = cond (leb (length s) at) (length s) at

-- "the part of the caller's journal .., not a copy": r has these bytes and stands in the journal s, at this place of it; an empty part too
pub record Part (s : Bor (List ℕ)) (at : ℕ) (bytes : List ℕ) (r : Bor (List ℕ)) : Type 0 where
  pub memory : r.ref_ptr.0 ≡ s.ref_ptr.0
  pub place : r.ref_ptr.1 ≡ s.ref_ptr.1 + begins s.now at
  pub is : r.now ≡ bytes
