-- Laws of the bytes of each kind's frame: its fields put one after the other, and the check.
use Rattle.std.proofs.Common.{◌≡◌, refl, ap, ℕ, ◌%◌, ◌<◌, ◌-◌, List, [], ◌∷◌, ◌++◌, length, take}
use native.Mathlib.Nat.{mod-eq_of_lt}
use Rattle.meaning.specs.Table.{place}
use Rattle.meaning.specs.Frames.{spelled, high_first, sealed, journal_kinds, widths_in, widths, packed, frame_in, frame_of}

-- a byte is the one byte of its field
byte_of : (n : ℕ) → n < 256 → n % 256 ≡ n
byte_of n h = mod-eq_of_lt h

pub short_frame : (kind n : ℕ) → widths kind ≡ 1 ∷ [] → n < 256 → spelled (sealed (kind ∷ n ∷ [])) ++ (10 ∷ []) ≡ frame_of kind (n ∷ [])
unfolding frame_in packed high_first
short_frame kind n e h =
    let small = byte_of n h in
    rw (frame_in, e, small) refl

-- the fields of a write and of a session, put at their places among zeros
pub write_fields : (b₁ b₂ b₃ : List ℕ) (p t b v : ℕ) → p < 256 → v < 256
    → b₁ ≡ place 2 (high_first 4 t) (1 ∷ p ∷ 0 ∷ 0 ∷ 0 ∷ 0 ∷ 0 ∷ 0 ∷ 0 ∷ 0 ∷ v ∷ 0 ∷ [])
    → b₂ ≡ place 6 (high_first 4 b) b₁ → b₃ ≡ sealed (take (length b₂ - 1) b₂) → b₃ ≡ sealed (1 ∷ packed (widths 1) (p ∷ t ∷ b ∷ v ∷ []))
unfolding place high_first packed widths_in journal_kinds
write_fields b₁ b₂ b₃ p t b v h g e₁ e₂ e₃ =
    let small = byte_of p h in
    let low = byte_of v g in
    rw (e₃, e₂, e₁) (ap sealed (rw (small, low) refl))

pub session_fields : (b₁ b₂ b₃ : List ℕ) (a b ca cb o : ℕ) → a < 256 → b < 256 → o < 256
    → b₁ ≡ place 3 (high_first 4 ca) (2 ∷ a ∷ b ∷ 0 ∷ 0 ∷ 0 ∷ 0 ∷ 0 ∷ 0 ∷ 0 ∷ 0 ∷ o ∷ 0 ∷ [])
    → b₂ ≡ place 7 (high_first 4 cb) b₁ → b₃ ≡ sealed (take (length b₂ - 1) b₂) → b₃ ≡ sealed (2 ∷ packed (widths 2) (a ∷ b ∷ ca ∷ cb ∷ o ∷ []))
unfolding place high_first packed widths_in journal_kinds
session_fields b₁ b₂ b₃ a b ca cb o h g k e₁ e₂ e₃ =
    let small = byte_of a h in
    let next = byte_of b g in
    let low = byte_of o k in
    rw (e₃, e₂, e₁) (ap sealed (rw (small, next, low) refl))
