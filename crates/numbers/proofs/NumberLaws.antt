-- Laws of a number's digits: a field at a byte's place.
use mathlib.Core.Path.{◌≡◌, refl, sym, ◌∙◌, ap}
use mathlib.Core.List.{List, [], ◌∷◌, ◌++◌}
use Prim.Native.Nat.{ℕ, zero, suc, ◌+◌, ◌*◌, ◌≤◌, ◌<◌}
use native.Mathlib.Omega.{arith}
use native.Mathlib.Numerals.{add-one}
use lib.ListN.{length, get_or, take, drop, length-drop}
use lib.Seq.{take-suc, get_or-drop, drop-drop}
use Rattle.meaning.specs.Frames.{digit_value, bytes_of, number}
use Rattle.meaning.proofs.FrameLaws.{length-bytes_of, byte_at, number_snoc}
use Rattle.digits.specs.Digits.{values_of}
use Rattle.digits.proofs.DigitLaws.{value_of}
use Rattle.numbers.specs.Numbers.{joined_at, field_at}
use Rattle.std.specs.Int.{w32, from_be_bytes}

-- a field of one byte, of two and of four
pub first_byte : (bs : List ℕ) → number (take 1 bs) ≡ get_or bs 0 0
unfolding number
first_byte [] = refl
first_byte (b ∷ bs) = omega arith

pub byte_field : (l : List ℕ) (k : ℕ) → 2 * (k + 1) ≤ length l → 16 * digit_value (get_or l (2 * k) 0) + digit_value (get_or l (2 * k + 1) 0) ≡ field_at l k 1
unfolding field_at
byte_field l k h =
    let here : get_or (drop k (bytes_of l)) 0 0 ≡ get_or (bytes_of l) (k + 0) 0 = get_or-drop k (bytes_of l) 0 0 in
    let same : k + 0 ≡ k = omega arith in
    sym (first_byte (drop k (bytes_of l)) ∙ here ∙ ap (λ (i : ℕ). get_or (bytes_of l) i 0) same ∙ byte_at l k (omega (arith, length-bytes_of l)))

field_more : (l : List ℕ) (at k : ℕ) → 2 * (at + (k + 1)) ≤ length l → 256 * field_at l at k + field_at l (at + k) 1 ≡ field_at l at (k + 1)
unfolding field_at
field_more l at k h =
    let long = length-bytes_of l in
    let byte = byte_field l (at + k) (omega arith) in
    let byte' = byte_at l (at + k) (omega arith) in
    let here : get_or (drop at (bytes_of l)) k 0 ≡ get_or (bytes_of l) (at + k) 0 = get_or-drop at (bytes_of l) k 0 in
    let room : k < length (drop at (bytes_of l)) = omega (arith, length-drop at (bytes_of l)) in
    let bs = drop at (bytes_of l) in
    let more : take (k + 1) bs ≡ take k bs ++ (get_or bs k 0 ∷ []) = rw add-one (take-suc bs k 0 room) in
    rw more (omega (arith, number_snoc (take k bs) (get_or bs k 0)))

-- a number of four bytes
pub be_four : (a b c d : ℕ) → from_be_bytes w32 (a ∷ b ∷ c ∷ d ∷ []) ≡ 256 * (256 * (256 * a + b) + c) + d
be_four a b c d = omega arith

pub field_four : (l : List ℕ) (at : ℕ) → 2 * (at + 4) ≤ length l
    → 256 * (256 * (256 * field_at l at 1 + field_at l (at + 1) 1) + field_at l (at + 2) 1) + field_at l (at + 3) 1 ≡ field_at l at 4
field_four l at h = omega (arith, field_more l at 1 (omega arith), field_more l at 2 (omega arith), field_more l at 3 (omega arith))

-- a field from the digits' numbers, at any byte's place and of any width
pub joined_field : (l : List ℕ) (at w : ℕ) → 2 * (at + w) ≤ length l → joined_at (values_of l) (2 * at) w ≡ field_at l at w
unfolding joined_at field_at number
joined_field l at zero h = refl
joined_field l at (suc w) h =
    let even : 2 * at + 2 * w ≡ 2 * (at + w) = omega arith in
    let high = value_of l (2 * (at + w)) (omega arith) in
    let low = value_of l (2 * (at + w) + 1) (omega arith) in
    let one : w + 1 ≡ suc w = add-one w in
    let more : 256 * field_at l at w + field_at l (at + w) 1 ≡ field_at l at (suc w) = rw one at (field_more l at w (omega arith)) in
    let byte = byte_field l (at + w) (omega arith) in
    rw even (omega (arith, joined_field l at w (omega arith)))

-- a field counted from the second byte on
bytes_after : (l : List ℕ) → bytes_of (drop 2 l) ≡ drop 1 (bytes_of l)
unfolding bytes_of
bytes_after [] = refl
bytes_after (h ∷ []) = refl
bytes_after (h ∷ (c ∷ cs)) = refl

pub field_after : (l : List ℕ) (at w : ℕ) → field_at (drop 2 l) at w ≡ field_at l (1 + at) w
unfolding field_at
field_after l at w = rw (bytes_after l, drop-drop at 1 (bytes_of l)) refl

-- four bytes from the digits' numbers
pub joined_four : (v : List ℕ) (at : ℕ)
    → 256 * (256 * (256 * joined_at v at 1 + joined_at v (at + 2) 1) + joined_at v (at + 4) 1) + joined_at v (at + 6) 1 ≡ joined_at v at 4
unfolding joined_at
joined_four v at =
    let a : at + 2 + 2 * 0 ≡ at + 2 = omega arith in
    let b : at + 4 + 2 * 0 ≡ at + 4 = omega arith in
    let c : at + 6 + 2 * 0 ≡ at + 6 = omega arith in
    rw (a, b, c) (omega arith)
