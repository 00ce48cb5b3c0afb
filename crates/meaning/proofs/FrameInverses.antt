-- Digits, bytes and fields there and back: what reading makes of what writing made, and the other way round.
use mathlib.Core.Path.{◌≡◌, refl, sym, ◌∙◌, ap}
use mathlib.Core.Bool.{true}
use mathlib.Core.List.{List, [], ◌∷◌, ◌++◌, append_assoc}
use Prim.Native.Nat.{ℕ, zero, suc, ◌+◌, ◌-◌, ◌*◌, ◌/◌, ◌%◌, ◌^◌, ◌≤◌, ◌<◌}
use native.Mathlib.Omega.{arith}
use native.Mathlib.Nat.{pow-suc, pow-le-pow_right}
use native.Mathlib.Decide.{dec_le}
use lib.ListN.{length, get_or, take, drop, length-append, length-take, length-drop}
use lib.Seq.{take-suc, take_all, take_at, drop_at, take-add, length-take-le}
use lib.Dec.{ltb}
use borrow.Author.Tests.{ltb-true, lt-ltb, le-ltb}
use Rattle.meaning.specs.Frames.{digit, digit_value, spelled, bytes_of, all_digits, total, check, summed, high_first, number, packed, unpacked, sealed, fit}
use Rattle.meaning.proofs.FrameLaws.{
  digit-decimal,
  digit_letter,
  digit-none,
  digits_cons,
  Bytes,
  bytes_take,
  bytes_drop,
  bytes_append,
  bytes_high_first,
  total-append,
  total_below,
  number_snoc,
  number_below,
  length-high_first,
}
use Rattle.meaning.proofs.RowLaws.{and_left, and_right}

-- a digit and its number
digit_low : (v : ℕ) → v ≤ 9 → digit v ≡ 48 + v
unfolding digit
digit_low v h = cc (lt-ltb v 10 (omega arith))

digit_high : (v : ℕ) → 9 < v → digit v ≡ 55 + v
unfolding digit
digit_high v h = cc (le-ltb v 10 h)

pub digit_value-digit : (v : ℕ) → v < 16 → digit_value (digit v) ≡ v
digit_value-digit v h = go (dec_le v 9)
  where
    go : Dec (v ≤ 9) → digit_value (digit v) ≡ v
    go (yes p) = rw (digit_low v p) (omega (arith, digit-decimal (48 + v) (omega arith) (omega arith)))
    go (no p) = rw (digit_high v (omega arith)) (omega (arith, digit_letter (55 + v) (omega arith) (omega arith)))

pub digit-digit_value : (c : ℕ) → digit_value c < 16 → digit (digit_value c) ≡ c
digit-digit_value c h = go (dec_le 48 c) (dec_le c 57) (dec_le 65 c) (dec_le c 70)
  where
    go : Dec (48 ≤ c) → Dec (c ≤ 57) → Dec (65 ≤ c) → Dec (c ≤ 70) → digit (digit_value c) ≡ c
    go (yes p) (yes q) r s = rw (digit-decimal c p q) (omega (arith, digit_low (c - 48) (omega arith)))
    go (yes p) (no q) (yes r) (yes s) = rw (digit_letter c r s) (omega (arith, digit_high (c - 55) (omega arith)))
    go (yes p) (no q) (yes r) (no s) = absurd (omega (arith, digit-none c (omega arith) (omega arith)))
    go (yes p) (no q) (no r) s = absurd (omega (arith, digit-none c (omega arith) (omega arith)))
    go (no p) q r s = absurd (omega (arith, digit-none c (omega arith) (omega arith)))

-- bytes and their digits
pub bytes_of-spelled : (bs : List ℕ) → Bytes bs → bytes_of (spelled bs) ≡ bs
unfolding bytes_of spelled
bytes_of-spelled [] p = refl
bytes_of-spelled (b ∷ bs) p =
    let high = digit_value-digit (b / 16) (omega (arith, p.0)) in
    let low = digit_value-digit (b % 16) (omega arith) in
    let whole : 16 * digit_value (digit (b / 16)) + digit_value (digit (b % 16)) ≡ b = omega arith in
    cc (bytes_of-spelled bs p.1, whole)

pub digits_spelled : (bs : List ℕ) → Bytes bs → all_digits (spelled bs) ≡ true
unfolding all_digits spelled
digits_spelled [] p = refl
digits_spelled (b ∷ bs) p =
    let high = digit_value-digit (b / 16) (omega (arith, p.0)) in
    let low = digit_value-digit (b % 16) (omega arith) in
    cc (
      digits_spelled bs p.1,
      lt-ltb (digit_value (digit (b / 16))) 16 (omega (arith, p.0)),
      lt-ltb (digit_value (digit (b % 16))) 16 (omega arith),
    )

pub spelled-bytes_of : (l : List ℕ) → all_digits l ≡ true → length l % 2 ≡ 0 → spelled (bytes_of l) ≡ l
unfolding bytes_of spelled
spelled-bytes_of [] p e = refl
spelled-bytes_of (h ∷ []) p e = absurd (omega arith)
spelled-bytes_of (h ∷ (c ∷ cs)) p e =
    let x = digits_cons h (c ∷ cs) p in
    let y = digits_cons c cs x.1 in
    let high : (16 * digit_value h + digit_value c) / 16 ≡ digit_value h = omega (arith, y.0) in
    let low : (16 * digit_value h + digit_value c) % 16 ≡ digit_value c = omega (arith, y.0) in
    let rest : spelled (bytes_of cs) ≡ cs = spelled-bytes_of cs y.1 (omega arith) in
    rw (high, low, digit-digit_value h x.0, digit-digit_value c y.0, rest) refl

-- numbers and their bytes
pub number-high_first : (w v : ℕ) → v < 256 ^ w → number (high_first w v) ≡ v
unfolding high_first number
number-high_first zero v h = omega arith
number-high_first (suc w) v h =
    let less : v / 256 < 256 ^ w = omega (arith, pow-suc 256 w) in
    omega (arith, number_snoc (high_first w (v / 256)) (v % 256), number-high_first w (v / 256) less)

pub bytes_at : (bs : List ℕ) (i : ℕ) → Bytes bs → i < length bs → get_or bs i 0 < 256
bytes_at [] i p h = absurd (omega arith)
bytes_at (b ∷ bs) zero p h = p.0
bytes_at (b ∷ bs) (suc i) p h = bytes_at bs i p.1 (omega arith)

-- a list is what stands before its last element, and that element
pub to_last : (bs : List ℕ) (w : ℕ) → length bs ≡ suc w → bs ≡ take w bs ++ (get_or bs w 0 ∷ [])
to_last bs w e = sym (take_all (suc w) bs (omega arith)) ∙ take-suc bs w 0 (omega arith)

pub high_first-number : (w : ℕ) (bs : List ℕ) → Bytes bs → length bs ≡ w → high_first w (number bs) ≡ bs
unfolding high_first number
high_first-number zero [] p e = refl
high_first-number zero (b ∷ bs) p e = absurd (omega arith)
high_first-number (suc w) bs p e =
    let parts = to_last bs w e in
    let value : number bs ≡ number (take w bs) * 256 + get_or bs w 0 = ap number parts ∙ number_snoc (take w bs) (get_or bs w 0) in
    let small = bytes_at bs w p (omega arith) in
    let high : number bs / 256 ≡ number (take w bs) = omega arith in
    let low : number bs % 256 ≡ get_or bs w 0 = omega arith in
    let front = high_first-number w (take w bs) (bytes_take w bs p) (length-take-le w bs (omega arith)) in
    rw (high, low, front) (sym parts)

-- fields and their bytes
pub bytes_packed : (ws vs : List ℕ) → Bytes (packed ws vs)
unfolding packed
bytes_packed [] vs = tt
bytes_packed (w ∷ ws) [] = tt
bytes_packed (w ∷ ws) (v ∷ vs) = bytes_append (high_first w v) (packed ws vs) (bytes_high_first w v) (bytes_packed ws vs)

pub length-packed : (ws vs : List ℕ) → length vs ≡ length ws → length (packed ws vs) ≡ summed ws
unfolding packed
length-packed [] vs e = refl
length-packed (w ∷ ws) [] e = absurd (omega arith)
length-packed (w ∷ ws) (v ∷ vs) e =
    omega (arith, length-append (high_first w v) (packed ws vs), length-high_first w v, length-packed ws vs (omega arith))

pub unpacked-packed : (ws vs rest : List ℕ) → length vs ≡ length ws → fit ws vs ≡ true → unpacked ws (packed ws vs ++ rest) ≡ vs
unfolding packed unpacked
unpacked-packed [] [] rest e p = refl
unpacked-packed [] (v ∷ vs) rest e p = absurd (omega arith)
unpacked-packed (w ∷ ws) [] rest e p = absurd (omega arith)
unpacked-packed (w ∷ ws) (v ∷ vs) rest e p =
    let small = ltb-true v (256 ^ w) (and_left (ltb v (256 ^ w)) (fit ws vs) p) in
    let tail = unpacked-packed ws vs rest (omega arith) (and_right (ltb v (256 ^ w)) (fit ws vs) p) in
    let whole = append_assoc (high_first w v) (packed ws vs) rest in
    let first = take_at (high_first w v) (packed ws vs ++ rest) w (length-high_first w v) in
    let others = drop_at (high_first w v) (packed ws vs ++ rest) w (length-high_first w v) in
    rw (whole, first, others, number-high_first w v small, tail) refl

pub packed-unpacked : (ws bs : List ℕ) → Bytes bs → summed ws ≤ length bs → packed ws (unpacked ws bs) ≡ take (summed ws) bs
unfolding packed unpacked
packed-unpacked [] bs p h = refl
packed-unpacked (w ∷ ws) bs p h =
    let first = high_first-number w (take w bs) (bytes_take w bs p) (length-take-le w bs (omega arith)) in
    let others = packed-unpacked ws (drop w bs) (bytes_drop w bs p) (omega (arith, length-drop w bs)) in
    rw (first, others) (sym (take-add w (summed ws) bs))

pub fit-unpacked : (ws bs : List ℕ) → Bytes bs → fit ws (unpacked ws bs) ≡ true
unfolding unpacked
fit-unpacked [] bs p = refl
fit-unpacked (w ∷ ws) bs p =
    let short : length (take w bs) ≤ w = omega (arith, length-take w bs) in
    let below = number_below (take w bs) (bytes_take w bs p) in
    let most = pow-le-pow_right {n = 256} (omega arith) short in
    cc (lt-ltb (number (take w bs)) (256 ^ w) (omega arith), fit-unpacked ws (drop w bs) (bytes_drop w bs p))

-- the check byte
pub total-sealed : (bs : List ℕ) → total (sealed bs) ≡ 0
unfolding sealed check total
total-sealed bs = omega (arith, total-append bs ((256 - total bs) % 256 ∷ []), total_below bs)

pub check_of : (bs : List ℕ) (b : ℕ) → b < 256 → total (bs ++ (b ∷ [])) ≡ 0 → b ≡ check bs
unfolding check total
check_of bs b h p = omega (arith, total-append bs (b ∷ []), total_below bs)

pub bytes_sealed : (bs : List ℕ) → Bytes bs → Bytes (sealed bs)
unfolding sealed check
bytes_sealed bs p = bytes_append bs ((256 - total bs) % 256 ∷ []) p (omega arith, tt)

pub length-sealed : (bs : List ℕ) → length (sealed bs) ≡ length bs + 1
unfolding sealed
length-sealed bs = length-append bs (check bs ∷ [])
