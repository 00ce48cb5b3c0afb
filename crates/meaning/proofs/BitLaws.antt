-- The bits that two numbers have together: they are below a power of two exactly if both numbers are.
use mathlib.Core.Path.{◌≡◌, refl}
use mathlib.Core.Bool.{Bool, true, false, ◌&&◌}
use Prim.Native.Nat.{ℕ, suc, ◌^◌, ◌<◌}
use native.Mathlib.Omega.{arith}
use borrow.Author.Tests.{leb-true, leb-false, le-leb, lt-leb}
use lib.Bits.{bit_or, or_lt, or_add_and, and_le_l, and_le_r}
use lib.Dec.{leb}

-- each of the two is at most what they are together
pub or_left : (n a b : ℕ) → bit_or a b < n → a < n
or_left n a b h = omega (arith, or_add_and a b, and_le_r a b)

pub or_right : (n a b : ℕ) → bit_or a b < n → b < n
or_right n a b h = omega (arith, or_add_and a b, and_le_l a b)

-- the same as a test, for the greatest number n of a width
pub or_within : (width n a b : ℕ) → suc n ≡ 2 ^ width → leb (bit_or a b) n ≡ (leb a n && leb b n)
or_within width n a b e = go (leb a n) (leb b n) refl refl
  where
    go : (p q : Bool) → leb a n ≡ p → leb b n ≡ q → leb (bit_or a b) n ≡ (p && q)
    go true true hp hq =
        let low : bit_or a b < 2 ^ width = or_lt width a b (omega (arith, leb-true a n hp)) (omega (arith, leb-true b n hq)) in
        le-leb (bit_or a b) n (omega arith)
    go true false hp hq = lt-leb (bit_or a b) n (omega (arith, leb-false b n hq, or_add_and a b, and_le_l a b))
    go false q hp hq = lt-leb (bit_or a b) n (omega (arith, leb-false a n hp, or_add_and a b, and_le_r a b))

pub or_byte : (a b : ℕ) → leb (bit_or a b) 255 ≡ (leb a 255 && leb b 255)
or_byte a b = or_within 8 255 a b refl
