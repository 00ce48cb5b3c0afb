-- Laws of the check byte's two characters: what they are to a writer and to a reader.
use mathlib.Core.Path.{◌≡◌, refl, sym, ◌∙◌, ap}
use mathlib.Core.Bool.{Bool, true, false}
use Prim.Native.Nat.{ℕ, ◌+◌, ◌-◌, ◌*◌, ◌/◌, ◌%◌, ◌≤◌, ◌<◌}
use native.Mathlib.Omega.{arith}
use lib.Dec.{ltb, eqb}
use borrow.Author.Tests.{ltb-true, lt-ltb, eqb-true, eqb-false, eq-eqb}
use Rattle.meaning.specs.Frames.{digit, digit_value}
use Rattle.meaning.proofs.RowLaws.{and_left, and_right}
use Rattle.meaning.proofs.FrameInverses.{digit_value-digit, digit-digit_value}
use Rattle.heads.specs.Heads.{is_check}

-- two characters that bring a sum to zero
module _ (sum high low last : ℕ) (small : sum ≤ 512) (is : last ≡ (512 - sum) % 256) where
  check_true : is_check sum high low ≡ true → (high ≡ digit (last / 16)) × (low ≡ digit (last % 16))
  unfolding is_check
  check_true h =
      let both = and_right (ltb (digit_value high) 16) _ h in
      let p = ltb-true (digit_value high) 16 (and_left (ltb (digit_value high) 16) _ h) in
      let q = ltb-true (digit_value low) 16 (and_left (ltb (digit_value low) 16) _ both) in
      let z = eqb-true ((sum + (16 * digit_value high + digit_value low)) % 256) 0 (and_right (ltb (digit_value low) 16) _ both) in
      let a : digit_value high ≡ last / 16 = omega arith in
      let b : digit_value low ≡ last % 16 = omega arith in
      (sym (digit-digit_value high p) ∙ ap digit a, sym (digit-digit_value low q) ∙ ap digit b)

  check_made : high ≡ digit (last / 16) → low ≡ digit (last % 16) → is_check sum high low ≡ true
  unfolding is_check
  check_made p q =
      let a : digit_value high ≡ last / 16 = ap digit_value p ∙ digit_value-digit (last / 16) (omega arith) in
      let b : digit_value low ≡ last % 16 = ap digit_value q ∙ digit_value-digit (last % 16) (omega arith) in
      cc (
        lt-ltb (digit_value high) 16 (omega arith),
        lt-ltb (digit_value low) 16 (omega arith),
        eq-eqb ((sum + (16 * digit_value high + digit_value low)) % 256) 0 (omega arith),
      )

  pub check_high : (high ≡ digit (last / 16) → ⊥) → false ≡ is_check sum high low
  check_high h = go (is_check sum high low) refl
    where
      go : (b : Bool) → is_check sum high low ≡ b → false ≡ b
      go true e = absurd (h (check_true e).0)
      go false e = refl

  pub check_low : high ≡ digit (last / 16) → eqb low (digit (last % 16)) ≡ is_check sum high low
  check_low p = go (eqb low (digit (last % 16))) (is_check sum high low) refl refl
    where
      go : (a b : Bool) → eqb low (digit (last % 16)) ≡ a → is_check sum high low ≡ b → a ≡ b
      go true b x y = sym (check_made p (eqb-true low (digit (last % 16)) x)) ∙ y
      go false true x y = absurd (eqb-false low (digit (last % 16)) x (check_true y).1)
      go false false x y = refl

-- what such characters are to a reader
pub check_digits : (sum high low : ℕ) → is_check sum high low ≡ true
    → (digit_value high < 16) × (digit_value low < 16) × ((sum + (16 * digit_value high + digit_value low)) % 256 ≡ 0)
unfolding is_check
check_digits sum high low h =
    let both = and_right (ltb (digit_value high) 16) _ h in (
      ltb-true (digit_value high) 16 (and_left (ltb (digit_value high) 16) _ h),
      ltb-true (digit_value low) 16 (and_left (ltb (digit_value low) 16) _ both),
      eqb-true ((sum + (16 * digit_value high + digit_value low)) % 256) 0 (and_right (ltb (digit_value low) 16) _ both),
    )

pub check_right : (sum high low : ℕ) → digit_value high < 16 → digit_value low < 16 → (sum + (16 * digit_value high + digit_value low)) % 256 ≡ 0
    → is_check sum high low ≡ true
unfolding is_check
check_right sum high low p q z =
    cc (lt-ltb (digit_value high) 16 p, lt-ltb (digit_value low) 16 q, eq-eqb ((sum + (16 * digit_value high + digit_value low)) % 256) 0 z)
