-- Laws of whether a line is accepted, and of a line as its characters.
use mathlib.Core.Path.{◌≡◌, refl, sym, ◌∙◌}
use mathlib.Core.Bool.{Bool, true, false, true≢false}
use mathlib.Core.List.{List, [], ◌∷◌}
use Prim.Native.Nat.{ℕ, ◌≤◌}
use native.Mathlib.Omega.{arith}
use lib.ListN.{length, get_or, take}
use lib.Seq.{take_all}
use borrow.Author.Tests.{eqb-true, eq-eqb}
use Rattle.meaning.specs.Frames.{line_refusal}
use Rattle.meaning.proofs.FrameLaws.{Good, good, clear}
use Rattle.heads.specs.Heads.{accepted}

-- whether a line is accepted
module _ (l : List ℕ) where
  pub accepted_good : accepted l ≡ true → Good l
  unfolding accepted
  accepted_good h = good l (eqb-true (line_refusal l) 0 h)

  pub accepted_is : Good l → accepted l ≡ true
  unfolding accepted
  accepted_is g = eq-eqb (line_refusal l) 0 (clear l g)

  pub accepted_not : (Good l → ⊥) → accepted l ≡ false
  accepted_not h = go (accepted l) refl
    where
      go : (b : Bool) → accepted l ≡ b → b ≡ false
      go true e = absurd (h (accepted_good e))
      go false e = refl

  -- the same as its refusal
  pub accepted_clear : accepted l ≡ true → line_refusal l ≡ 0
  accepted_clear h = clear l (accepted_good h)

  pub accepted_refused : accepted l ≡ false → line_refusal l ≡ 0 → ⊥
  accepted_refused h z = true≢false (sym (accepted_is (good l z)) ∙ h)

  -- a test that tells it
  pub accepted_by : (b : Bool) → (b ≡ true → Good l) → (Good l → b ≡ true) → b ≡ accepted l
  accepted_by true p q = sym (accepted_is (p refl))
  accepted_by false p q = sym (accepted_not (λ g. true≢false (sym (q g))))

-- a part that is the whole line
pub whole_part : (l : List ℕ) (n : ℕ) → length l ≤ n → take n l ≡ l
whole_part l n h = take_all n l h

-- a line of six characters
abbrev pub six : ℕ → ℕ → ℕ → ℕ → ℕ → ℕ → List ℕ
six a b c d e f = a ∷ b ∷ c ∷ d ∷ e ∷ f ∷ []

pub six_of : (l : List ℕ) → length l ≡ 6 → six (get_or l 0 0) (get_or l 1 0) (get_or l 2 0) (get_or l 3 0) (get_or l 4 0) (get_or l 5 0) ≡ l
six_of (a ∷ (b ∷ (c ∷ (d ∷ (e ∷ (f ∷ [])))))) h = refl
six_of [] h = absurd (omega arith)
six_of (a ∷ []) h = absurd (omega arith)
six_of (a ∷ (b ∷ [])) h = absurd (omega arith)
six_of (a ∷ (b ∷ (c ∷ []))) h = absurd (omega arith)
six_of (a ∷ (b ∷ (c ∷ (d ∷ [])))) h = absurd (omega arith)
six_of (a ∷ (b ∷ (c ∷ (d ∷ (e ∷ []))))) h = absurd (omega arith)
six_of (a ∷ (b ∷ (c ∷ (d ∷ (e ∷ (f ∷ (g ∷ l))))))) h = absurd (omega arith)
