-- The number that C is told of a fresh table: that of its refusal, or 0.
use mathlib.Core.Path.{◌≡◌, refl, ap, ◌∙◌}
use mathlib.Core.List.{List}
use Prim.Native.Nat.{ℕ, zero, suc}
use native.Mathlib.Omega.{arith}
use Rattle.std.specs.Prelude.{Result, Ok, Err}
use Rattle.std.proofs.Common.{inl, inr}
use Rattle.meaning.specs.declared.Refusal.{Refusal}
use Rattle.meaning.specs.Refusals.{answered, number_of, refusal_of}
use Rattle.meaning.specs.Table.{fresh_refusal}
use Rattle.meaning.proofs.RefusalLaws.{Named, first_named, named}

number_none : (k : ℕ) (r : Result (Unit {0}) Refusal) → r ≡ answered k tt → r ≡ Ok tt → 0 ≡ k
number_none zero r e o = refl
number_none (suc k) r e o = let z : ◌≡◌ {A = ℕ} 0 1 = cc in absurd (omega arith)

number_told : (k : ℕ) (x : Refusal) (r : Result (Unit {0}) Refusal) → Named k → r ≡ answered k tt → r ≡ Err x → number_of x ≡ k
number_told zero x r n e o = let z : ◌≡◌ {A = ℕ} 0 1 = cc in absurd (omega arith)
number_told (suc k) x r (inl n) e o = absurd (omega (arith, n))
number_told (suc k) x r (inr n) e o = let same : x ≡ refusal_of (suc k) = cc in ap number_of same ∙ n

fresh_named : (t : List ℕ) (n : ℕ) → Named (fresh_refusal t n)
unfolding fresh_refusal named refusal_of
fresh_named t n = first_named _ refl

module _ (t : List ℕ) (n : ℕ) (r : Result (Unit {0}) Refusal) (e : r ≡ answered (fresh_refusal t n) tt) where
  pub fresh_done : r ≡ Ok tt → 0 ≡ fresh_refusal t n
  fresh_done o = number_none (fresh_refusal t n) r e o

  pub fresh_wrong : (x : Refusal) → r ≡ Err x → number_of x ≡ fresh_refusal t n
  fresh_wrong x o = number_told (fresh_refusal t n) x r (fresh_named t n) e o
