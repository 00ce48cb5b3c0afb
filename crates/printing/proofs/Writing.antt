-- Laws of texts written one after the other into a buffer, and of the decimal digits of a number.
use mathlib.Core.Path.{◌≡◌, refl, sym, ap, ap₂, ◌∙◌}
use mathlib.Core.List.{List, [], ◌∷◌, ◌++◌, append_assoc, append-nil}
use Prim.Native.Nat.{ℕ, zero, suc, ◌+◌, ◌-◌, ◌/◌, ◌%◌, ◌≤◌, ◌<◌}
use native.Mathlib.Numerals.{add-one}
use native.Mathlib.Omega.{arith}
use borrow.Author.Tests.{lt-ltb, le-ltb}
use lib.ListN.{length, get_or, take, set, length-append}
use lib.Seq.{take-suc}
use Rattle.meaning.specs.Table.{place}
use Rattle.meaning.specs.Journals.{decimal_in, decimal, spaced}
use Rattle.meaning.proofs.PlaceLaws.{place-append, place_none, set-place}
use Rattle.printing.specs.Wrote.{Wrote}

-- nothing written; one byte written; one text after another is both as one
pub wrote_none : (t : List ℕ) (at : ℕ) (most : ℕ) → Wrote t at [] most at t
wrote_none t at most = record { to = omega arith; within = omega arith; is = sym (place_none at t) }

pub wrote_one : (t : List ℕ) (at b : ℕ) → at + 1 ≤ length t → Wrote t at (b ∷ []) 1 (at + 1) (set t at b)
wrote_one t at b fits = record { to = refl; within = omega arith; is = set-place t at b (omega arith) }

pub wrote_then : {t t' t'' : List ℕ} {at to to' : ℕ} {xs ys : List ℕ} {most most' : ℕ} → to + length ys ≤ length t
    → Wrote t at xs most to t' → Wrote t' to ys most' to' t'' → Wrote t at (xs ++ ys) (most + most') to' t''
wrote_then {t = t} {at = at} {to = to} {xs = xs} {ys = ys} h w w' =
    record {
      to = omega (arith, w.to, w'.to, length-append xs ys);
      within = omega (arith, w.within, w'.within);
      is = w'.is ∙ rw w.is (place-append at to xs ys t w.to h);
    }

-- what was written, by another name and with a wider bound
pub wrote_as : {t t' : List ℕ} {at to : ℕ} {xs ys : List ℕ} {most most' : ℕ} → xs ≡ ys → most ≤ most' → Wrote t at xs most to t'
    → Wrote t at ys most' to t'
wrote_as {t = t} {at = at} e h w =
    record {
      to = w.to ∙ ap (λ (zs : List ℕ). at + length zs) e;
      within = omega (arith, w.within);
      is = w.is ∙ ap (λ (zs : List ℕ). place at zs t) e;
    }

-- a text, where it is written and the place after it are one
pub one_wrote : {t t' t'' : List ℕ} {at to to' : ℕ} {xs : List ℕ} {most : ℕ} → Wrote t at xs most to t' → Wrote t at xs most to' t''
    → ◌≡◌ {A = List ℕ} (to ∷ t') (to' ∷ t'')
one_wrote w w' = ap₂ ◌∷◌ (w.to ∙ sym w'.to) (w.is ∙ sym w'.is)

-- the digits of a number, by the definition's clauses
pub digits_none : (v : ℕ) → decimal_in 0 v ≡ []
unfolding decimal_in
digits_none v = refl

pub digits_one : (k v : ℕ) → (k ≡ 0 → ⊥) → v < 10 → decimal_in k v ≡ (48 + v % 10) ∷ []
unfolding decimal_in
digits_one zero v n h = absurd (n refl)
digits_one (suc k) v n h = rw (lt-ltb v 10 h) (ap (λ (x : ℕ). (48 + x) ∷ []) (omega arith))

pub digits_more : (k v : ℕ) → (k ≡ 0 → ⊥) → 10 ≤ v → decimal_in k v ≡ decimal_in (k - 1) (v / 10) ++ ((48 + v % 10) ∷ [])
unfolding decimal_in
digits_more zero v n h = absurd (n refl)
digits_more (suc k) v n h =
    let e : suc k - 1 ≡ k = omega arith in
    rw (le-ltb v 10 h, e)

-- a row of no number; a row with one number more
pub spaced-none : [] ≡ spaced []
unfolding spaced
spaced-none = refl

pub spaced_more : (vs : List ℕ) (v : ℕ) → spaced (vs ++ (v ∷ [])) ≡ spaced vs ++ spaced (v ∷ [])
unfolding spaced
spaced_more [] v = refl
spaced_more (x ∷ vs) v =
    ap (λ (l : List ℕ). 32 ∷ (decimal x ++ l)) (spaced_more vs v) ∙
    ap (λ (l : List ℕ). 32 ∷ l) (sym (append_assoc (decimal x) (spaced vs) (spaced (v ∷ []))))

-- one number, with a space before it
pub spaced_one : (v : ℕ) → (32 ∷ []) ++ decimal v ≡ spaced (v ∷ [])
unfolding spaced
spaced_one v = ap (λ (l : List ℕ). 32 ∷ l) (sym (append-nil (decimal v)))

-- the words of a list up to a place, and one more
pub take_more : (l : List ℕ) (i : ℕ) → i < length l → take (i + 1) l ≡ take i l ++ (get_or l i 0 ∷ [])
take_more l i h = rw add-one (take-suc l i 0 h)
