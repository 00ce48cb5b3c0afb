-- A row raised by another, and columns raised one after the other.
use mathlib.Core.Path.{◌≡◌, refl, ap}
use mathlib.Core.List.{List, [], ◌∷◌}
use Prim.Native.Nat.{ℕ, zero, suc, ◌<◌}
use native.Mathlib.Omega.{arith}
use lib.ListN.{length, get_or, set}
use Rattle.meaning.specs.Rows.{raise, raise_each}
use Rattle.meaning.proofs.RowLaws.{length-raise}
use Rattle.columns.proofs.LayLaws.{Wide}

-- Columns: the first k are raised
unfoldable pub raise_first : ℕ → List (List ℕ) → List (List ℕ) → List (List ℕ)
raise_first zero cs ds = cs
raise_first (suc k) [] ds = []
raise_first (suc k) (c ∷ cs) [] = []
raise_first (suc k) (c ∷ cs) (d ∷ ds) = raise c d ∷ raise_first k cs ds

pub raise_first_none : (cs ds : List (List ℕ)) → raise_first 0 cs ds ≡ cs
unfolding raise_first
raise_first_none cs ds = refl

pub raise_first_all : (cs ds : List (List ℕ)) (k : ℕ) → length cs ≡ k → raise_first k cs ds ≡ raise_each cs ds
unfolding raise_first raise_each
raise_first_all [] ds zero e = refl
raise_first_all [] ds (suc k) e = refl
raise_first_all (c ∷ cs) ds zero e = absurd (omega arith)
raise_first_all (c ∷ cs) [] (suc k) e = refl
raise_first_all (c ∷ cs) (d ∷ ds) (suc k) e = ap (λ (r : List (List ℕ)). raise c d ∷ r) (raise_first_all cs ds k (omega arith))

pub length_raise_first : (cs ds : List (List ℕ)) (k : ℕ) → length cs ≡ length ds → length (raise_first k cs ds) ≡ length cs
unfolding raise_first
length_raise_first cs ds zero e = refl
length_raise_first [] ds (suc k) e = refl
length_raise_first (c ∷ cs) [] (suc k) e = absurd (omega arith)
length_raise_first (c ∷ cs) (d ∷ ds) (suc k) e = ap suc (length_raise_first cs ds k (omega arith))

pub wide_raise_first : (n : ℕ) (cs ds : List (List ℕ)) (k : ℕ) → length cs ≡ length ds → Wide n cs → Wide n ds → Wide n (raise_first k cs ds)
unfolding raise_first
wide_raise_first n cs ds zero e wc wd = wc
wide_raise_first n [] ds (suc k) e wc wd = λ q h. absurd (omega arith)
wide_raise_first n (c ∷ cs) [] (suc k) e wc wd = absurd (omega arith)
wide_raise_first n (c ∷ cs) (d ∷ ds) (suc k) e wc wd =
    go (wide_raise_first n cs ds k (omega arith) (λ q h. wc (suc q) (omega arith)) (λ q h. wd (suc q) (omega arith)))
  where
    go : Wide n (raise_first k cs ds) → Wide n (raise c d ∷ raise_first k cs ds)
    go rest zero h = length-raise c d n (wc 0 (omega arith)) (wd 0 (omega arith))
    go rest (suc q) h = rest q (omega arith)

-- column k is as it was, and it is raised next
pub raise_first_left : (cs ds : List (List ℕ)) (k : ℕ) → length cs ≡ length ds → get_or (raise_first k cs ds) k [] ≡ get_or cs k []
unfolding raise_first
raise_first_left cs ds zero e = refl
raise_first_left [] ds (suc k) e = refl
raise_first_left (c ∷ cs) [] (suc k) e = absurd (omega arith)
raise_first_left (c ∷ cs) (d ∷ ds) (suc k) e = raise_first_left cs ds k (omega arith)

pub raise_first_more :
    (cs ds : List (List ℕ)) (k : ℕ) → length cs ≡ length ds → k < length cs →
    set (raise_first k cs ds) k (raise (get_or cs k []) (get_or ds k [])) ≡ raise_first (suc k) cs ds
unfolding raise_first
raise_first_more [] ds k e h = absurd (omega arith)
raise_first_more (c ∷ cs) [] k e h = absurd (omega arith)
raise_first_more (c ∷ cs) (d ∷ ds) zero e h = refl
raise_first_more (c ∷ cs) (d ∷ ds) (suc k) e h = ap (λ (r : List (List ℕ)). raise c d ∷ r) (raise_first_more cs ds k (omega arith) (omega arith))
