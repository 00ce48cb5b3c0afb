-- Laws of columns: where each stands, what is read of them after pieces were laid, and what laying them back comes to.
use mathlib.Core.Path.{◌≡◌, refl, sym, ap, ap₂, ◌∙◌}
use mathlib.Core.List.{List, [], ◌∷◌, Memᴰ}
use Prim.Native.Nat.{ℕ, zero, suc, ◌+◌, ◌*◌, ◌≤◌, ◌<◌}
use native.Mathlib.Decide.{ℕ_discrete}
use native.Mathlib.Omega.{arith}
use lib.ListN.{length, get_or, set, length-set}
use lib.Seq.{get_or-set_same, get_or-set_other}
use Rattle.meaning.specs.Rows.{raise, raise_each}
use Rattle.meaning.specs.Table.{part, place, columns_from, piece, lay, column_pieces}
use Rattle.meaning.proofs.PlaceLaws.{length-place, part_away, place-part}
use Rattle.meaning.proofs.RowLaws.{length-raise}
use Rattle.meaning.proofs.PieceLaws.{
  Region,
  region,
  Between,
  Between-nil,
  Between-cons,
  apart_between,
  Disjoint,
  Disjoint-nil,
  Disjoint-cons,
  Fills,
  Fills-nil,
  Fills-cons,
}

-- Where k columns of n entries stand, 16 words from one to the next
unfoldable pub column_regions : ℕ → ℕ → ℕ → List Region
column_regions zero at n = []
column_regions (suc k) at n = region at n ∷ column_regions k (at + 16) n

pub between_columns : (k at n lo hi : ℕ) → n ≤ 16 → lo ≤ at → at + 16 * k ≤ hi → Between lo hi (column_regions k at n)
unfolding column_regions
between_columns zero at n lo hi w l h = Between-nil
between_columns (suc k) at n lo hi w l h = Between-cons {r = region at n} l (omega arith) (between_columns k (at + 16) n lo hi w (omega arith) (omega arith))

pub disjoint_columns : (k at n : ℕ) → n ≤ 16 → Disjoint (column_regions k at n)
unfolding column_regions
disjoint_columns zero at n w = Disjoint-nil
disjoint_columns (suc k) at n w =
    Disjoint-cons {r = region at n}
    (apart_between (at + 16) ((at + 16) + 16 * k) at n (column_regions k (at + 16) n)
    (between_columns k (at + 16) n (at + 16) ((at + 16) + 16 * k) w (omega arith) (omega arith))
    (λ u v. omega arith))
    (disjoint_columns k (at + 16) n w)

-- columns of n entries fill them, and each is one of the pieces
pub fills_columns :
    (cs : List (List ℕ)) (k at n : ℕ) → length cs ≡ k → ((q : ℕ) → q < length cs → length (get_or cs q []) ≡ n) →
    Fills (column_pieces at cs) (column_regions k at n)
unfolding column_pieces column_regions
fills_columns [] zero at n e long = Fills-nil
fills_columns [] (suc k) at n e long = absurd (omega arith)
fills_columns (c ∷ cs) zero at n e long = absurd (omega arith)
fills_columns (c ∷ cs) (suc k) at n e long =
    let l = long 0 (omega arith) in
    Fills-cons {x = piece at c} {r = region at n} refl (omega arith) (fills_columns cs k (at + 16) n (omega arith) (λ q h. long (suc q) (omega arith)))

pub among_columns :
    (cs : List (List ℕ)) (at q j : ℕ) → q < length cs → j ≡ at + 16 * q → Memᴰ (piece j (get_or cs q [])) (column_pieces at cs)
unfolding column_pieces
among_columns [] at q j h e = absurd (omega arith)
among_columns (c ∷ cs) at zero j h e = let f : j ≡ at = omega arith in Memᴰ.head (ap (λ (m : ℕ). piece m c) f)
among_columns (c ∷ cs) at (suc q) j h e = Memᴰ.tail (among_columns cs (at + 16) q j (omega arith) (omega arith))

-- what is read of them
pub length_columns : (k at n : ℕ) (t : List ℕ) → length (columns_from k at n t) ≡ k
unfolding columns_from
length_columns zero at n t = refl
length_columns (suc k) at n t = ap suc (length_columns k (at + 16) n t)

pub get_or_columns : (k at n : ℕ) (t : List ℕ) (q j : ℕ) → q < k → j ≡ at + 16 * q → get_or (columns_from k at n t) q [] ≡ part j n t
unfolding columns_from
get_or_columns zero at n t q j h e = absurd (omega arith)
get_or_columns (suc k) at n t zero j h e = let f : at ≡ j = omega arith in ap (λ (m : ℕ). part m n t) f
get_or_columns (suc k) at n t (suc q) j h e = get_or_columns k (at + 16) n t q j (omega arith) (omega arith)

pub columns_are :
    (cs : List (List ℕ)) (k at n : ℕ) (u : List ℕ) → length cs ≡ k → ((q j : ℕ) → q < k → j ≡ at + 16 * q → part j n u ≡ get_or cs q []) →
    columns_from k at n u ≡ cs
unfolding columns_from
columns_are [] zero at n u e back = refl
columns_are [] (suc k) at n u e back = absurd (omega arith)
columns_are (c ∷ cs) zero at n u e back = absurd (omega arith)
columns_are (c ∷ cs) (suc k) at n u e back =
    ap₂ (λ (x : List ℕ) (xs : List (List ℕ)). x ∷ xs)
    (back 0 at (omega arith) (omega arith))
    (columns_are cs k (at + 16) n u (omega arith) (λ q j h f. back (suc q) j (omega arith) (omega arith)))

pub columns_same :
    (k at n : ℕ) (t u : List ℕ) → ((q j : ℕ) → q < k → j ≡ at + 16 * q → part j n u ≡ part j n t) → columns_from k at n u ≡ columns_from k at n t
columns_same k at n t u same =
    columns_are (columns_from k at n t) k at n u (length_columns k at n t) (λ q j h e. same q j h e ∙ sym (get_or_columns k at n t q j h e))

-- Columns laid back where they stand: nothing changes, and with one of them changed only that one is put
module _ (n : ℕ) (t v : List ℕ) where
  pub lay_columns_same :
      (k at : ℕ) → at + 16 * k ≤ length v → n ≤ 16 → ((q j : ℕ) → q < k → j ≡ at + 16 * q → part j n v ≡ part j n t) →
      lay (column_pieces at (columns_from k at n t)) v ≡ v
  unfolding lay column_pieces columns_from
  lay_columns_same zero at fits w same = refl
  lay_columns_same (suc k) at fits w same =
      ap (place at (part at n t)) (lay_columns_same k (at + 16) (omega arith) w (λ q j h e. same (suc q) j (omega arith) (omega arith))) ∙
      ap (λ (y : List ℕ). place at y v) (sym (same 0 at (omega arith) (omega arith))) ∙
      place-part at n v (omega arith)

  pub lay_columns_set :
      (k at i j : ℕ) (y : List ℕ) → at + 16 * k ≤ length v → n ≤ 16 → length y ≡ n → i < k → j ≡ at + 16 * i →
      ((q j : ℕ) → q < k → j ≡ at + 16 * q → part j n v ≡ part j n t) →
      lay (column_pieces at (set (columns_from k at n t) i y)) v ≡ place j y v
  unfolding lay column_pieces columns_from
  lay_columns_set zero at i j y fits w l h e same = absurd (omega arith)
  lay_columns_set (suc k) at zero j y fits w l h e same =
      let f : at ≡ j = omega arith in
      ap (place at y) (lay_columns_same k (at + 16) (omega arith) w (λ q j h e. same (suc q) j (omega arith) (omega arith))) ∙
      ap (λ (m : ℕ). place m y v) f
  lay_columns_set (suc k) at (suc i) j y fits w l h e same =
      let lp = length-place j y v (omega arith) in
      ap (place at (part at n t))
      (lay_columns_set k (at + 16) i j y (omega arith) w l (omega arith) (omega arith) (λ q j h e. same (suc q) j (omega arith) (omega arith))) ∙
      ap (λ (z : List ℕ). place at z (place j y v))
      (sym (part_away at n j y v (omega arith) (omega arith) (λ a b. omega arith) ∙ same 0 at (omega arith) (omega arith))) ∙
      place-part at n (place j y v) (omega arith)

-- Columns raised by others -------------------------------------------------------------------------------------------------------------------

pub length-raise_each : (cs ds : List (List ℕ)) (k : ℕ) → length cs ≡ k → length ds ≡ k → length (raise_each cs ds) ≡ k
unfolding raise_each
length-raise_each [] ds k a b = a
length-raise_each (c ∷ cs) [] k a b = absurd (omega arith)
length-raise_each (c ∷ cs) (d ∷ ds) zero a b = absurd (omega arith)
length-raise_each (c ∷ cs) (d ∷ ds) (suc k) a b = ap suc (length-raise_each cs ds k (omega arith) (omega arith))

pub get_or-raise_each :
    (cs ds : List (List ℕ)) (q : ℕ) (e : List ℕ) → q < length cs → length cs ≡ length ds →
    get_or (raise_each cs ds) q e ≡ raise (get_or cs q []) (get_or ds q [])
unfolding raise_each
get_or-raise_each [] ds q e h l = absurd (omega arith)
get_or-raise_each (c ∷ cs) [] q e h l = absurd (omega arith)
get_or-raise_each (c ∷ cs) (d ∷ ds) zero e h l = refl
get_or-raise_each (c ∷ cs) (d ∷ ds) (suc q) e h l = get_or-raise_each cs ds q e (omega arith) (omega arith)

-- each of them keeps its n entries
pub long_raise_each :
    (cs ds : List (List ℕ)) (n q : ℕ) → q < length cs → length cs ≡ length ds → length (get_or cs q []) ≡ n → length (get_or ds q []) ≡ n →
    length (get_or (raise_each cs ds) q []) ≡ n
long_raise_each cs ds n q h l a b = ap length (get_or-raise_each cs ds q [] h l) ∙ length-raise (get_or cs q []) (get_or ds q []) n a b

-- One column set to a list of n entries
pub set_columns_long :
    (cs : List (List ℕ)) (n p : ℕ) (s : List ℕ) → length s ≡ n → ((q : ℕ) → q < length cs → length (get_or cs q []) ≡ n) →
    (q : ℕ) → q < length (set cs p s) → length (get_or (set cs p s) q []) ≡ n
set_columns_long cs n p s l long q h = go (ℕ_discrete q p)
  where
    inside : q < length cs
    inside = let e = length-set cs p s in omega arith

    go : Dec (q ≡ p) → length (get_or (set cs p s) q []) ≡ n
    go (yes e) = let b = inside in rw e (ap length (get_or-set_same cs p s [] (rw e at b)) ∙ l)
    go (no e) = ap length (get_or-set_other cs p q s [] e) ∙ long q inside

pub set_columns_own : (cs : List (List ℕ)) (p : ℕ) (s : List ℕ) → p < length (set cs p s) → get_or (set cs p s) p [] ≡ s
set_columns_own cs p s h = let e = length-set cs p s in get_or-set_same cs p s [] (omega arith)
