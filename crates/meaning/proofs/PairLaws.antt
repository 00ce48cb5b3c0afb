-- Laws of pairs of origin and block, of lists of them without repetition, and of the pairs of a list of records. Document 02, T-05.
use mathlib.Core.Path.{◌≡◌, refl, sym, ap, subst, ◌∙◌}
use mathlib.Core.Bool.{Bool, true, false, not, ◌&&◌, ◌||◌, cond}
use mathlib.Core.List.{List, [], ◌∷◌, ◌++◌, map}
use Prim.Native.Nat.{ℕ, suc, ◌+◌, ◌≤◌}
use native.Mathlib.Omega.{arith}
use borrow.Author.Tests.{eqb-true, eq-eqb}
use lib.ListN.{length, length-map}
use lib.Dec.{eqb}
use Rattle.meaning.specs.declared.Record.{Record}
use Rattle.meaning.specs.declared.Class.{Class}
use Rattle.meaning.specs.Rows.{keep}
use Rattle.meaning.specs.Account.{same_record, has}
use Rattle.meaning.specs.Verdicts.{class_of, Pair, pair_of, same_pair, among, different, pairs_of}
use Rattle.meaning.proofs.RowLaws.{and_left, and_right, and_both}
use Rattle.meaning.proofs.AccountLaws.{by_test, not_both, same_eq}

-- Pairs ---------------------------------------------------------------------------------------------------------------------------------

-- a pair that passes the test is that pair
pub pair_eq : (x y : Pair) → same_pair x y ≡ true → x ≡ y
pair_eq x y h =
    let o = eqb x.origin y.origin in
    let b = eqb x.block y.block in
    let eo = eqb-true x.origin y.origin (and_left o b h) in
    let eb = eqb-true x.block y.block (and_right o b h) in
    λ i. record { origin = eo i; block = eb i }

pub pair_refl : (x : Pair) → same_pair x x ≡ true
pair_refl x = and_both (eqb x.origin x.origin) _ (eq-eqb x.origin x.origin refl) (eq-eqb x.block x.block refl)

-- Lists of pairs ------------------------------------------------------------------------------------------------------------------------

pub among-different : (x : Pair) (xs : List Pair) → among x (different xs) ≡ among x xs
unfolding among different
among-different x [] = refl
among-different x (y ∷ ys) =
    let ih = among-different x ys in
    by_test (among y ys)
    (λ a. by_test (same_pair x y)
    (λ e.
    let k : among x ys ≡ true = subst (λ (z : Pair). among z ys ≡ true) (sym (pair_eq x y e)) a in
    cc)
    (λ e. cc))
    (λ a. cc)

pub different_few : (xs : List Pair) → length (different xs) ≤ length xs
unfolding different
different_few [] = omega arith
different_few (x ∷ xs) = go (among x xs) (different_few xs)
  where
    go : (b : Bool) → length (different xs) ≤ length xs → length (cond b (different xs) (x ∷ different xs)) ≤ suc (length xs)
    go true h = omega arith
    go false h = omega arith

-- the pairs of a list but one
abbrev without : Pair → List Pair → List Pair
without x = keep (λ y. not (same_pair x y))

among_without : (z x : Pair) (ys : List Pair) → among z (without x ys) ≡ among z ys && not (same_pair x z)
unfolding among keep
among_without z x [] = refl
among_without z x (y ∷ ys) =
    let ih = among_without z x ys in
    by_test (same_pair z y)
    (λ e.
    let q : same_pair x z ≡ same_pair x y = ap (same_pair x) (pair_eq z y e) in
    by_test (same_pair x y) (λ k. by_test (among z ys) (λ m. cc) (λ m. cc)) (λ k. cc))
    (λ e. by_test (same_pair x y) (λ k. cc) (λ k. cc))

-- one pair left out of a list is one less of the different ones, if it stood there
different_without : (x : Pair) (ys : List Pair) → length (different ys) ≡ length (different (without x ys)) + cond (among x ys) 1 0
unfolding among different keep
different_without x [] = refl
different_without x (y ∷ ys) =
    let ih = different_without x ys in
    let w = among_without y x ys in
    by_test (same_pair x y)
    (λ e.
    let q : among x ys ≡ among y ys = ap (λ (z : Pair). among z ys) (pair_eq x y e) in
    by_test (among y ys)
    (λ a.
    let n : cond {A = ℕ} (among x ys) 1 0 ≡ 1 = rw (q, a) in
    rw (e, a) (omega arith))
    (λ a.
    let n : cond {A = ℕ} (among x ys) 1 0 ≡ 0 = rw (q, a) in
    rw (e, a) (omega arith)))
    (λ e.
    let k : among y (without x ys) ≡ among y ys = by_test (among y ys) (λ a. cc) (λ a. cc) in
    by_test (among y ys) (λ a. rw (e, k, a) (omega arith)) (λ a. rw (e, k, a) (omega arith)))

-- If each pair of one list stands in the other, the other has no fewer different ones.
pub different_fewer : (xs ys : List Pair) → ((z : Pair) → among z xs ≡ true → among z ys ≡ true) → length (different xs) ≤ length (different ys)
unfolding among different
different_fewer [] ys inside = omega arith
different_fewer (x ∷ xs) ys inside =
    by_test (among x xs)
    (λ a. rw a (different_fewer xs ys (λ z m. inside z (by_test (same_pair z x) (λ e. cc) (λ e. cc)))))
    (λ a.
    let here : among x ys ≡ true = inside x (let e = pair_refl x in cc) in
    let one : cond {A = ℕ} (among x ys) 1 0 ≡ 1 = rw here in
    let less = different_without x ys in
    let rest : (z : Pair) → among z xs ≡ true → among z (without x ys) ≡ true
    = λ z m.
    let m' : among z ys ≡ true = inside z (by_test (same_pair z x) (λ e. cc) (λ e. cc)) in
    let w = among_without z x ys in
    by_test (same_pair x z)
    (λ e. not_both (among z xs) m (subst (λ (v : Pair). among v xs ≡ false) (pair_eq x z e) a))
    (λ e. cc) in
    let ih = different_fewer xs (without x ys) rest in
    rw a (omega arith))

-- a pair stands once among the different ones, or not at all
pub different_once : (x : Pair) (ys : List Pair) → length (keep (same_pair x) (different ys)) ≡ cond (among x ys) 1 0
unfolding among different keep
different_once x [] = refl
different_once x (y ∷ ys) =
    let ih = different_once x ys in
    by_test (same_pair x y)
    (λ e.
    let q : among x ys ≡ among y ys = ap (λ (z : Pair). among z ys) (pair_eq x y e) in
    by_test (among y ys)
    (λ a.
    let n : cond {A = ℕ} (among x ys) 1 0 ≡ 1 = rw (q, a) in
    rw (e, a) (omega arith))
    (λ a.
    let n : cond {A = ℕ} (among x ys) 1 0 ≡ 0 = rw (q, a) in
    rw (e, a, e) (omega arith)))
    (λ e. by_test (among y ys) (λ a. rw (e, a) ih) (λ a. rw (e, a, e) ih))

-- The pairs of records ------------------------------------------------------------------------------------------------------------------

module _ (f : Class → Bool) where
  -- the records that pass, each as often as it stands there, and their pairs
  abbrev pub passing : List Record → List Record
  passing rs = keep (λ r. f (class_of r.verdict)) rs

  abbrev pub pairs : List Record → List Pair
  pairs rs = map pair_of (passing rs)

  pairs_first : (x : Pair) (r : Record) (rs : List Record)
      → among x (pairs (r ∷ rs)) ≡ (f (class_of r.verdict) && same_pair x (pair_of r)) || among x (pairs rs)
  unfolding among keep
  pairs_first x r rs = by_test (f (class_of r.verdict)) (λ e. rw e refl) (λ e. rw e refl)

  -- a pair stands among those of a list if a record that passes has it: the first, or one of the rest
  pub pairs_none : (x : Pair) → among x (pairs_of f []) ≡ false
  unfolding pairs_of different keep among
  pairs_none x = refl

  pub pairs_cons : (x : Pair) (r : Record) (rs : List Record)
      → among x (pairs_of f (r ∷ rs)) ≡ (f (class_of r.verdict) && same_pair x (pair_of r)) || among x (pairs_of f rs)
  unfolding pairs_of
  pairs_cons x r rs =
      let a = among-different x (pairs (r ∷ rs)) in
      let b = among-different x (pairs rs) in
      let c = pairs_first x r rs in
      cc

  pub pairs_append : (x : Pair) (rs ss : List Record) → among x (pairs_of f (rs ++ ss)) ≡ among x (pairs_of f rs) || among x (pairs_of f ss)
  pairs_append x [] ss = rw (pairs_none x) refl
  pairs_append x (r ∷ rs) ss =
      let ih = pairs_append x rs ss in
      let a = pairs_cons x r (rs ++ ss) in
      let b = pairs_cons x r rs in
      by_test (f (class_of r.verdict) && same_pair x (pair_of r)) (λ e. cc) (λ e. cc)

  -- the pair of a record of the list that passes
  pub pairs_has : (r : Record) (rs : List Record) → has r rs ≡ true → f (class_of r.verdict) ≡ true → among (pair_of r) (pairs_of f rs) ≡ true
  unfolding has
  pairs_has r [] h p = not_both true refl (sym h)
  pairs_has r (s ∷ ss) h p =
      let a = pairs_cons (pair_of r) s ss in
      by_test (same_record r s)
      (λ e.
      let q : f (class_of s.verdict) && same_pair (pair_of r) (pair_of s) ≡ true =
      subst (λ (x : Record). f (class_of x.verdict) && same_pair (pair_of r) (pair_of x) ≡ true) (same_eq r s e)
      (and_both (f (class_of r.verdict)) (same_pair (pair_of r) (pair_of r)) p (pair_refl (pair_of r))) in
      cc)
      (λ e.
      let ih = pairs_has r ss (cc) p in
      by_test (f (class_of s.verdict) && same_pair (pair_of r) (pair_of s)) (λ k. cc) (λ k. cc))

  -- one record more, before the others: one pair more if it passes and none of the others that pass has its pair
  pub pairs_more : (r : Record) (rs : List Record)
      → length (pairs_of f (r ∷ rs)) ≡ length (pairs_of f rs) + cond (f (class_of r.verdict) && not (among (pair_of r) (pairs_of f rs))) 1 0
  unfolding pairs_of different keep
  pairs_more r rs =
      let a = among-different (pair_of r) (pairs rs) in
      by_test (f (class_of r.verdict))
      (λ e. by_test (among (pair_of r) (pairs rs))
      (λ m.
      let k : among (pair_of r) (different (pairs rs)) ≡ true = a ∙ m in
      rw (e, m, k) (omega arith))
      (λ m.
      let k : among (pair_of r) (different (pairs rs)) ≡ false = a ∙ m in
      rw (e, m, k) (omega arith)))
      (λ e. rw e (omega arith))

  -- no more than the records that pass
  pub pairs_few : (rs : List Record) → length (pairs_of f rs) ≤ length (passing rs)
  unfolding pairs_of
  pairs_few rs =
      let h = different_few (pairs rs) in
      let l = length-map (passing rs) pair_of in
      omega arith

  -- one at most, if only one pair stands there
  pub pairs_one : (x : Pair) (rs : List Record) → ((z : Pair) → among z (pairs_of f rs) ≡ true → same_pair z x ≡ true) → length (pairs_of f rs) ≤ 1
  unfolding pairs_of among different
  pairs_one x rs only =
      different_fewer (pairs rs) (x ∷ [])
      (λ z m.
      let e = only z (among-different z (pairs rs) ∙ m) in
      cc)

-- if the pairs of one list stand among those of another, the other has no fewer
pub pairs_fewer : (f g : Class → Bool) (rs ss : List Record) → ((x : Pair) → among x (pairs_of f rs) ≡ true → among x (pairs_of g ss) ≡ true)
    → length (pairs_of f rs) ≤ length (pairs_of g ss)
unfolding pairs_of
pairs_fewer f g rs ss inside =
    different_fewer (pairs f rs) (pairs g ss)
    (λ x m. sym (among-different x (pairs g ss)) ∙ inside x (among-different x (pairs f rs) ∙ m))

-- and as many, if they are the same
pub pairs_same : (f : Class → Bool) (rs ss : List Record) → ((x : Pair) → among x (pairs_of f rs) ≡ among x (pairs_of f ss))
    → length (pairs_of f rs) ≡ length (pairs_of f ss)
pairs_same f rs ss same =
    let p = pairs_fewer f f rs ss (λ x m. sym (same x) ∙ m) in
    let q = pairs_fewer f f ss rs (λ x m. same x ∙ m) in
    omega arith

-- a test that implies another: its pairs are among the other's
pub pairs_weaker : (f g : Class → Bool) → ((c : Class) → f c ≡ true → g c ≡ true) → (x : Pair) (rs : List Record)
    → among x (pairs_of f rs) ≡ true → among x (pairs_of g rs) ≡ true
pairs_weaker f g weaker x [] h = not_both (among x (pairs_of f [])) h (pairs_none f x)
pairs_weaker f g weaker x (r ∷ rs) h =
    let ih = pairs_weaker f g weaker x rs in
    let a = pairs_cons f x r rs in
    let b = pairs_cons g x r rs in
    by_test (f (class_of r.verdict) && same_pair x (pair_of r))
    (λ e.
    let k = weaker (class_of r.verdict) (and_left (f (class_of r.verdict)) (same_pair x (pair_of r)) e) in
    let s = and_right (f (class_of r.verdict)) (same_pair x (pair_of r)) e in
    cc)
    (λ e.
    let m : among x (pairs_of g rs) ≡ true = ih (cc) in
    by_test (g (class_of r.verdict) && same_pair x (pair_of r)) (λ k. cc) (λ k. cc))
