-- What a keeper would check of the verdict count by hand: touched is at most scrubbed, and each at most the number of its records; one pair counts
-- once; a record whose pair and class stand already changes nothing; the order of the records does not matter.
-- Document 01, "Verdict count"; document 02, T-05.
use mathlib.Core.Path.{◌≡◌, refl, sym, ap, subst, ◌∙◌}
use mathlib.Core.Bool.{Bool, true, ◌&&◌, cond, Bool-set}
use mathlib.Core.Logic.{∥∥₁_elim}
use mathlib.Core.List.{List, [], ◌∷◌, ◌++◌, append-nil, Perm, Permᴰ}
use Prim.Native.Nat.{ℕ, ◌+◌, ◌≤◌}
use native.Mathlib.Omega.{arith}
use lib.ListN.{length}
use lib.Dec.{eqb}
use Rattle.meaning.specs.declared.Record.{Record}
use Rattle.meaning.specs.declared.Class.{Class}
use Rattle.meaning.specs.declared.Class.TheVariants.{NotRead, PageCache, PlatterGood, PlatterBad, Repaired, Reserved}
use Rattle.meaning.specs.Rows.{all, keep}
use Rattle.meaning.specs.Account.{has}
use Rattle.meaning.specs.Verdicts.{
  class_of,
  is_scrubbed,
  is_touched,
  Pair,
  pair_of,
  same_pair,
  among,
  pairs_of,
  scrubbed,
  touched,
  gap,
  counted,
}
use Rattle.meaning.proofs.RowLaws.{and_left, and_right}
use Rattle.meaning.proofs.AccountLaws.{by_test, not_both}
use Rattle.meaning.proofs.PairLaws.{
  passing,
  pairs,
  pair_eq,
  different_once,
  pairs_none,
  pairs_cons,
  pairs_append,
  pairs_has,
  pairs_few,
  pairs_one,
  pairs_fewer,
  pairs_same,
  pairs_weaker,
}

-- How many ------------------------------------------------------------------------------------------------------------------------------

-- What is touched is scrubbed.
touched-scrubbed : (c : Class) → is_touched c ≡ true → is_scrubbed c ≡ true
touched-scrubbed NotRead h = h
touched-scrubbed PageCache h = refl
touched-scrubbed PlatterGood h = refl
touched-scrubbed PlatterBad h = refl
touched-scrubbed Repaired h = refl
touched-scrubbed Reserved h = h

-- Touched is never above scrubbed, so the gap is what scrubbed has more, and never goes below zero.
pub touched_most : (rs : List Record) → touched rs ≤ scrubbed rs
unfolding touched scrubbed
touched_most rs = pairs_fewer is_touched is_scrubbed rs rs (λ x. pairs_weaker is_touched is_scrubbed touched-scrubbed x rs)

pub gap_whole : (rs : List Record) → touched rs + gap rs ≡ scrubbed rs
unfolding gap
gap_whole rs = omega (arith, touched_most rs)

-- Neither is above the number of records of its kind, which was document 01's count.
pub scrubbed-records : (rs : List Record) → scrubbed rs ≤ length (passing is_scrubbed rs)
unfolding scrubbed
scrubbed-records rs = pairs_few is_scrubbed rs

pub touched-records : (rs : List Record) → touched rs ≤ length (passing is_touched rs)
unfolding touched
touched-records rs = pairs_few is_touched rs

-- One pair ------------------------------------------------------------------------------------------------------------------------------

-- Among the pairs that are counted, a pair stands once if at least one record that passes has it, and otherwise not at all.
pub pair_once : (f : Class → Bool) (x : Pair) (rs : List Record) → length (keep (same_pair x) (pairs_of f rs)) ≡ cond (among x (pairs f rs)) 1 0
unfolding pairs_of
pair_once f x rs = different_once x (pairs f rs)

one_among : (f : Class → Bool) (x z : Pair) (rs : List Record) → all (λ r. same_pair (pair_of r) x) rs ≡ true → among z (pairs_of f rs) ≡ true
    → same_pair z x ≡ true
unfolding all
one_among f x z [] h m = not_both (among z (pairs_of f [])) m (pairs_none f z)
one_among f x z (r ∷ rs) h m =
    let here = and_left (same_pair (pair_of r) x) (all (λ s. same_pair (pair_of s) x) rs) h in
    let rest = and_right (same_pair (pair_of r) x) (all (λ s. same_pair (pair_of s) x) rs) h in
    let a = pairs_cons f z r rs in
    by_test (f (class_of r.verdict) && same_pair z (pair_of r))
    (λ e.
    let q = pair_eq z (pair_of r) (and_right (f (class_of r.verdict)) (same_pair z (pair_of r)) e) in
    subst (λ (y : Pair). same_pair y x ≡ true) (sym q) here)
    (λ e. one_among f x z rs rest (cc))

-- "A block read twice is one block": the records of one block at one origin count at most one, however many there are.
pub one_block : (origin block : ℕ) (rs : List Record) → all (λ r. eqb r.origin origin && eqb r.block block) rs ≡ true
    → (scrubbed rs ≤ 1) × (touched rs ≤ 1)
unfolding scrubbed touched
one_block origin block rs h =
    let x : Pair = record { origin = origin; block = block } in
    (pairs_one is_scrubbed x rs (λ z. one_among is_scrubbed x z rs h), pairs_one is_touched x rs (λ z. one_among is_touched x z rs h))

-- What decides the counts ---------------------------------------------------------------------------------------------------------------

-- two lists in which, whatever the test, the same pairs have a record that passes
abbrev pub SamePairs : List Record → List Record → Type 0
SamePairs rs ss = (f : Class → Bool) (x : Pair) → among x (pairs_of f rs) ≡ among x (pairs_of f ss)

pub same_counted : (rs ss : List Record) → SamePairs rs ss → counted rs ≡ counted ss
unfolding counted gap scrubbed touched
same_counted rs ss same =
    let s = pairs_same is_scrubbed rs ss (same is_scrubbed) in
    let t = pairs_same is_touched rs ss (same is_touched) in
    cc

-- A record again ------------------------------------------------------------------------------------------------------------------------

module _ (r s : Record) (rs ss : List Record) (stands : has r (rs ++ ss) ≡ true) where
  again_among : (f : Class → Bool) → pair_of s ≡ pair_of r → (f (class_of s.verdict) ≡ true → f (class_of r.verdict) ≡ true)
      → (x : Pair) → among x (pairs_of f (rs ++ (s ∷ ss))) ≡ among x (pairs_of f (rs ++ ss))
  again_among f ep ec x =
      let a = pairs_append f x rs (s ∷ ss) in
      let b = pairs_cons f x s ss in
      let c = pairs_append f x rs ss in
      by_test (f (class_of s.verdict) && same_pair x (pair_of s))
      (λ e.
      let k = ec (and_left (f (class_of s.verdict)) (same_pair x (pair_of s)) e) in
      let q = pair_eq x (pair_of s) (and_right (f (class_of s.verdict)) (same_pair x (pair_of s)) e) in
      let m : among x (pairs_of f (rs ++ ss)) ≡ true =
      subst (λ (y : Pair). among y (pairs_of f (rs ++ ss)) ≡ true) (sym (q ∙ ep)) (pairs_has f r (rs ++ ss) stands k) in
      by_test (among x (pairs_of f rs)) (λ l. cc) (λ l. cc))
      (λ e. cc)

  -- of one test: s adds no pair if it has the pair of a record r of the list, and r passes where s does
  pub again_pairs : (f : Class → Bool) → pair_of s ≡ pair_of r → (f (class_of s.verdict) ≡ true → f (class_of r.verdict) ≡ true)
      → length (pairs_of f (rs ++ (s ∷ ss))) ≡ length (pairs_of f (rs ++ ss))
  again_pairs f ep ec = pairs_same f (rs ++ (s ∷ ss)) (rs ++ ss) (again_among f ep ec)

  -- A record whose origin, block and class a record of the list has already changes nothing, wherever it is put.
  pub again_nothing : s.origin ≡ r.origin → s.block ≡ r.block → class_of s.verdict ≡ class_of r.verdict
      → counted (rs ++ (s ∷ ss)) ≡ counted (rs ++ ss)
  again_nothing eo eb ec =
      same_counted (rs ++ (s ∷ ss)) (rs ++ ss) (λ f. again_among f (λ i. record { origin = eo i; block = eb i }) (λ p. sym (ap f ec) ∙ p))

-- The same at the end of the list, where a log grows.
pub again_last : (r s : Record) (rs : List Record) → has r rs ≡ true → s.origin ≡ r.origin → s.block ≡ r.block
    → class_of s.verdict ≡ class_of r.verdict → counted (rs ++ (s ∷ [])) ≡ counted rs
again_last r s rs stands eo eb ec =
    again_nothing r s rs [] (ap (has r) (append-nil rs) ∙ stands) eo eb ec ∙ ap counted (append-nil rs)

-- Their order ---------------------------------------------------------------------------------------------------------------------------

order_among : (f : Class → Bool) (x : Pair) {rs ss : List Record} → Permᴰ rs ss → among x (pairs_of f rs) ≡ among x (pairs_of f ss)
order_among f x Permᴰ.nil = refl
order_among f x (Permᴰ.cons {a = r} {b = s} {l₁ = rs} {l₂ = ss} e d) =
    let ih = order_among f x d in
    let a = pairs_cons f x r rs in
    let b = pairs_cons f x s ss in
    cc
order_among f x (Permᴰ.swap {a = r} {b = s} {a' = r'} {b' = s'} {l = rs} e d) =
    let a1 = pairs_cons f x r (s ∷ rs) in
    let a2 = pairs_cons f x s rs in
    let b1 = pairs_cons f x r' (s' ∷ rs) in
    let b2 = pairs_cons f x s' rs in
    by_test (f (class_of r.verdict) && same_pair x (pair_of r))
    (λ p. by_test (f (class_of s.verdict) && same_pair x (pair_of s)) (λ q. cc) (λ q. cc))
    (λ p. by_test (f (class_of s.verdict) && same_pair x (pair_of s)) (λ q. cc) (λ q. cc))
order_among f x (Permᴰ.trans d d') = order_among f x d ∙ order_among f x d'

-- The order of the records does not matter.
pub any_order : (rs ss : List Record) → Perm rs ss → counted rs ≡ counted ss
any_order rs ss p = same_counted rs ss (λ f x. ∥∥₁_elim p (Bool-set (among x (pairs_of f rs)) (among x (pairs_of f ss))) (order_among f x))
