-- Laws of the search along a chain: it ends at a record of the pair it seeks or at none, and only what stands on its way matters to it.
use mathlib.Core.Path.{◌≡◌, sym, ap, subst, ◌∙◌}
use mathlib.Core.Bool.{true, false, not}
use mathlib.Core.List.{List}
use Prim.Native.Nat.{ℕ, zero, suc, ◌-◌, ◌*◌, ◌<◌, ◌≤◌}
use native.Mathlib.Omega.{arith}
use borrow.Author.Tests.{ltb-true, ltb-false, lt-ltb, not-true, not-false}
use lib.ListN.{length, get_or}
use lib.Dec.{ltb}
use Rattle.meaning.specs.Rows.{record_at}
use Rattle.meaning.specs.Table.{log_most}
use Rattle.meaning.specs.Verdicts.{Pair, pair_of, same_pair}
use Rattle.meaning.proofs.AccountLaws.{by_test}
use Rattle.meaning.proofs.RowLaws.{and_left, and_right}
use Rattle.pairs.specs.Chains.{Rising, Seeks, ends, goes, goes_on}

-- what a head or a link says is a record of the list, or none
pub within_if : (j n : ℕ) → (0 < j → 4 * j ≤ n) → 4 * j ≤ n
within_if j n h = by_test (ltb 0 j) (λ t. h (ltb-true 0 j t)) (λ f. let z = ltb-false 0 j f in omega arith)

pub link_within : (w links : List ℕ) → Rising w links → (k : ℕ) → 4 * get_or links k 0 ≤ length w
link_within w links rising k = within_if (get_or links k 0) (length w) (λ b. (rising.link k b).1)

-- the rows that are ahead of a search
pub ahead : ℕ → ℕ
ahead zero = 0
ahead (suc k) = log_most - k

pub ahead_less : (w links : List ℕ) → Rising w links → (k j : ℕ) → 0 < k → 4 * k ≤ length w → j ≡ get_or links (k - 1) 0 → ahead j < ahead k
unfolding ahead
ahead_less w links rising zero j some low e = absurd (omega arith)
ahead_less w links rising (suc k) zero some low e = omega (arith, rising.room)
ahead_less w links rising (suc k) (suc j) some low e =
    let m : suc k - 1 ≡ k = omega arith in
    let h = (rising.link k (subst (λ (i : ℕ). 0 < i) (e ∙ ap (λ (i : ℕ). get_or links i 0) m) (omega arith))).0 in
    let f : suc j ≡ get_or links k 0 = e ∙ ap (λ (i : ℕ). get_or links i 0) m in
    omega (arith, rising.room)

module _ (w : List ℕ) (x : Pair) where
  -- a search goes on at a record of another pair, and stops at one of this pair
  pub on_some : (k : ℕ) → goes_on w x k ≡ true → 0 < k
  on_some k g = ltb-true 0 k (and_left (ltb 0 k) (not (same_pair x (pair_of (record_at w (k - 1))))) g)

  pub on_other : (k : ℕ) → goes_on w x k ≡ true → same_pair x (pair_of (record_at w (k - 1))) ≡ false
  on_other k g = not-true (same_pair x (pair_of (record_at w (k - 1)))) (and_right (ltb 0 k) (not (same_pair x (pair_of (record_at w (k - 1))))) g)

  pub stops_same : (k : ℕ) → goes_on w x k ≡ false → 0 < k → same_pair x (pair_of (record_at w (k - 1))) ≡ true
  stops_same k e b = not-false (same_pair x (pair_of (record_at w (k - 1)))) (let l = lt-ltb 0 k b in cc)

  module _ (links : List ℕ) (rising : Rising w links) where
    pub seeks_within : {k n : ℕ} → 4 * k ≤ length w → Seeks w links x k n → 4 * n ≤ length w
    seeks_within h (ends e) = h
    seeks_within {k} h (goes g s) = seeks_within (link_within w links rising (k - 1)) s

    -- where the links are the same from row `low` on, so is a search that is there
    pub seeks_away : (links' : List ℕ) (low : ℕ)
        → ((j : ℕ) → low ≤ j → get_or links' j 0 ≡ get_or links j 0)
        → {k n : ℕ} → (0 < k → low < k) → Seeks w links' x k n → Seeks w links x k n
    seeks_away links' low agree h (ends e) = ends e
    seeks_away links' low agree {k} {n} h (goes g s) =
        let l = h (on_some k g) in
        let a = agree (k - 1) (omega arith) in
        let later : 0 < get_or links' (k - 1) 0 → low < get_or links' (k - 1) 0
        = λ c. let m = (rising.link (k - 1) (subst (λ (z : ℕ). 0 < z) a c)).0 in subst (λ (z : ℕ). low < z) (sym a) (omega arith) in
        goes g (subst (λ (z : ℕ). Seeks w links x z n) a (seeks_away links' low agree later s))
