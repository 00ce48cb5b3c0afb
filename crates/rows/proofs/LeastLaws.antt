-- A search for the smallest number of a list, and the lowest place that has it, which begins with the greatest number that a word holds.
use Rattle.std.proofs.Common.{◌≡◌, ◌∙◌, refl, ap, ℕ, ◌+◌, ◌<◌, ◌≤◌, List, length, get_or, arith}
use native.Mathlib.Decide.{dec_lt}
use Rattle.meaning.specs.Rows.{least, least_at}
use Rattle.meaning.proofs.RowLaws.{least_at_is}

-- No entry of the first k is below `low`, each before `at` is above it, and `low` stands at `at` once it is no longer the number that the search
-- began with.
pub record Found (xs : List ℕ) (low at k : ℕ) : Type 0 where
  pub inside : at < length xs
  pub passed : at ≤ k
  pub stands : low < 4294967295 → low ≡ get_or xs at 0
  pub none : (j : ℕ) → j < k → low ≤ get_or xs j 0
  pub before : (j : ℕ) → j < at → low < get_or xs j 0

-- at the beginning
pub found-none : (xs : List ℕ) → 0 < length xs → Found xs 4294967295 0 0
found-none xs some =
    record {
      inside = some;
      passed = omega arith;
      stands = λ h. absurd (omega arith);
      none = λ j h. absurd (omega arith);
      before = λ j h. absurd (omega arith);
    }

-- one entry more: it is smaller than all before, or what was found stays
module _ (xs : List ℕ) (low at k : ℕ) (here : k < length xs) (f : Found xs low at k) where
  pub found-less : get_or xs k 0 < low → Found xs (get_or xs k 0) k (k + 1)
  found-less h =
      record {
        inside = here;
        passed = omega arith;
        stands = λ g. refl;
        none = λ j g. go j g (dec_lt j k);
        before = λ j g. let b = f.none j g in omega arith;
      }
    where
      go : (j : ℕ) → j < k + 1 → Dec (j < k) → get_or xs k 0 ≤ get_or xs j 0
      go j g (yes a) = let b = f.none j a in omega arith
      go j g (no a) = let same : k ≡ j = omega arith in let y = ap (λ (m : ℕ). get_or xs m 0) same in omega arith

  pub found-stays : low ≤ get_or xs k 0 → Found xs low at (k + 1)
  found-stays h =
      let p = f.passed in
      record { inside = f.inside; passed = omega arith; stands = f.stands; none = λ j g. go j g (dec_lt j k); before = f.before }
    where
      go : (j : ℕ) → j < k + 1 → Dec (j < k) → low ≤ get_or xs j 0
      go j g (yes a) = f.none j a
      go j g (no a) = let same : k ≡ j = omega arith in let y = ap (λ (m : ℕ). get_or xs m 0) same in omega arith

-- at the end no other number and no other place have these facts
pub found-all : (xs : List ℕ) (low at k : ℕ) → length xs ≤ k → Found xs low at k → get_or xs at 0 ≤ 4294967295 → (low ≡ least xs) × (at ≡ least_at xs)
found-all xs low at k g f small =
    let e = stood (dec_lt low 4294967295) in
    let both =
    least_at_is xs at f.inside (λ j a. let y = f.none j (omega arith) in omega arith) (λ j a. let y = f.before j a in omega arith)
    in
    (e ∙ both.0, both.1)
  where
    stood : Dec (low < 4294967295) → low ≡ get_or xs at 0
    stood (yes a) = f.stands a
    stood (no a) = let inside = f.inside in let y = f.none at (omega arith) in omega arith
