-- Laws of refusals in order: a test that applies after none gives its number and its place, one that does not apply is passed over, 0 is given
-- exactly where none applies, with place 0, the number given is one of the list, and a refusal changes nothing. They are laws of any list.
use mathlib.Core.Path.{◌≡◌, refl, ap, ◌∙◌}
use mathlib.Core.Bool.{Bool, true, false, not, ◌&&◌, ◌||◌, cond, or-true, true≢false}
use mathlib.Core.List.{List, [], ◌∷◌, ◌++◌}
use mathlib.Core.Logic.{◌⊎◌, inl, inr}
use Prim.Native.Nat.{ℕ, zero, suc, ◌<◌}
use native.Mathlib.Omega.{arith}
use borrow.Author.Tests.{eq-eqb, eqb-true, ltb-true, not-true}
use lib.Dec.{ltb, eqb}
use Rattle.meaning.specs.Rows.{unless}
use Rattle.std.specs.Prelude.{Err, Some, None}
use Rattle.meaning.specs.declared.Refusal.{Refusal}
use Rattle.meaning.specs.declared.Refusal.TheVariants.{
  Unsound,
  SessionOutcome,
  NodeAbsent,
  NodeTwice,
  TimeBehind,
  LogFull,
  ListShort,
  KindUnknown,
  DigitStray,
  SumWrong,
  LineUnended,
  StartWrong,
  JournalLong,
  RoomShort,
  DigitsOdd,
  LengthWrong,
  LineOutcome,
  OnColumns,
}
use Rattle.meaning.specs.declared.Fault.{Fault}
use Rattle.meaning.specs.Refusals.{
  number_of,
  refusal_of,
  answered,
  fault,
  fault_at,
  answered_at,
  fault_values,
  Test,
  test,
  test_at,
  first,
  first_place,
}
use Rattle.meaning.proofs.RowLaws.{and_left, and_right}

-- no test applies; each number is above 0, so that 0 is no test's; a number is a test's, or 0
unfoldable pub none : List Test → Bool
none [] = true
none (x ∷ xs) = not x.applies && none xs

unfoldable pub numbered : List Test → Bool
numbered [] = true
numbered (x ∷ xs) = ltb 0 x.number && numbered xs

unfoldable pub listed : ℕ → List Test → Bool
listed k [] = eqb k 0
listed k (x ∷ xs) = eqb k x.number || listed k xs

-- the test of number k, false where no row has it
unfoldable pub test_of : ℕ → List Test → Bool
test_of k [] = false
test_of k (x ∷ xs) = cond (eqb x.number k) x.applies (test_of k xs)

-- the number and the place that a list gives
abbrev pub Gives : List Test → ℕ → ℕ → Type 0
Gives xs k p = (first xs ≡ k) × (first_place xs ≡ p)

-- a row at the head: given, or passed over
pub given_at : (k p : ℕ) (b : Bool) (xs : List Test) → b ≡ true → Gives (test_at k p b ∷ xs) k p
unfolding first first_place
given_at k p b xs h = (rw h, rw h)

pub passed_at : (k p : ℕ) (b : Bool) (xs : List Test) → b ≡ false → Gives (test_at k p b ∷ xs) (first xs) (first_place xs)
unfolding first first_place
passed_at k p b xs h = (rw h, rw h)

pub first-given : (k : ℕ) (b : Bool) (xs : List Test) → b ≡ true → first (test k b ∷ xs) ≡ k
first-given k b xs h = (given_at k 0 b xs h).0

pub first_passed : (k : ℕ) (b : Bool) (xs : List Test) → b ≡ false → first (test k b ∷ xs) ≡ first xs
first_passed k b xs h = (passed_at k 0 b xs h).0

-- The first that applies: a test that applies with none before it gives its number
pub first_is : (xs : List Test) (x : Test) (ys : List Test) → none xs ≡ true → x.applies ≡ true → first (xs ++ (x ∷ ys)) ≡ x.number
unfolding first none
first_is [] x ys n h = rw h
first_is (y ∷ xs) x ys n h =
    rw (not-true y.applies (and_left (not y.applies) (none xs) n)) (first_is xs x ys (and_right (not y.applies) (none xs) n) h)

-- and its place
pub place_is : (xs : List Test) (x : Test) (ys : List Test) → none xs ≡ true → x.applies ≡ true → first_place (xs ++ (x ∷ ys)) ≡ x.place
unfolding first_place none
place_is [] x ys n h = rw h
place_is (y ∷ xs) x ys n h =
    rw (not-true y.applies (and_left (not y.applies) (none xs) n)) (place_is xs x ys (and_right (not y.applies) (none xs) n) h)

-- Tests after others: they are not asked where one before them applies, and alone where none does
pub given_before : (xs ys : List Test) → none xs ≡ false → Gives (xs ++ ys) (first xs) (first_place xs)
unfolding first first_place none
given_before [] ys h = absurd (true≢false h)
given_before (x ∷ xs) ys h = go x.applies (given_before xs ys) h
  where
    go : (b : Bool) → (none xs ≡ false → Gives (xs ++ ys) (first xs) (first_place xs)) → not b && none xs ≡ false
        → (cond b x.number (first (xs ++ ys)) ≡ cond b x.number (first xs))
        × (cond b x.place (first_place (xs ++ ys)) ≡ cond b x.place (first_place xs))
    go true ih e = (refl, refl)
    go false ih e = ih e

pub given-after : (xs ys : List Test) → none xs ≡ true → Gives (xs ++ ys) (first ys) (first_place ys)
unfolding first first_place none
given-after [] ys n = (refl, refl)
given-after (x ∷ xs) ys n =
    let here = not-true x.applies (and_left (not x.applies) (none xs) n) in
    let rest = given-after xs ys (and_right (not x.applies) (none xs) n) in
    (rw here rest.0, rw here rest.1)

-- None: 0 is given exactly where no test applies, and the place is 0 too
pub first-none : (xs : List Test) → none xs ≡ true → first xs ≡ 0
unfolding first none
first-none [] n = refl
first-none (x ∷ xs) n =
    rw (not-true x.applies (and_left (not x.applies) (none xs) n)) (first-none xs (and_right (not x.applies) (none xs) n))

pub place_none : (xs : List Test) → none xs ≡ true → first_place xs ≡ 0
unfolding first_place none
place_none [] n = refl
place_none (x ∷ xs) n =
    rw (not-true x.applies (and_left (not x.applies) (none xs) n)) (place_none xs (and_right (not x.applies) (none xs) n))

pub none_first : (xs : List Test) → numbered xs ≡ true → first xs ≡ 0 → none xs ≡ true
unfolding first none numbered
none_first [] k h = refl
none_first (x ∷ xs) k h = go x.applies (none_first xs (and_right (ltb 0 x.number) (numbered xs) k)) h
  where
    go : (b : Bool) → (first xs ≡ 0 → none xs ≡ true) → cond b x.number (first xs) ≡ 0 → not b && none xs ≡ true
    go true ih e = absurd (omega (arith, e, ltb-true 0 x.number (and_left (ltb 0 x.number) (numbered xs) k)))
    go false ih e = ih e

-- so each test fails, found by its number
pub none_at : (k : ℕ) (xs : List Test) → none xs ≡ true → test_of k xs ≡ false
unfolding none test_of
none_at k [] n = refl
none_at k (x ∷ xs) n =
    go (eqb x.number k) (not-true x.applies (and_left (not x.applies) (none xs) n)) (none_at k xs (and_right (not x.applies) (none xs) n))
  where
    go : (b : Bool) → x.applies ≡ false → test_of k xs ≡ false → cond b x.applies (test_of k xs) ≡ false
    go true f g = f
    go false f g = g

pub first_at : (k : ℕ) (xs : List Test) → numbered xs ≡ true → first xs ≡ 0 → test_of k xs ≡ false
first_at k xs n h = none_at k xs (none_first xs n h)

-- The number given is one of the list, or 0
pub first_listed : (xs : List Test) → listed (first xs) xs ≡ true
unfolding first listed
first_listed [] = refl
first_listed (x ∷ xs) = go x.applies (first_listed xs)
  where
    go : (b : Bool) → listed (first xs) xs ≡ true → (eqb (cond b x.number (first xs)) x.number || listed (cond b x.number (first xs)) xs) ≡ true
    go true ih = ap (λ (c : Bool). c || listed x.number xs) (eq-eqb x.number x.number refl)
    go false ih = ap (λ (c : Bool). eqb (first xs) x.number || c) ih ∙ or-true (eqb (first xs) x.number)

-- A refusal changes nothing, and without one what is new is there
module _ {A : Type 0} (xs : List Test) (new old : A) where
  pub refused_same : numbered xs ≡ true → none xs ≡ false → unless (first xs) new old ≡ old
  refused_same n h = go (first xs) refl
    where
      go : (k : ℕ) → first xs ≡ k → unless k new old ≡ old
      go zero e = let p = none_first xs n e in let f : true ≡ false = cc in absurd (true≢false f)
      go (suc k) e = refl

  pub accepted_new : none xs ≡ true → unless (first xs) new old ≡ new
  accepted_new h = rw (first-none xs h)

-- Refusals by name and by number. A name's number is above 0, and the refusal of that number is the name
pub number_above : (r : Refusal) → 0 < number_of r
number_above Unsound = omega arith
number_above SessionOutcome = omega arith
number_above NodeAbsent = omega arith
number_above NodeTwice = omega arith
number_above TimeBehind = omega arith
number_above LogFull = omega arith
number_above ListShort = omega arith
number_above KindUnknown = omega arith
number_above DigitStray = omega arith
number_above SumWrong = omega arith
number_above LineUnended = omega arith
number_above StartWrong = omega arith
number_above JournalLong = omega arith
number_above RoomShort = omega arith
number_above DigitsOdd = omega arith
number_above LengthWrong = omega arith
number_above LineOutcome = omega arith
number_above OnColumns = omega arith

pub refusal_number : (r : Refusal) → refusal_of (number_of r) ≡ r
unfolding refusal_of
refusal_number Unsound = refl
refusal_number SessionOutcome = refl
refusal_number NodeAbsent = refl
refusal_number NodeTwice = refl
refusal_number TimeBehind = refl
refusal_number LogFull = refl
refusal_number ListShort = refl
refusal_number KindUnknown = refl
refusal_number DigitStray = refl
refusal_number SumWrong = refl
refusal_number LineUnended = refl
refusal_number StartWrong = refl
refusal_number JournalLong = refl
refusal_number RoomShort = refl
refusal_number DigitsOdd = refl
refusal_number LengthWrong = refl
refusal_number LineOutcome = refl
refusal_number OnColumns = refl

-- so a call that is refused with a name's number answers that name
pub answered_name : {A : Type 0} (r : Refusal) (k : ℕ) (x : A) → k ≡ number_of r → answered k x ≡ Err r
answered_name r zero x e = absurd (omega (arith, number_above r))
answered_name r (suc k) x e = ap Err (ap refusal_of e ∙ refusal_number r)

pub fault_name : (r : Refusal) (k p : ℕ) → k ≡ number_of r → fault k p ≡ record { refusal = r; place = p }
fault_name r k p e = let same : refusal_of k ≡ r = ap refusal_of e ∙ refusal_number r in λ i. record { refusal = same i; place = p }

pub fault_at_name : (r : Refusal) (k p : ℕ) → k ≡ number_of r → fault_at k p ≡ Some (record { refusal = r; place = p })
fault_at_name r zero p e = absurd (omega (arith, number_above r))
fault_at_name r (suc k) p e = ap Some (fault_name r (suc k) p e)

pub answered_at_name : {A : Type 0} (r : Refusal) (k p : ℕ) (x : A) → k ≡ number_of r → answered_at k p x ≡ Err (record { refusal = r; place = p })
answered_at_name r zero p x e = absurd (omega (arith, number_above r))
answered_at_name r (suc k) p x e = ap Err (fault_name r (suc k) p e)

-- and leaves what was there
pub unless_name : {A : Type 0} (r : Refusal) (k : ℕ) (new old : A) → k ≡ number_of r → unless k new old ≡ old
unless_name r zero new old e = absurd (omega (arith, number_above r))
unless_name r (suc k) new old e = refl

-- what a list of tests finds wrong is what its line answers, and where it finds nothing the number is 0
pub fault_none : (k p : ℕ) → fault_at k p ≡ None → k ≡ 0
fault_none zero p e = refl
fault_none (suc k) p e = let z : ◌≡◌ {A = ℕ} 0 1 = cc in absurd (omega arith)

pub answered_fault : {A : Type 0} (k p : ℕ) (x : A) (f : Fault) → fault_at k p ≡ Some f → answered_at k p x ≡ Err f
answered_fault zero p x f e = let z : ◌≡◌ {A = ℕ} 0 1 = cc in absurd (omega arith)
answered_fault (suc k) p x f e = ap Err (cc e)

-- Numbers that names have: of a list whose numbers are such, the number told is the number given
unfoldable pub named : List Test → Bool
named [] = true
named (x ∷ xs) = eqb (number_of (refusal_of x.number)) x.number && named xs

abbrev pub Named : ℕ → Type 0
Named k = (k ≡ 0) ⊎ (number_of (refusal_of k) ≡ k)

pub first_named : (xs : List Test) → named xs ≡ true → Named (first xs)
unfolding named first
first_named [] h = inl refl
first_named (x ∷ xs) h = go x.applies (first_named xs (and_right (eqb (number_of (refusal_of x.number)) x.number) (named xs) h))
  where
    go : (b : Bool) → Named (first xs) → Named (cond b x.number (first xs))
    go true ih = inr (eqb-true (number_of (refusal_of x.number)) x.number (and_left (eqb (number_of (refusal_of x.number)) x.number) (named xs) h))
    go false ih = ih

-- number and place of what is found
pub fault_told : (k p : ℕ) → Named k → (k ≡ 0 → p ≡ 0) → fault_values (fault_at k p) ≡ k ∷ p ∷ []
fault_told zero p (inl e) none = rw (none refl)
fault_told zero p (inr e) none = rw (none refl)
fault_told (suc k) p (inl e) none = absurd (omega (arith, e))
fault_told (suc k) p (inr e) none = rw e
