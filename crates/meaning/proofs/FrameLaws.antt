-- Laws of a line's digits, bytes, sum and numbers, for whoever reads or writes frames.
use mathlib.Core.Path.{◌≡◌, refl, sym, ◌∙◌, ap}
use mathlib.Core.Bool.{Bool, true, false, not, ◌&&◌, ◌||◌, cond, true≢false}
use mathlib.Core.List.{List, [], ◌∷◌, ◌++◌}
use Prim.Native.Nat.{ℕ, zero, suc, ◌+◌, ◌-◌, ◌*◌, ◌/◌, ◌%◌, ◌^◌, ◌≤◌, ◌<◌, min}
use native.Mathlib.Omega.{arith}
use native.Mathlib.Numerals.{add-one}
use native.Mathlib.Nat.{pow-suc, mul_assoc, mul-le-mul_right}
use lib.ListN.{length, get_or, take, drop, length-append}
use lib.Dec.{leb, ltb, eqb}
use borrow.Author.Tests.{ltb-true, ltb-false, lt-ltb, le-ltb, le-leb, lt-leb, leb-true, eqb-true, eq-eqb, ne_eqb, not-true, not-false}
use Rattle.std.specs.Prelude.{Ok, Err, Some, None}
use mathlib.Core.Logic.{inl, inr}
use Rattle.meaning.specs.declared.Refusal.{Refusal}
use Rattle.meaning.specs.declared.Refusal.TheVariants.{SessionOutcome, StartWrong, RoomShort}
use Rattle.meaning.specs.declared.Fault.{Fault}
use Rattle.meaning.specs.declared.Said.TheVariants.{Begin, Act}
use Rattle.meaning.specs.declared.Action.{Action}
use Rattle.meaning.specs.declared.Action.TheVariants.{Write, Session, Purge, Deliver}
use Rattle.meaning.specs.Refusals.{number_of, refusal_of, answered, fault, fault_at, answered_at, Test, test, test_at, first, first_place}
use Rattle.meaning.specs.Table.{count_right, place}
use Rattle.meaning.specs.Rows.{unless}
use Rattle.meaning.specs.Steps.{outcome_above}
use Rattle.meaning.specs.Frames.{
  digit_value,
  bytes_of,
  all_digits,
  stray_at,
  total,
  number,
  Kind,
  journal_kinds,
  known_in,
  known,
  widths_in,
  digits_in,
  digits_of,
  field_place_in,
  field_place,
  action_of,
  line_kind,
  line_fields,
  outcome_high,
  start_wrong,
  field_tests,
  line_tests,
  line_refusal,
  line_place,
  line_fault,
  read_line,
  spelled,
  high_first,
  packed,
  sealed,
  frame_in,
  frame,
  start_frame,
  writer_tests,
  writer_refusal,
  starter_tests,
  starter_refusal,
  frame_reply,
  frame_after,
  start_reply,
  start_after,
  line_values,
  meant,
  framed_values,
  words_tests,
  words_fault,
  six_values,
  words_after,
}
use Rattle.meaning.proofs.RowLaws.{and_left, and_right}
use Rattle.meaning.proofs.RefusalLaws.{
  Named,
  named,
  first_named,
  answered_name,
  unless_name,
  fault_at_name,
  fault_none,
  answered_fault,
  none,
  numbered,
  Gives,
  given_at,
  passed_at,
  first-given,
  first_passed,
  given_before,
  given-after,
  first-none,
  none_first,
  place_none,
}

-- a digit's number, and 16 for any other character
pub digit-decimal : (c : ℕ) → 48 ≤ c → c ≤ 57 → digit_value c ≡ c - 48
unfolding digit_value
digit-decimal c p q = cc (le-leb 48 c p, le-leb c 57 q)

pub digit_letter : (c : ℕ) → 65 ≤ c → c ≤ 70 → digit_value c ≡ c - 55
unfolding digit_value
digit_letter c p q = cc (le-leb 48 c (omega arith), lt-leb c 57 (omega arith), le-leb 65 c p, le-leb c 70 q)

pub digit-none : (c : ℕ) → (48 ≤ c → c ≤ 57 → ⊥) → (65 ≤ c → c ≤ 70 → ⊥) → digit_value c ≡ 16
unfolding digit_value
digit-none c p q = go (leb 48 c) (leb c 57) (leb 65 c) (leb c 70) refl refl refl refl
  where
    go : (a b d e : Bool) → leb 48 c ≡ a → leb c 57 ≡ b → leb 65 c ≡ d → leb c 70 ≡ e → cond (a && b) (c - 48) (cond (d && e) (c - 55) 16) ≡ 16
    go true true d e h1 h2 h3 h4 = absurd (p (leb-true 48 c h1) (leb-true c 57 h2))
    go true false true true h1 h2 h3 h4 = absurd (q (leb-true 65 c h3) (leb-true c 70 h4))
    go true false true false h1 h2 h3 h4 = refl
    go true false false e h1 h2 h3 h4 = refl
    go false b true true h1 h2 h3 h4 = absurd (q (leb-true 65 c h3) (leb-true c 70 h4))
    go false b true false h1 h2 h3 h4 = refl
    go false b false e h1 h2 h3 h4 = refl

-- two digits a byte
pub length-bytes_of : (l : List ℕ) → length (bytes_of l) ≡ length l / 2
unfolding bytes_of
length-bytes_of [] = refl
length-bytes_of (h ∷ []) = refl
length-bytes_of (h ∷ (c ∷ cs)) = omega (arith, length-bytes_of cs)

pub byte_at : (l : List ℕ) (k : ℕ) → k < length (bytes_of l) →
    get_or (bytes_of l) k 0 ≡ 16 * digit_value (get_or l (2 * k) 0) + digit_value (get_or l (2 * k + 1) 0)
unfolding bytes_of
byte_at [] k h = absurd (omega arith)
byte_at (h ∷ []) k p = absurd (omega arith)
byte_at (h ∷ (c ∷ cs)) zero p = refl
byte_at (h ∷ (c ∷ cs)) (suc k) p =
    let odd : 2 * suc k + 1 ≡ suc (suc (2 * k + 1)) = omega arith in
    let even : 2 * suc k ≡ suc (suc (2 * k)) = omega arith in
    rw (odd, even) (byte_at cs k (omega arith))

-- every character of a line is a digit exactly if the test says so
pub digits_cons : (c : ℕ) (cs : List ℕ) → all_digits (c ∷ cs) ≡ true → (digit_value c < 16) × (all_digits cs ≡ true)
unfolding all_digits
digits_cons c cs p =
    (ltb-true (digit_value c) 16 (and_left (ltb (digit_value c) 16) (all_digits cs) p), and_right (ltb (digit_value c) 16) (all_digits cs) p)

pub digits_at : (l : List ℕ) (i : ℕ) → all_digits l ≡ true → i < length l → digit_value (get_or l i 0) < 16
digits_at [] i p h = absurd (omega arith)
digits_at (c ∷ cs) zero p h = (digits_cons c cs p).0
digits_at (c ∷ cs) (suc i) p h = digits_at cs i (digits_cons c cs p).1 (omega arith)

pub digits_all : (l : List ℕ) → ((i : ℕ) → i < length l → digit_value (get_or l i 0) < 16) → all_digits l ≡ true
unfolding all_digits
digits_all [] p = refl
digits_all (c ∷ cs) p = cc (lt-ltb (digit_value c) 16 (p 0 (omega arith)), digits_all cs (λ i h. p (suc i) (omega arith)))

pub stray : (l : List ℕ) (i : ℕ) → i < length l → 16 ≤ digit_value (get_or l i 0) → all_digits l ≡ false
stray l i h p = go (all_digits l) refl
  where
    go : (b : Bool) → all_digits l ≡ b → b ≡ false
    go true e = absurd (omega (arith, digits_at l i e h))
    go false e = refl

-- numbers below 256
abbrev pub Bytes : List ℕ → Type 0
Bytes [] = Unit
Bytes (b ∷ bs) = (b < 256) × Bytes bs

pub bytes_take : (k : ℕ) (bs : List ℕ) → Bytes bs → Bytes (take k bs)
bytes_take zero bs p = tt
bytes_take (suc k) [] p = tt
bytes_take (suc k) (b ∷ bs) p = (p.0, bytes_take k bs p.1)

pub bytes_drop : (k : ℕ) (bs : List ℕ) → Bytes bs → Bytes (drop k bs)
bytes_drop zero bs p = p
bytes_drop (suc k) [] p = tt
bytes_drop (suc k) (b ∷ bs) p = bytes_drop k bs p.1

pub bytes_append : (xs ys : List ℕ) → Bytes xs → Bytes ys → Bytes (xs ++ ys)
bytes_append [] ys p q = q
bytes_append (x ∷ xs) ys p q = (p.0, bytes_append xs ys p.1 q)

pub bytes_of_lem : (l : List ℕ) → all_digits l ≡ true → Bytes (bytes_of l)
unfolding bytes_of
bytes_of_lem [] p = tt
bytes_of_lem (h ∷ []) p = tt
bytes_of_lem (h ∷ (c ∷ cs)) p =
    let x = digits_cons h (c ∷ cs) p in
    let y = digits_cons c cs x.1 in
    (omega arith, bytes_of_lem cs y.1)

-- the wrapped sum
pub total-append : (xs ys : List ℕ) → total (xs ++ ys) ≡ (total xs + total ys) % 256
unfolding total
total-append [] [] = refl
total-append [] (y ∷ ys) = omega arith
total-append (x ∷ xs) ys = omega (arith, total-append xs ys)

pub total_below : (bs : List ℕ) → total bs < 256
unfolding total
total_below [] = omega arith
total_below (b ∷ bs) = omega arith

-- high byte first
pub number_snoc : (bs : List ℕ) (b : ℕ) → number (bs ++ (b ∷ [])) ≡ number bs * 256 + b
unfolding number
number_snoc [] b = omega arith
number_snoc (x ∷ bs) b =
    let one : length (bs ++ (b ∷ [])) ≡ suc (length bs) = length-append bs (b ∷ []) ∙ add-one (length bs) in
    let high : x * 256 ^ length (bs ++ (b ∷ [])) ≡ x * 256 ^ length bs * 256 = rw (one, pow-suc) (sym (mul_assoc x (256 ^ length bs) 256)) in
    omega (arith, number_snoc bs b)

pub number_below : (bs : List ℕ) → Bytes bs → number bs < 256 ^ length bs
unfolding number
number_below [] p = omega arith
number_below (x ∷ bs) p =
    let low : x ≤ 255 = omega (arith, p.0) in
    rw pow-suc (omega (arith, number_below bs p.1, mul-le-mul_right (256 ^ length bs) low))

-- a kind's digits are some, and even in number
pub digits_even : (ks : List Kind) (k : ℕ) → (digits_in ks k % 2 ≡ 0) × (0 < digits_in ks k)
unfolding digits_in
digits_even ks k = (omega arith, omega arith)

-- a journal's kinds, one by one
pub kind_cases : (P : ℕ → Type 0) → P 0 → P 1 → P 2 → P 3 → P 5 → (k : ℕ) → known k ≡ true → P k
unfolding known_in journal_kinds
kind_cases P a b c d e zero h = a
kind_cases P a b c d e (suc zero) h = b
kind_cases P a b c d e (suc (suc zero)) h = c
kind_cases P a b c d e (suc (suc (suc zero))) h = d
kind_cases P a b c d e (suc (suc (suc (suc zero)))) h = absurd (true≢false (sym h))
kind_cases P a b c d e (suc (suc (suc (suc (suc zero))))) h = e
kind_cases P a b c d e (suc (suc (suc (suc (suc (suc k)))))) h =
    let n = suc (suc (suc (suc (suc (suc k))))) in
    let three = ne_eqb n 3 (omega arith) in
    let five = ne_eqb n 5 (omega arith) in
    let f : true ≡ false = cc (h, ne_eqb n 0 (omega arith), ne_eqb n 1 (omega arith), ne_eqb n 2 (omega arith)) in
    absurd (true≢false f)

-- the first character that is no digit: one of the line's, none before it, and it is none; the length where all are digits
pub stray_within : (l : List ℕ) → all_digits l ≡ false → stray_at l < length l
unfolding all_digits stray_at
stray_within [] h = absurd (true≢false h)
stray_within (c ∷ cs) h = go (ltb (digit_value c) 16) h (stray_within cs)
  where
    go : (b : Bool) → b && all_digits cs ≡ false → (all_digits cs ≡ false → stray_at cs < length cs) → cond b (suc (stray_at cs)) 0 < length (c ∷ cs)
    go true p ih = let r = ih p in omega arith
    go false p ih = omega arith

pub stray_before : (l : List ℕ) → all_digits (take (stray_at l) l) ≡ true
unfolding all_digits stray_at
stray_before [] = refl
stray_before (c ∷ cs) = go (ltb (digit_value c) 16) refl (stray_before cs)
  where
    go : (b : Bool) → ltb (digit_value c) 16 ≡ b → all_digits (take (stray_at cs) cs) ≡ true → all_digits (take (cond b (suc (stray_at cs)) 0) (c ∷ cs)) ≡ true
    go true e ih = cc
    go false e ih = refl

pub stray_there : (l : List ℕ) → all_digits l ≡ false → 16 ≤ digit_value (get_or l (stray_at l) 0)
unfolding all_digits stray_at
stray_there [] h = absurd (true≢false h)
stray_there (c ∷ cs) h = go (ltb (digit_value c) 16) refl h (stray_there cs)
  where
    go : (b : Bool) → ltb (digit_value c) 16 ≡ b → b && all_digits cs ≡ false → (all_digits cs ≡ false → 16 ≤ digit_value (get_or cs (stray_at cs) 0))
        → 16 ≤ digit_value (get_or (c ∷ cs) (cond b (suc (stray_at cs)) 0) 0)
    go true e p ih = ih p
    go false e p ih = ltb-false (digit_value c) 16 e

-- what a loop over the line finds, by place; and whether all are digits, by what it found
pub stray_here : (l : List ℕ) (i : ℕ) → i < length l → ((j : ℕ) → j < i → digit_value (get_or l j 0) < 16) → 16 ≤ digit_value (get_or l i 0) → stray_at l ≡ i
unfolding stray_at
stray_here [] i h d p = absurd (omega arith)
stray_here (c ∷ cs) zero h d p = cc (le-ltb (digit_value c) 16 p)
stray_here (c ∷ cs) (suc i) h d p =
    cc (lt-ltb (digit_value c) 16 (d 0 (omega arith)), stray_here cs i (omega arith) (λ j q. d (suc j) (omega arith)) p)

pub stray_none : (l : List ℕ) → all_digits l ≡ true → stray_at l ≡ length l
unfolding all_digits stray_at
stray_none [] d = refl
stray_none (c ∷ cs) d =
    let here = and_left (ltb (digit_value c) 16) (all_digits cs) d in
    cc (here, stray_none cs (and_right (ltb (digit_value c) 16) (all_digits cs) d))

pub stray_some : (l : List ℕ) → stray_at l < length l → all_digits l ≡ false
stray_some l h = go (all_digits l) refl
  where
    go : (b : Bool) → all_digits l ≡ b → b ≡ false
    go true d = absurd (omega (arith, stray_none l d))
    go false d = refl

pub stray_past : (l : List ℕ) → length l ≤ stray_at l → all_digits l ≡ true
stray_past l h = go (all_digits l) refl
  where
    go : (b : Bool) → all_digits l ≡ b → b ≡ true
    go true d = refl
    go false d = absurd (omega (arith, stray_within l d))

-- the number and the place of a line's refusal
abbrev pub Refuses : List ℕ → ℕ → ℕ → Type 0
Refuses l k p = (line_refusal l ≡ k) × (line_place l ≡ p)

-- the refusals of a line in their order, each with its place
module _ (l : List ℕ) where
  pub refused_stray : all_digits l ≡ false → Refuses l 12 (stray_at l)
  unfolding line_refusal line_place line_tests first first_place
  refused_stray p = (cc, cc)

  module _ (d : all_digits l ≡ true) where
    pub refused_odd : length l % 2 ≡ 1 → Refuses l 18 (length l)
    unfolding line_refusal line_place line_tests first first_place
    refused_odd p = let odd = eq-eqb (length l % 2) 1 p in (cc, cc)

    pub refused_none : length l ≡ 0 → Refuses l 18 (length l)
    unfolding line_refusal line_place line_tests first first_place
    refused_none p = (cc, cc)

    module _ (even : length l % 2 ≡ 0) (some : 0 < length l) where
      pub refused_unknown : known (line_kind (bytes_of l)) ≡ false → Refuses l 11 0
      unfolding line_refusal line_place line_tests first first_place
      refused_unknown p =
          let not_odd = ne_eqb (length l % 2) 1 (omega arith) in
          let not__none = ne_eqb (length l) 0 (omega arith) in
          (cc, cc)

      pub refused_length : known (line_kind (bytes_of l)) ≡ true → (length l ≡ digits_of (line_kind (bytes_of l)) → ⊥)
          → Refuses l 19 (min (length l) (digits_of (line_kind (bytes_of l))))
      unfolding line_refusal line_place line_tests first first_place
      refused_length p h =
          let not_odd = ne_eqb (length l % 2) 1 (omega arith) in
          let not__none = ne_eqb (length l) 0 (omega arith) in
          let other = ne_eqb (length l) (digits_of (line_kind (bytes_of l))) h in
          (cc, cc)

    -- what is left to ask of a line of digits that has its kind's length
    pub refusal_whole : known (line_kind (bytes_of l)) ≡ true → length l ≡ digits_of (line_kind (bytes_of l))
        → Refuses l (first (field_tests l)) (first_place (field_tests l))
    unfolding line_refusal line_place line_tests first first_place
    refusal_whole p long =
        let even = digits_even journal_kinds (line_kind (bytes_of l)) in
        let even' : (length l % 2 ≡ 1 → ⊥) = rw long (omega arith) in
        let not_odd = ne_eqb (length l % 2) 1 even' in
        let not__none = ne_eqb (length l) 0 (omega arith) in
        let due = eq-eqb (length l) (digits_of (line_kind (bytes_of l))) long in
        (cc, cc)

-- the outcome byte's first digit
pub outcome_place : field_place 2 4 ≡ 22
unfolding field_place_in widths_in journal_kinds
outcome_place = refl

-- a journal's line that is whole: the outcome, the sum, a start's n
module _ (l : List ℕ) where
  pub given_outcome : outcome_high (bytes_of l) ≡ true → Gives (field_tests l) 20 22
  unfolding field_tests
  given_outcome p =
      let here = given_at 20 (field_place 2 4) (outcome_high (bytes_of l)) _ p in
      (here.0, here.1 ∙ outcome_place)

  module _ (p : outcome_high (bytes_of l) ≡ false) where
    sum_tests : List Test
    sum_tests = test_at 13 (length l - 2) (not (eqb (total (bytes_of l)) 0)) ∷ test_at 15 0 (start_wrong (bytes_of l)) ∷ []

    after_outcome : Gives (field_tests l) (first sum_tests) (first_place sum_tests)
    unfolding field_tests sum_tests
    after_outcome = passed_at 20 (field_place 2 4) (outcome_high (bytes_of l)) _ p

    pub given-sum : (total (bytes_of l) ≡ 0 → ⊥) → Gives (field_tests l) 13 (length l - 2)
    unfolding sum_tests
    given-sum h =
        let here = given_at 13 (length l - 2) (not (eqb (total (bytes_of l)) 0)) _ (ap not (ne_eqb (total (bytes_of l)) 0 h)) in
        (after_outcome.0 ∙ here.0, after_outcome.1 ∙ here.1)

    module _ (z : total (bytes_of l) ≡ 0) where
      start_tests : List Test
      start_tests = test_at 15 0 (start_wrong (bytes_of l)) ∷ []

      after-sum : Gives (field_tests l) (first start_tests) (first_place start_tests)
      unfolding sum_tests start_tests
      after-sum =
          let here = passed_at 13 (length l - 2) (not (eqb (total (bytes_of l)) 0)) _ (ap not (eq-eqb (total (bytes_of l)) 0 z)) in
          (after_outcome.0 ∙ here.0, after_outcome.1 ∙ here.1)

      pub given_start : start_wrong (bytes_of l) ≡ true → Gives (field_tests l) 15 0
      unfolding start_tests
      given_start h =
          let here = given_at 15 0 (start_wrong (bytes_of l)) [] h in
          (after-sum.0 ∙ here.0, after-sum.1 ∙ here.1)

      pub given-none : start_wrong (bytes_of l) ≡ false → Gives (field_tests l) 0 0
      unfolding start_tests first first_place
      given-none h =
          let here = passed_at 15 0 (start_wrong (bytes_of l)) [] h in
          (after-sum.0 ∙ here.0, after-sum.1 ∙ here.1)

-- A line is not refused exactly where all this holds of it
pub record Good (l : List ℕ) : Type 0 where
  pub digits : all_digits l ≡ true
  pub has_kind : known (line_kind (bytes_of l)) ≡ true
  pub long : length l ≡ digits_of (line_kind (bytes_of l))
  pub outcome : outcome_high (bytes_of l) ≡ false
  pub sum : total (bytes_of l) ≡ 0
  pub start : start_wrong (bytes_of l) ≡ false

pub clear : (l : List ℕ) → Good l → line_refusal l ≡ 0
clear l g = (refusal_whole l g.digits g.has_kind g.long).0 ∙ (given-none l g.outcome g.sum g.start).0

passed : (k p : ℕ) (b : Bool) (xs : List Test) → none (test_at k p b ∷ xs) ≡ true → (b ≡ false) × (none xs ≡ true)
unfolding none
passed k p b xs h = (not-true b (and_left (not b) (none xs) h), and_right (not b) (none xs) h)

pub good : (l : List ℕ) → line_refusal l ≡ 0 → Good l
unfolding line_refusal line_tests field_tests numbered
good l p =
    let bs = bytes_of l in
    let due = min (length l) (digits_of (line_kind bs)) in
    let r₆ = test_at 15 0 (start_wrong bs) ∷ [] in
    let r₅ = test_at 13 (length l - 2) (not (eqb (total bs) 0)) ∷ r₆ in
    let r₄ = test_at 20 (field_place 2 4) (outcome_high bs) ∷ r₅ in
    let r₃ = test_at 19 due (not (eqb (length l) (digits_of (line_kind bs)))) ∷ r₄ in
    let r₂ = test_at 11 0 (not (known (line_kind bs))) ∷ r₃ in
    let r₁ = test_at 18 (length l) (eqb (length l % 2) 1 || eqb (length l) 0) ∷ r₂ in
    let g₀ = passed 12 (stray_at l) (not (all_digits l)) r₁ (none_first (line_tests l) refl p) in
    let g₁ = passed 18 (length l) (eqb (length l % 2) 1 || eqb (length l) 0) r₂ g₀.1 in
    let g₂ = passed 11 0 (not (known (line_kind bs))) r₃ g₁.1 in
    let g₃ = passed 19 due (not (eqb (length l) (digits_of (line_kind bs)))) r₄ g₂.1 in
    let g₄ = passed 20 (field_place 2 4) (outcome_high bs) r₅ g₃.1 in
    let g₅ = passed 13 (length l - 2) (not (eqb (total bs) 0)) r₆ g₄.1 in
    record {
      digits = not-false (all_digits l) g₀.0;
      has_kind = not-false (known (line_kind bs)) g₂.0;
      long = eqb-true (length l) (digits_of (line_kind bs)) (not-false (eqb (length l) (digits_of (line_kind bs))) g₃.0);
      outcome = g₄.0;
      sum = eqb-true (total bs) 0 (not-false (eqb (total bs) 0) g₅.0);
      start = (passed 15 0 (start_wrong bs) [] g₅.1).0;
    }

-- a line that is not refused has no place
pub clear_place : (l : List ℕ) → line_refusal l ≡ 0 → line_place l ≡ 0
unfolding line_refusal line_place line_tests field_tests numbered
clear_place l p = place_none (line_tests l) (none_first (line_tests l) refl p)

-- refusal and place together, and none
pub fault_is : (l : List ℕ) (r : Refusal) (p : ℕ) → Refuses l (number_of r) p → Some (record { refusal = r; place = p }) ≡ line_fault l
unfolding line_fault
fault_is l r p e = sym (rw (e.1) (fault_at_name r (line_refusal l) p e.0))

pub no_fault : (l : List ℕ) → line_refusal l ≡ 0 → None ≡ line_fault l
unfolding line_fault
no_fault l p = rw p refl

-- what a line says: its refusal, a start or a step
pub read_refused : (line : ℕ) (l : List ℕ) (f : Fault) → line_fault l ≡ Some f → Err f ≡ read_line line l
unfolding line_fault read_line
read_refused line l f e =
    sym (answered_fault (line_refusal l) (line_place l) (meant line (bytes_of l) (eqb (line_kind (bytes_of l)) 0)) f e)

pub read_wrong : (line k : ℕ) (l : List ℕ) → line_refusal l ≡ suc k → Err (fault (suc k) (line_place l)) ≡ read_line line l
unfolding read_line
read_wrong line k l p = rw p refl

pub read_none : (l : List ℕ) → line_fault l ≡ None → line_refusal l ≡ 0
unfolding line_fault
read_none l e = fault_none (line_refusal l) (line_place l) e

pub read_begin : (line : ℕ) (l : List ℕ) → line_refusal l ≡ 0 → line_kind (bytes_of l) ≡ 0
    → Ok (Begin (get_or (line_fields (bytes_of l)) 0 0)) ≡ read_line line l
unfolding read_line
read_begin line l p q = cc (eq-eqb (line_kind (bytes_of l)) 0 q)

pub read_act : (line : ℕ) (l : List ℕ) → line_refusal l ≡ 0 → (line_kind (bytes_of l) ≡ 0 → ⊥)
    → Ok (Act (record { line = line; action = action_of (line_kind (bytes_of l)) (line_fields (bytes_of l)) })) ≡ read_line line l
unfolding read_line
read_act line l p q = cc (ne_eqb (line_kind (bytes_of l)) 0 q)

-- two digits a byte, written
pub spelled-append : (xs ys : List ℕ) → spelled (xs ++ ys) ≡ spelled xs ++ spelled ys
unfolding spelled
spelled-append [] ys = refl
spelled-append (x ∷ xs) ys = cc (spelled-append xs ys)

pub length-spelled : (bs : List ℕ) → length (spelled bs) ≡ 2 * length bs
unfolding spelled
length-spelled [] = refl
length-spelled (b ∷ bs) = omega (arith, length-spelled bs)

pub length-high_first : (k v : ℕ) → length (high_first k v) ≡ k
unfolding high_first
length-high_first zero v = refl
length-high_first (suc k) v = omega (arith, length-append (high_first k (v / 256)) (v % 256 ∷ []), length-high_first k (v / 256))

pub bytes_high_first : (k v : ℕ) → Bytes (high_first k v)
unfolding high_first
bytes_high_first zero v = tt
bytes_high_first (suc k) v = bytes_append (high_first k (v / 256)) (v % 256 ∷ []) (bytes_high_first k (v / 256)) (omega arith, tt)

-- what a writer answers and leaves
pub framed_right : (out : List ℕ) (x : Action) → writer_refusal out x ≡ 0 →
    (Ok (length (frame x)) ≡ frame_reply out x) × (place 0 (frame x) out ≡ frame_after out x)
unfolding frame_reply frame_after
framed_right out x p = (rw p refl, rw p refl)

pub framed_wrong : (out : List ℕ) (x : Action) (r : Refusal) → writer_refusal out x ≡ number_of r → (Err r ≡ frame_reply out x) × (out ≡ frame_after out x)
unfolding frame_reply frame_after
framed_wrong out x r p =
    (sym (answered_name r (writer_refusal out x) (length (frame x)) p), sym (unless_name r (writer_refusal out x) (place 0 (frame x) out) out p))

pub framed_none : (out : List ℕ) (x : Action) (k : ℕ) → writer_refusal out x ≡ suc k → Err (refusal_of (suc k)) ≡ frame_reply out x
unfolding frame_reply
framed_none out x k p = rw p refl

pub started_none : (out : List ℕ) (n k : ℕ) → starter_refusal out n ≡ suc k → Err (refusal_of (suc k)) ≡ start_reply out n
unfolding start_reply
started_none out n k p = rw p refl

pub started_right : (out : List ℕ) (n : ℕ) → starter_refusal out n ≡ 0 →
    (Ok (length (start_frame n)) ≡ start_reply out n) × (place 0 (start_frame n) out ≡ start_after out n)
unfolding start_reply start_after
started_right out n p = (rw p refl, rw p refl)

pub started_wrong : (out : List ℕ) (n : ℕ) (r : Refusal) → starter_refusal out n ≡ number_of r → (Err r ≡ start_reply out n) × (out ≡ start_after out n)
unfolding start_reply start_after
started_wrong out n r p = (
  sym (answered_name r (starter_refusal out n) (length (start_frame n)) p),
  sym (unless_name r (starter_refusal out n) (place 0 (start_frame n) out) out p),
)

-- the length of each frame, LF included
pub length_write : (p t b v : ℕ) → length (frame (Write p t b v)) ≡ 25
unfolding frame frame_in sealed widths_in journal_kinds packed high_first spelled
length_write p t b v = refl

pub length_session : (a b ca cb o : ℕ) → length (frame (Session a b ca cb o)) ≡ 27
unfolding frame frame_in sealed widths_in journal_kinds packed high_first spelled
length_session a b ca cb o = refl

pub length_purge : (p : ℕ) → length (frame (Purge p)) ≡ 7
unfolding frame frame_in sealed widths_in journal_kinds packed high_first spelled
length_purge p = refl

pub length_deliver : (p : ℕ) → length (frame (Deliver p)) ≡ 7
unfolding frame frame_in sealed widths_in journal_kinds packed high_first spelled
length_deliver p = refl

pub length_start : (n : ℕ) → length (start_frame n) ≡ 7
unfolding start_frame frame_in sealed widths_in journal_kinds packed high_first spelled
length_start n = refl

-- the writers' refusals: "refuses with 2 as above, then with 17 if the lent bytes are too few"
module _ (out : List ℕ) (x : Action) where
  pub writer_outcome : outcome_above x ≡ true → writer_refusal out x ≡ 2
  unfolding writer_refusal writer_tests
  writer_outcome p = first-given 2 (outcome_above x) _ p

  module _ (p : outcome_above x ≡ false) where
    writer_next : writer_refusal out x ≡ first (test 17 (ltb (length out) (length (frame x))) ∷ [])
    unfolding writer_refusal writer_tests
    writer_next = first_passed 2 (outcome_above x) _ p

    pub writer_few : length out < length (frame x) → writer_refusal out x ≡ 17
    writer_few h = writer_next ∙ first-given 17 (ltb (length out) (length (frame x))) [] (lt-ltb (length out) (length (frame x)) h)

    pub writer_none : length (frame x) ≤ length out → writer_refusal out x ≡ 0
    unfolding first
    writer_none h = writer_next ∙ first_passed 17 (ltb (length out) (length (frame x))) [] (le-ltb (length out) (length (frame x)) h)

module _ (out : List ℕ) (n : ℕ) where
  pub starter_count : count_right n ≡ false → starter_refusal out n ≡ 15
  unfolding starter_refusal starter_tests
  starter_count p = first-given 15 (not (count_right n)) _ (ap not p)

  module _ (p : count_right n ≡ true) where
    starter_next : starter_refusal out n ≡ first (test 17 (ltb (length out) (length (start_frame n))) ∷ [])
    unfolding starter_refusal starter_tests
    starter_next = first_passed 15 (not (count_right n)) _ (ap not p)

    pub starter_few : length out < length (start_frame n) → starter_refusal out n ≡ 17
    starter_few h = starter_next ∙ first-given 17 (ltb (length out) (length (start_frame n))) [] (lt-ltb (length out) (length (start_frame n)) h)

    pub starter_none : length (start_frame n) ≤ length out → starter_refusal out n ≡ 0
    unfolding first
    starter_none h = starter_next ∙ first_passed 17 (ltb (length out) (length (start_frame n))) [] (le-ltb (length out) (length (start_frame n)) h)

-- so a step that is written has an outcome within 3, and a start 2 to 16 nodes
pub written_within : (out : List ℕ) (x : Action) → writer_refusal out x ≡ 0 → outcome_above x ≡ false
unfolding writer_refusal writer_tests numbered
written_within out x p = (passed 2 0 (outcome_above x) _ (none_first (writer_tests out x) refl p)).0

pub started_within : (out : List ℕ) (n : ℕ) → starter_refusal out n ≡ 0 → count_right n ≡ true
unfolding starter_refusal starter_tests numbered
started_within out n p = not-false (count_right n) (passed 15 0 (not (count_right n)) _ (none_first (starter_tests out n) refl p)).0

-- a count of 2 to 16
pub count_right_lem : (n : ℕ) → 2 ≤ n → n ≤ 16 → count_right n ≡ true
count_right_lem n p q = cc (le-leb 2 n p, le-leb n 16 q)

pub count_wrong : (n : ℕ) → (2 ≤ n → n ≤ 16 → ⊥) → count_right n ≡ false
count_wrong n p = go (leb 2 n) (leb n 16) refl refl
  where
    go : (a b : Bool) → leb 2 n ≡ a → leb n 16 ≡ b → a && b ≡ false
    go true true x y = absurd (p (leb-true 2 n x) (leb-true n 16 y))
    go true false x y = refl
    go false b x y = refl

-- a step's frame in too few bytes, and in enough
pub framed_outcome : (out : List ℕ) (x : Action) → outcome_above x ≡ true → (Err SessionOutcome ≡ frame_reply out x) × (out ≡ frame_after out x)
framed_outcome out x p = framed_wrong out x SessionOutcome (writer_outcome out x p)

pub framed_few : (out : List ℕ) (x : Action) (n : ℕ) → outcome_above x ≡ false → length (frame x) ≡ n → length out < n →
    (Err RoomShort ≡ frame_reply out x) × (out ≡ frame_after out x)
framed_few out x n p e h = framed_wrong out x RoomShort (writer_few out x p (rw e h))

pub framed_full : (out out' : List ℕ) (x : Action) (n : ℕ) → outcome_above x ≡ false → length (frame x) ≡ n → n ≤ length out → out' ≡ place 0 (frame x) out
    → (Ok n ≡ frame_reply out x) × (out' ≡ frame_after out x)
framed_full out out' x n p e h q =
    let right = framed_right out x (writer_none out x p (rw e h)) in
    (ap Ok (sym e) ∙ right.0, q ∙ right.1)

-- the same of a start's
pub started_count : (out : List ℕ) (n : ℕ) → count_right n ≡ false → (Err StartWrong ≡ start_reply out n) × (out ≡ start_after out n)
started_count out n p = started_wrong out n StartWrong (starter_count out n p)

pub started_few : (out : List ℕ) (n : ℕ) → count_right n ≡ true → length out < 7 → (Err RoomShort ≡ start_reply out n) × (out ≡ start_after out n)
started_few out n p h = started_wrong out n RoomShort (starter_few out n p (rw (length_start n) h))

pub started_full : (out out' : List ℕ) (n : ℕ) → count_right n ≡ true → 7 ≤ length out → out' ≡ place 0 (start_frame n) out
    → (Ok 7 ≡ start_reply out n) × (out' ≡ start_after out n)
started_full out out' n p h q =
    let right = started_right out n (starter_none out n p (rw (length_start n) h)) in
    (ap Ok (sym (length_start n)) ∙ right.0, q ∙ right.1)

-- a session's outcome above 3
pub above_three : (a b ca cb o : ℕ) → 3 < o → outcome_above (Session a b ca cb o) ≡ true
unfolding outcome_above
above_three a b ca cb o h = lt-ltb 3 o h

pub within_three : (a b ca cb o : ℕ) → o ≤ 3 → outcome_above (Session a b ca cb o) ≡ false
unfolding outcome_above
within_three a b ca cb o h = le-ltb 3 o h

-- each number of a line's refusals is a name's
pub line_named : (l : List ℕ) → Named (line_refusal l)
unfolding line_refusal line_tests field_tests named refusal_of
line_named l = first_named (line_tests l) refl

-- the values of an answer: the refusal first, then its place, and a frame's length
pub value_refusal : (line : ℕ) (l : List ℕ) → get_or (line_values (read_line line l)) 0 0 ≡ line_refusal l
unfolding read_line
value_refusal line l = go (line_refusal l) (eqb (line_kind (bytes_of l)) 0) (line_named l)
  where
    go : (k : ℕ) (b : Bool) → Named k → get_or (line_values (answered_at k (line_place l) (meant line (bytes_of l) b))) 0 0 ≡ k
    go zero true n = refl
    go zero false n = refl
    go (suc k) b (inl e) = absurd (omega (arith, e))
    go (suc k) b (inr e) = e

pub value_place : (line : ℕ) (l : List ℕ) → get_or (line_values (read_line line l)) 1 0 ≡ line_place l
unfolding read_line
value_place line l = go (line_refusal l) (eqb (line_kind (bytes_of l)) 0) (clear_place l)
  where
    go : (k : ℕ) (b : Bool) → (k ≡ 0 → line_place l ≡ 0) → get_or (line_values (answered_at k (line_place l) (meant line (bytes_of l) b))) 1 0 ≡ line_place l
    go zero true h = sym (h refl)
    go zero false h = sym (h refl)
    go (suc k) b h = refl

pub frame_most : (x : Action) → length (frame x) ≤ 27
frame_most (Write p t b v) = rw (length_write p t b v) (omega arith)
frame_most (Session a b ca cb o) = rw (length_session a b ca cb o) (omega arith)
frame_most (Purge p) = rw (length_purge p) (omega arith)
frame_most (Deliver p) = rw (length_deliver p) (omega arith)

pub value_length : (out : List ℕ) (x : Action) → get_or (framed_values (frame_reply out x)) 1 0 ≤ 27
unfolding frame_reply
value_length out x = go (writer_refusal out x)
  where
    go : (k : ℕ) → get_or (framed_values (answered k (length (frame x)))) 1 0 ≤ 27
    go zero = frame_most x
    go (suc k) = omega arith

pub value_start : (out : List ℕ) (n : ℕ) → get_or (framed_values (start_reply out n)) 1 0 ≤ 27
unfolding start_reply
value_start out n = go (starter_refusal out n)
  where
    go : (k : ℕ) → get_or (framed_values (answered k (length (start_frame n)))) 1 0 ≤ 27
    go zero = rw (length_start n) (omega arith)
    go (suc k) = omega arith

-- a line read in one call: refused, or accepted with too few words, or with enough
module _ (l words : List ℕ) where
  abbrev room : List Test
  room = test 17 (ltb (length words) 6) ∷ []

  refused_some : (line_refusal l ≡ 0 → ⊥) → none (line_tests l) ≡ false
  unfolding line_refusal
  refused_some h = go (none (line_tests l)) refl
    where
      go : (b : Bool) → none (line_tests l) ≡ b → b ≡ false
      go true e = absurd (h (first-none (line_tests l) e))
      go false e = refl

  pub words_refused : (line_refusal l ≡ 0 → ⊥) → (line_fault l ≡ words_fault l words) × (words ≡ words_after l words)
  unfolding line_fault words_fault words_after words_tests line_refusal line_place
  words_refused h =
      let given = given_before (line_tests l) room (refused_some h) in
      (λ i. fault_at (sym given.0 i) (sym given.1 i), go (first (line_tests l ++ room)) (λ z. h (sym given.0 ∙ z)))
    where
      go : (k : ℕ) → (k ≡ 0 → ⊥) → words ≡ unless k (place 0 (six_values l) words) words
      go zero p = absurd (p refl)
      go (suc k) p = refl

  module _ (p : line_refusal l ≡ 0) where
    after_line : Gives (line_tests l ++ room) (first room) (first_place room)
    unfolding line_refusal line_tests field_tests numbered
    after_line = given-after (line_tests l) room (none_first (line_tests l) refl p)

    pub words_few : length words < 6 → (Some (record { refusal = RoomShort; place = 0 }) ≡ words_fault l words) × (words ≡ words_after l words)
    unfolding words_fault words_after words_tests refusal_of
    words_few h =
        let here = given_at 17 0 (ltb (length words) 6) [] (lt-ltb (length words) 6 h) in
        let number = after_line.0 ∙ here.0 in
        let at = after_line.1 ∙ here.1 in
        (λ i. fault_at (sym number i) (sym at i), rw number refl)

    pub words_full : 6 ≤ length words → (None ≡ words_fault l words) × (place 0 (six_values l) words ≡ words_after l words)
    unfolding words_fault words_after words_tests first first_place
    words_full h =
        let here = passed_at 17 0 (ltb (length words) 6) [] (le-ltb (length words) 6 h) in
        let number = after_line.0 ∙ here.0 in
        let at = after_line.1 ∙ here.1 in
        (λ i. fault_at (sym number i) (sym at i), rw number refl)
