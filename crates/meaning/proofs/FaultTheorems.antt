-- The place of a refused line: at most the line's length; and 12 is given exactly where a character is no digit, at the first that is none.
-- Document 02, T-01: "each line refusal gives the place in the line, from 0, of the first character at fault (the line's length where something is
-- lacking".
use mathlib.Core.Path.{◌≡◌, refl, sym, ◌∙◌, ap}
use mathlib.Core.Bool.{Bool, true, false, not, cond, true≢false}
use mathlib.Core.List.{List}
use Prim.Native.Nat.{ℕ, ◌%◌, ◌≤◌, ◌<◌}
use native.Mathlib.Omega.{arith}
use lib.ListN.{length, get_or, take, drop}
use lib.Dec.{leb, ltb, eqb}
use borrow.Author.Tests.{eqb-true, eqb-false}
use Rattle.std.specs.Prelude.{Ok, Err, None}
use Rattle.meaning.specs.declared.Fault.{Fault}
use Rattle.meaning.specs.declared.Said.TheVariants.{Begin, Act}
use Rattle.meaning.specs.Refusals.{fault, Test, first, first_place}
use Rattle.meaning.specs.Frames.{
  digit_value,
  bytes_of,
  all_digits,
  stray_at,
  total,
  journal_kinds,
  known,
  widths_in,
  digits_in,
  digits_of,
  line_kind,
  line_fields,
  outcome_high,
  start_wrong,
  field_tests,
  line_tests,
  line_refusal,
  line_place,
  Line,
  read_line,
  line_values,
}
use Rattle.meaning.specs.Journals.{Next, has_lf, unended, line_at, place_after, in_turn, next_in, next_values}
use Rattle.meaning.proofs.RowLaws.{and_left}
use Rattle.meaning.proofs.AccountLaws.{by_test}
use Rattle.meaning.proofs.RefusalLaws.{listed, passed_at, first_listed}
use Rattle.meaning.proofs.FrameLaws.{
  stray_within,
  stray_before,
  stray_there,
  refused_stray,
  refused_odd,
  refused_none,
  refused_unknown,
  refused_length,
  refusal_whole,
  given_outcome,
  given-sum,
  given_start,
  given-none,
  value_place,
}
use Rattle.meaning.proofs.JournalLaws.{line_ended, line_none, until_short}

-- a session's outcome byte stands within its line
session_long : (l : List ℕ) → length l ≡ digits_of (line_kind (bytes_of l)) → outcome_high (bytes_of l) ≡ true → length l ≡ 26
unfolding digits_in widths_in journal_kinds
session_long l long h =
    let session = and_left (eqb (line_kind (bytes_of l)) 2) (ltb 3 (get_or (line_fields (bytes_of l)) 4 0)) h in
    long ∙ ap digits_of (eqb-true (line_kind (bytes_of l)) 2 session)

-- The place is at most the line's length, whatever the line; where there is no refusal it is 0.
module _ (l : List ℕ) where
  fields_within : length l ≡ digits_of (line_kind (bytes_of l)) → first_place (field_tests l) ≤ length l
  fields_within long =
      by_test (outcome_high (bytes_of l))
      (λ h. omega (arith, (given_outcome l h).1, session_long l long h))
      (λ h. by_test (eqb (total (bytes_of l)) 0)
      (λ z. let none = eqb-true (total (bytes_of l)) 0 z in
      by_test (start_wrong (bytes_of l)) (λ w. omega (arith, (given_start l h none w).1)) (λ w. omega (arith, (given-none l h none w).1)))
      (λ z. omega (arith, (given-sum l h (eqb-false (total (bytes_of l)) 0 z)).1)))

  kind_within : all_digits l ≡ true → length l % 2 ≡ 0 → 0 < length l → line_place l ≤ length l
  kind_within d even some =
      by_test (known (line_kind (bytes_of l)))
      (λ k. by_test (eqb (length l) (digits_of (line_kind (bytes_of l))))
      (λ e. let long = eqb-true (length l) (digits_of (line_kind (bytes_of l))) e in
      omega (arith, (refusal_whole l d k long).1, fields_within long))
      (λ e. omega (arith, (refused_length l d even some k (eqb-false (length l) (digits_of (line_kind (bytes_of l))) e)).1)))
      (λ k. omega (arith, (refused_unknown l d even some k).1))

  pub place_within : line_place l ≤ length l
  place_within =
      by_test (all_digits l)
      (λ d. by_test (eqb (length l % 2) 1)
      (λ odd. omega (arith, (refused_odd l d (eqb-true (length l % 2) 1 odd)).1))
      (λ even. by_test (eqb (length l) 0)
      (λ none. omega (arith, (refused_none l d (eqb-true (length l) 0 none)).1))
      (λ some. kind_within d (omega (arith, eqb-false (length l % 2) 1 even)) (omega (arith, eqb-false (length l) 0 some)))))
      (λ d. omega (arith, (refused_stray l d).1, stray_within l d))

  -- 12 is given exactly where a character is no digit
  pub stray_given : all_digits l ≡ false → line_refusal l ≡ 12
  stray_given d = (refused_stray l d).0

  later : List Test
  later = drop 1 (line_tests l)

  to_later : all_digits l ≡ true → line_refusal l ≡ first later
  unfolding later line_refusal line_tests
  to_later d = (passed_at 12 (stray_at l) (not (all_digits l)) _ (ap not d)).0

  no_later : listed 12 later ≡ false
  unfolding later line_tests field_tests listed
  no_later = refl

  pub given_stray : line_refusal l ≡ 12 → all_digits l ≡ false
  given_stray e =
      by_test (all_digits l)
      (λ d. let is : first later ≡ 12 = sym (to_later d) ∙ e in absurd (true≢false (sym (rw is at (first_listed later)) ∙ no_later)))
      (λ d. d)

-- Its place: a character of the line, those before it are digits and it is none.
pub record FirstStray (l : List ℕ) (p : ℕ) : Type 0 where
  pub within : p < length l
  pub before : all_digits (take p l) ≡ true
  pub there : 16 ≤ digit_value (get_or l p 0)

pub stray_place : (l : List ℕ) → line_refusal l ≡ 12 → FirstStray l (line_place l)
stray_place l e =
    let d = given_stray l e in
    let at = (refused_stray l d).1 in
    record { within = rw at (stray_within l d); before = rw at (stray_before l); there = rw at (stray_there l d) }

-- In a journal: what is left from the line's start is at least the place, at 14 exactly that.
turn_place : (first : Bool) (next : ℕ) (x : Line) → get_or (next_values (in_turn first next x)) 1 0 ≤ get_or (line_values x) 1 0
turn_place true next (Ok (Begin n)) = omega arith
turn_place true next (Ok (Act s)) = omega arith
turn_place true next (Err f) = omega arith
turn_place false next (Ok (Begin n)) = omega arith
turn_place false next (Ok (Act s)) = omega arith
turn_place false next (Err f) = omega arith

line_left : (s : List ℕ) (at : ℕ) → length (line_at s at) ≤ length (drop at s)
line_left s at =
    by_test (has_lf (drop at s))
    (λ e. omega (arith, ap length (line_ended s at e), until_short (drop at s) e))
    (λ e. omega (arith, ap length (line_none s at e)))

next_place : (first : Bool) (s : List ℕ) (at line : ℕ) → get_or (next_values (next_in first s at line)) 1 0 ≤ length (drop at s)
unfolding next_in
next_place first s at line = go (leb (length s) at) (unended s at)
  where
    go : (a b : Bool) →
        get_or
        (next_values
        (cond a (Ok None) (cond b (Err (fault 14 (length (drop at s)))) (in_turn first (place_after s at) (read_line line (line_at s at))))))
        1 0
        ≤ length (drop at s)
    go true b = omega arith
    go false true = omega arith
    go false false =
        omega (
          arith,
          turn_place first (place_after s at) (read_line line (line_at s at)),
          value_place line (line_at s at),
          place_within (line_at s at),
          line_left s at,
        )

pub next_within : (first : Bool) (s : List ℕ) (at line : ℕ) (f : Fault) → next_in first s at line ≡ Err f → f.place ≤ length (drop at s)
next_within first s at line f e =
    let place : get_or (next_values (next_in first s at line)) 1 0 ≡ f.place = ap (λ (x : Next). get_or (next_values x) 1 0) e in
    omega (arith, next_place first s at line)
