-- Laws of a line's refusal and its place: the digits that its kind has, and each clause in its order.
use mathlib.Core.Path.{◌≡◌, refl, sym, ◌∙◌, ap}
use mathlib.Core.Bool.{Bool, true, false, not, cond}
use mathlib.Core.List.{List, [], ◌∷◌}
use Prim.Native.Nat.{ℕ, ◌-◌, ◌%◌, ◌<◌, min}
use native.Mathlib.Omega.{arith}
use lib.ListN.{length}
use lib.Dec.{eqb}
use Rattle.meaning.specs.Refusals.{test_at, fault_at}
use Rattle.meaning.specs.Frames.{
  bytes_of,
  all_digits,
  stray_at,
  total,
  journal_kinds,
  known,
  widths_in,
  digits_in,
  digits_of,
  line_kind,
  outcome_high,
  start_wrong,
  field_tests,
  fault_of,
  line_fault,
}
use Rattle.meaning.proofs.FrameLaws.{refused_unknown, refused_length, refused_stray, refused_odd, refused_none, refusal_whole, outcome_place, fault_is}
use Rattle.digits.specs.Digits.{sum_of, stray_of}
use Rattle.numbers.specs.Numbers.{field_at, Within}
use Rattle.digits.proofs.DigitLaws.{sum_right, stray_found}
use Rattle.heads.specs.Heads.{Whole}
use Rattle.heads.proofs.FieldLaws.{kind_field, whole_at}
use Rattle.std.specs.Prelude.{Option, Some, None}
use Rattle.std.specs.Option.{option_eq}
use Rattle.meaning.specs.declared.Refusal.TheVariants.{KindUnknown, LengthWrong, DigitStray, DigitsOdd}
use Rattle.heads.specs.declared.kinds.Kind.{Kind}
use Rattle.heads.specs.Kinds.{kind_number}
use Rattle.heads.proofs.KindLaws.{known_kind}

-- the bytes of the two fields that a refusal asks for
pub start_in : {l : List ℕ} {kind : ℕ} → Whole l kind → kind ≡ 0 → Within l 1 1
unfolding digits_in widths_in journal_kinds
start_in w e = record { digits = w.digits; room = omega (arith, whole_at 0 w e) }

pub session_in : {l : List ℕ} {kind : ℕ} → Whole l kind → kind ≡ 2 → Within l 11 1
unfolding digits_in widths_in journal_kinds
session_in w e = record { digits = w.digits; room = omega (arith, whole_at 2 w e) }

-- a line of digits that begins with a kind's byte
module _ (l : List ℕ) (kind : Kind) (a : all_digits l ≡ true) (k : kind_number kind ≡ field_at l 0 1) where
  pub is_kind : line_kind (bytes_of l) ≡ kind_number kind
  is_kind = sym (kind_field l) ∙ sym k

  pub whole_of : length l ≡ digits_of (kind_number kind) → Whole l (kind_number kind)
  whole_of e = record { digits = a; is = is_kind; long = e; has_kind = known_kind kind }

  -- the smaller of both lengths
  pub line_length : length l % 2 ≡ 0 → 0 < length l → (length l ≡ digits_of (kind_number kind) → ⊥)
      → Some (record { refusal = LengthWrong; place = min (length l) (digits_of (kind_number kind)) }) ≡ line_fault l
  line_length even some h =
      let digits : digits_of (line_kind (bytes_of l)) ≡ digits_of (kind_number kind) = ap digits_of is_kind in
      let given = refused_length l a even some (rw is_kind (known_kind kind)) (λ f. h (f ∙ digits)) in
      fault_is l LengthWrong (min (length l) (digits_of (kind_number kind))) (given.0, given.1 ∙ ap (min (length l)) digits)

-- and one that begins with no kind's
pub line_unknown : (l : List ℕ) (n : ℕ) → all_digits l ≡ true → length l % 2 ≡ 0 → 0 < length l → n ≡ field_at l 0 1 → known n ≡ false
    → Some (record { refusal = KindUnknown; place = 0 }) ≡ line_fault l
line_unknown l n a even some k u =
    let is : line_kind (bytes_of l) ≡ n = sym (kind_field l) ∙ sym k in
    fault_is l KindUnknown 0 (refused_unknown l a even some (rw is u))

pub line_late : (l : List ℕ) (kind check : ℕ) (above sums wrong : Bool) → Whole l kind → check ≡ length l - 2 → above ≡ outcome_high (bytes_of l)
    → sums ≡ option_eq eqb (sum_of l) (Some 0) → wrong ≡ start_wrong (bytes_of l)
    → fault_of (test_at 20 22 above ∷ test_at 13 check (not sums) ∷ test_at 15 0 wrong ∷ []) ≡ line_fault l
unfolding field_tests line_fault
line_late l kind check above sums wrong w c p q r =
    let zero-sum : sums ≡ eqb (total (bytes_of l)) 0
    = q ∙ ap (λ (o : Option ℕ). option_eq eqb o (Some 0)) (sym (sum_right l (total (bytes_of l)) w.digits refl)) in
    let whole = refusal_whole l w.digits (rw w.is w.has_kind) (w.long ∙ ap digits_of (sym w.is)) in
    rw (p, zero-sum, r, c, ← outcome_place) (λ i. fault_at (sym whole.0 i) (sym whole.1 i))

-- a length that is not odd, and one that is not 0
pub even_of : (n : ℕ) → (n % 2 ≡ 1 → ⊥) → n % 2 ≡ 0
even_of n h = omega arith

pub some_of : (n : ℕ) → (n ≡ 0 → ⊥) → 0 < n
some_of n h = omega arith

-- a place that the pass over a line finds, and none
pub stray_some_of : (l : List ℕ) (i : ℕ) → Some i ≡ stray_of l → Some (record { refusal = DigitStray; place = i }) ≡ line_fault l
stray_some_of l i e = go (all_digits l) refl (e ∙ stray_found l)
  where
    go : (b : Bool) → all_digits l ≡ b → Some i ≡ cond b None (Some (stray_at l)) → Some (record { refusal = DigitStray; place = i }) ≡ line_fault l
    go true p q = cc
    go false p q =
        let here : i ≡ stray_at l = cc in
        let given = refused_stray l p in
        fault_is l DigitStray i (given.0, given.1 ∙ sym here)

pub stray_none_of : (l : List ℕ) → None ≡ stray_of l → all_digits l ≡ true
stray_none_of l e = go (all_digits l) refl (e ∙ stray_found l)
  where
    go : (b : Bool) → all_digits l ≡ b → None ≡ cond b None (Some (stray_at l)) → b ≡ true
    go true p q = refl
    go false p q = cc

-- a line of digits, odd in number or none
pub odd_fault : (l : List ℕ) → all_digits l ≡ true → length l % 2 ≡ 1 → Some (record { refusal = DigitsOdd; place = length l }) ≡ line_fault l
odd_fault l a h = fault_is l DigitsOdd (length l) (refused_odd l a h)

pub none_fault : (l : List ℕ) → all_digits l ≡ true → length l ≡ 0 → Some (record { refusal = DigitsOdd; place = 0 }) ≡ line_fault l
none_fault l a h = let given = refused_none l a h in fault_is l DigitsOdd 0 (given.0, given.1 ∙ h)
