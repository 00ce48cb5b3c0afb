-- Laws of the quick way: a line of 24, 26 or six characters is accepted exactly where its characters are those that the quick way asks for.
use mathlib.Core.Path.{◌≡◌, refl, sym, ◌∙◌, ap}
use mathlib.Core.Bool.{Bool, true, false, not, ◌&&◌, ◌||◌, cond, true≢false}
use mathlib.Core.List.{List, [], ◌∷◌}
use Prim.Native.Nat.{ℕ, ◌+◌, ◌-◌, ◌*◌, ◌%◌, ◌≤◌, ◌<◌}
use native.Mathlib.Omega.{arith}
use lib.Bits.{bit_or, or_lt}
use lib.ListN.{length, get_or, take, drop, length-drop}
use lib.Seq.{take_all}
use lib.Dec.{leb, eqb}
use borrow.Author.Tests.{ltb-false, lt-ltb, le-ltb, le-leb, leb-true, eqb-true, eqb-false, eq-eqb, ne_eqb, not-false}
use Rattle.meaning.specs.Table.{count_right}
use Rattle.meaning.specs.Frames.{
  digit,
  digit_value,
  bytes_of,
  all_digits,
  total,
  journal_kinds,
  known_in,
  known,
  widths_in,
  digits_in,
  digits_of,
  line_kind,
  line_refusal,
  start_wrong,
}
use Rattle.meaning.proofs.RowLaws.{and_left, and_right}
use Rattle.meaning.proofs.FrameLaws.{digit-decimal, length-bytes_of, byte_at, digits_at, digits_cons, total_below, Good, good}
use Rattle.meaning.proofs.FrameInverses.{digit-digit_value}
use Rattle.digits.specs.Digits.{sum_of}
use Rattle.heads.specs.Heads.{is_check}
use Rattle.numbers.specs.Numbers.{field_at}
use Rattle.meaning.proofs.BitLaws.{or_left, or_right}
use Rattle.numbers.proofs.NumberLaws.{byte_field}
use Rattle.digits.proofs.DigitLaws.{sum_right, sum_digits}
use Rattle.heads.proofs.CheckLaws.{check_digits, check_right}
use Rattle.std.specs.Prelude.{Option, Some, None, is_some}
use Rattle.heads.specs.declared.Short.{Short}
use Rattle.heads.specs.Heads.{accepted, held, short_of, may_hold, is_outcome}
use Rattle.heads.proofs.FieldLaws.{kind_lengths, start_test, start_other, outcome_test, outcome_other}
use Rattle.heads.proofs.HeadLaws.{accepted_good, accepted_is, accepted_not, six}

-- what a line holds as one number
abbrev pub packed : Option Short → ℕ
packed None = 65536
packed (Some x) = 256 * x.kind + x.field

-- a decimal digit's character
pub char_of : (c v : ℕ) → digit_value c ≡ v → v ≤ 9 → c ≡ 48 + v
unfolding digit
char_of c v e h =
    let made : digit v ≡ 48 + v = cc (lt-ltb v 10 (omega arith)) in
    sym (digit-digit_value c (omega arith)) ∙ ap digit e ∙ made

pub value_char : (c v : ℕ) → c ≡ 48 + v → v ≤ 9 → digit_value c ≡ v
value_char c v e h = omega (arith, digit-decimal c (omega arith) (omega arith))

-- the kind's two characters
module _ (l : List ℕ) (two : 2 ≤ length l) where
  first_is : line_kind (bytes_of l) ≡ 16 * digit_value (get_or l 0 0) + digit_value (get_or l 1 0)
  unfolding line_kind
  first_is = byte_at l 0 (omega (arith, length-bytes_of l))

  pub kind_chars : (k : ℕ) → k ≤ 9 → get_or l 0 0 ≡ 48 → get_or l 1 0 ≡ 48 + k → line_kind (bytes_of l) ≡ k
  kind_chars k h p q = omega (arith, first_is, value_char (get_or l 0 0) 0 p (omega arith), value_char (get_or l 1 0) k q h)

  pub chars_kind : (k : ℕ) → k ≤ 9 → line_kind (bytes_of l) ≡ k → (get_or l 0 0 ≡ 48) × (get_or l 1 0 ≡ 48 + k)
  chars_kind k h e =
      let high : digit_value (get_or l 0 0) ≡ 0 = omega (arith, first_is) in
      let low : digit_value (get_or l 1 0) ≡ k = omega (arith, first_is) in
      (char_of (get_or l 0 0) 0 high (omega arith), char_of (get_or l 1 0) k low h)

-- a line by its first byte and the characters after it
pub total-after : (l : List ℕ) → 2 ≤ length l → total (bytes_of l) ≡ (line_kind (bytes_of l) + total (bytes_of (drop 2 l))) % 256
unfolding bytes_of total line_kind
total-after [] h = absurd (omega arith)
total-after (a ∷ []) h = absurd (omega arith)
total-after (a ∷ (b ∷ cs)) h = refl

pub digits_before : (l : List ℕ) → 2 ≤ length l → digit_value (get_or l 0 0) < 16 → digit_value (get_or l 1 0) < 16 → all_digits (drop 2 l) ≡ true
    → all_digits l ≡ true
unfolding all_digits
digits_before [] h p q r = absurd (omega arith)
digits_before (a ∷ []) h p q r = absurd (omega arith)
digits_before (a ∷ (b ∷ cs)) h p q r = cc (lt-ltb (digit_value a) 16 p, lt-ltb (digit_value b) 16 q, r)

pub digits_after : (l : List ℕ) → all_digits l ≡ true → all_digits (drop 2 l) ≡ true
unfolding all_digits
digits_after [] p = refl
digits_after (a ∷ []) p = refl
digits_after (a ∷ (b ∷ cs)) p = (digits_cons b cs (digits_cons a (b ∷ cs) p).1).1

-- an accepted line's kind by its length
module _ (l : List ℕ) (g : Good l) where
  pub kind_24 : length l ≡ 24 → line_kind (bytes_of l) ≡ 1
  kind_24 long =
      kind_lengths (λ (k n : ℕ). length l ≡ n → k ≡ 1) (λ e. absurd (omega arith)) (λ e. refl) (λ e. absurd (omega arith)) (λ e. absurd (omega arith))
      (λ e. absurd (omega arith)) (line_kind (bytes_of l)) g.has_kind g.long

  pub kind_26 : length l ≡ 26 → line_kind (bytes_of l) ≡ 2
  kind_26 long =
      kind_lengths (λ (k n : ℕ). length l ≡ n → k ≡ 2) (λ e. absurd (omega arith)) (λ e. absurd (omega arith)) (λ e. refl) (λ e. absurd (omega arith))
      (λ e. absurd (omega arith)) (line_kind (bytes_of l)) g.has_kind g.long

  pub no_length : (length l ≡ 6 → ⊥) → (length l ≡ 24 → ⊥) → (length l ≡ 26 → ⊥) → ⊥
  no_length p q r = kind_lengths (λ (k n : ℕ). length l ≡ n → ⊥) p q r p p (line_kind (bytes_of l)) g.has_kind g.long

-- a line of 24 characters: the kind's two, and the sum
module _ (l : List ℕ) (long : length l ≡ 24) where
  pub write_is : get_or l 0 0 ≡ 48 → get_or l 1 0 ≡ 49 → line_kind (bytes_of l) ≡ 1
  write_is p q = kind_chars l (omega arith) 1 (omega arith) p q

  pub write_good : get_or l 0 0 ≡ 48 → get_or l 1 0 ≡ 49 → Some 0 ≡ sum_of l → Good l
  unfolding known_in digits_in widths_in journal_kinds
  write_good p q e =
      let is = write_is p q in
      let sums = sum_digits l 0 e in
      record {
        digits = sums.0;
        has_kind = ap known is;
        long = long ∙ sym (ap digits_of is);
        outcome = outcome_other l 1 is (omega arith);
        sum = sums.1;
        start = start_other l 1 is (omega arith);
      }

  pub good_write : Good l → (get_or l 0 0 ≡ 48) × (get_or l 1 0 ≡ 49) × (Some 0 ≡ sum_of l)
  good_write g =
      let chars = chars_kind l (omega arith) 1 (omega arith) (kind_24 l g long) in
      (chars.0, chars.1, sum_right l 0 g.digits (sym g.sum))

-- an outcome's two characters
pub outcome_right : (high low : ℕ) → is_outcome high low ≡ true → 16 * digit_value high + digit_value low ≤ 3
unfolding is_outcome
outcome_right high low h =
    let e = eqb-true high 48 (and_left (eqb high 48) _ h) in
    let both = and_right (eqb high 48) _ h in
    let p = leb-true 48 low (and_left (leb 48 low) _ both) in
    let q = leb-true low 51 (and_right (leb 48 low) _ both) in
    omega (arith, value_char high 0 e (omega arith), digit-decimal low p (omega arith))

pub outcome_chars : (high low : ℕ) → 16 * digit_value high + digit_value low ≤ 3 → is_outcome high low ≡ true
unfolding is_outcome
outcome_chars high low h =
    let zeroth : digit_value high ≡ 0 = omega arith in
    let e : high ≡ 48 = char_of high 0 zeroth (omega arith) in
    let f = char_of low (digit_value low) refl (omega arith) in
    cc (eq-eqb high 48 e, le-leb 48 low (omega arith), le-leb low 51 (omega arith))

-- a line of 26 characters: the kind's two, the outcome's two, and the sum of the other 24
module _ (l : List ℕ) (long : length l ≡ 26) where
  pub session_is : get_or l 0 0 ≡ 48 → get_or l 1 0 ≡ 50 → line_kind (bytes_of l) ≡ 2
  session_is p q = kind_chars l (omega arith) 2 (omega arith) p q

  pub outcome_is : 16 * digit_value (get_or l 22 0) + digit_value (get_or l 23 0) ≡ field_at l 11 1
  outcome_is = byte_field l 11 (omega arith)

  pub session_good : get_or l 0 0 ≡ 48 → get_or l 1 0 ≡ 50 → field_at l 11 1 ≤ 3 → Some 254 ≡ sum_of (drop 2 l) → Good l
  unfolding known_in digits_in widths_in journal_kinds
  session_good p q o e =
      let is = session_is p q in
      let sums = sum_digits (drop 2 l) 254 e in
      let high = value_char (get_or l 0 0) 0 p (omega arith) in
      let low = value_char (get_or l 1 0) 2 q (omega arith) in
      record {
        digits = digits_before l (omega arith) (omega arith) (omega arith) sums.0;
        has_kind = ap known is;
        long = long ∙ sym (ap digits_of is);
        outcome = outcome_test l 2 is refl ∙ le-ltb 3 (field_at l 11 1) o;
        sum = omega (arith, total-after l (omega arith), sums.1, is);
        start = start_other l 2 is (omega arith);
      }

  pub good_session : Good l → (get_or l 0 0 ≡ 48) × (get_or l 1 0 ≡ 50) × (field_at l 11 1 ≤ 3) × (Some 254 ≡ sum_of (drop 2 l))
  good_session g =
      let is = kind_26 l g long in
      let chars = chars_kind l (omega arith) 2 (omega arith) is in
      let zero-sum = g.sum in
      let rest : 254 ≡ total (bytes_of (drop 2 l)) = omega (arith, total-after l (omega arith), total_below (bytes_of (drop 2 l)), is) in (
        chars.0,
        chars.1,
        ltb-false 3 (field_at l 11 1) (sym (outcome_test l 2 is refl) ∙ g.outcome),
        sum_right (drop 2 l) 254 (digits_after l g.digits) rest,
      )

-- an accepted line shorter than a write's has six characters
module _ (l : List ℕ) (g : Good l) where
  pub short_six : length l < 24 → length l ≡ 6
  short_six small =
      kind_lengths (λ (k n : ℕ). length l ≡ n → length l ≡ 6) (λ e. e) (λ e. absurd (omega arith)) (λ e. absurd (omega arith)) (λ e. e) (λ e. e)
      (line_kind (bytes_of l)) g.has_kind g.long

  pub field_small : length l ≡ 6 → field_at l 1 1 < 256
  field_small six_long =
      omega (arith, byte_field l 1 (omega arith), digits_at l 2 g.digits (omega arith), digits_at l 3 g.digits (omega arith))

-- what a line of six characters holds
module _ (l : List ℕ) where
  pub short_none : (Good l → ⊥) → None ≡ short_of l
  unfolding short_of
  short_none h = cc (accepted_not l h)

  pub short_some : Good l → Some (held l) ≡ short_of l
  unfolding short_of
  short_some g = cc (accepted_is l g)

  pub short_tells : (x : Short) → Some x ≡ short_of l → Good l × (x ≡ held l)
  unfolding short_of
  short_tells x e = go (accepted l) refl e
    where
      go : (b : Bool) → accepted l ≡ b → Some x ≡ cond b (Some (held l)) None → Good l × (x ≡ held l)
      go true p q = (accepted_good l p, cc)
      go false p q = cc

  pub short_sure : is_some (short_of l) ≡ accepted l
  unfolding short_of
  short_sure = go (accepted l)
    where
      go : (b : Bool) → is_some (cond b (Some (held l)) None) ≡ b
      go true = refl
      go false = refl

  pub short_refused : None ≡ short_of l → Good l → ⊥
  short_refused e g = true≢false (sym (accepted_is l g) ∙ sym short_sure ∙ ap is_some (sym e))

  -- the same as one number: 256 times the kind and the field, above any such number for none
  pub short_number : packed (short_of l) ≡ cond (accepted l) (256 * line_kind (bytes_of l) + field_at l 1 1) 65536
  unfolding short_of
  short_number = go (accepted l)
    where
      go : (b : Bool) → packed (cond b (Some (held l)) None) ≡ cond b (256 * line_kind (bytes_of l) + field_at l 1 1) 65536
      go true = refl
      go false = refl

-- a line of six characters: the kind's two, the field's two, and the check byte's as they must be
module _ (a b c d e f : ℕ) where
  line : List ℕ
  line = six a b c d e f

  n : ℕ
  n = 16 * digit_value c + digit_value d

  long : length line ≡ 6
  unfolding line
  long = refl

  field_is : field_at line 1 1 ≡ n
  unfolding line n
  field_is = sym (byte_field (six a b c d e f) 1 (omega arith))

  total_is : total (bytes_of line) ≡ (16 * digit_value a + digit_value b + n + (16 * digit_value e + digit_value f)) % 256
  unfolding line n total bytes_of
  total_is = omega arith

  kind_of_six : line_kind (bytes_of line) ≡ 16 * digit_value a + digit_value b
  unfolding line bytes_of line_kind
  kind_of_six = refl

  chars_of_six : (k : ℕ) → k ≤ 9 → line_kind (bytes_of line) ≡ k → (a ≡ 48) × (b ≡ 48 + k)
  unfolding line
  chars_of_six k h is = chars_kind (six a b c d e f) (omega arith) k h is

  -- what acceptance tells of the characters
  abbrev pub Asked : Type 0
  Asked =
      (a ≡ 48) × (digit_value c < 16) × (digit_value d < 16) × (may_hold b (16 * digit_value c + digit_value d) ≡ true)
      × (is_check ((b - 48) + (16 * digit_value c + digit_value d)) e f ≡ true)

  held_of : Good line → (k : ℕ) → line_kind (bytes_of line) ≡ k → known k ≡ true → 6 ≡ digits_of k
      → (a ≡ 48) × (may_hold b n ≡ true) × (b - 48 ≡ 16 * digit_value a + digit_value b)
  unfolding may_hold
  held_of g k is has six_long =
      kind_lengths
      (λ (m size : ℕ). line_kind (bytes_of line) ≡ m → 6 ≡ size → (a ≡ 48) × (may_hold b n ≡ true) × (b - 48 ≡ 16 * digit_value a + digit_value b))
      (λ z w.
      let chars = chars_of_six 0 (omega arith) z in
      let wrong : not (count_right n) ≡ false = ap (λ (m : ℕ). not (count_right m)) (sym field_is) ∙ sym (start_test line 0 z refl) ∙ g.start in
      let no_purge = ne_eqb b 51 (omega (arith, chars.1)) in
      let no_delivery = ne_eqb b 53 (omega (arith, chars.1)) in
      (chars.0, cc (not-false (count_right n) wrong, no_purge, no_delivery, eq-eqb b 48 chars.1), omega (arith, chars.1, kind_of_six)))
      (λ z w. absurd (omega arith))
      (λ z w. absurd (omega arith))
      (λ z w.
      let chars = chars_of_six 3 (omega arith) z in
      (chars.0, cc (eq-eqb b 51 chars.1), omega (arith, chars.1, kind_of_six)))
      (λ z w.
      let chars = chars_of_six 5 (omega arith) z in
      (chars.0, cc (ne_eqb b 51 (omega (arith, chars.1)), eq-eqb b 53 chars.1), omega (arith, chars.1, kind_of_six)))
      k has is six_long

  digit_of_six : Good line → (i : ℕ) → i < 6 → digit_value (get_or (six a b c d e f) i 0) < 16
  unfolding line
  digit_of_six g i h = digits_at (six a b c d e f) i g.digits h

  pub good_six : Good (six a b c d e f) → Asked
  unfolding line n
  good_six g =
      let held = held_of g (line_kind (bytes_of line)) refl g.has_kind (sym long ∙ g.long) in
      let dc = digit_of_six g 2 (omega arith) in
      let dd = digit_of_six g 3 (omega arith) in
      let de = digit_of_six g 4 (omega arith) in
      let df = digit_of_six g 5 (omega arith) in
      let zero-sum = g.sum in
      let kind_is = held.2 in
      let sum = (b - 48) + (16 * digit_value c + digit_value d) in
      let zeroes : (sum + (16 * digit_value e + digit_value f)) % 256 ≡ 0 = omega (arith, total_is, zero-sum, kind_is) in
      (held.0, dc, dd, held.1, check_right sum e f de df zeroes)

  digits_six : digit_value a < 16 → digit_value b < 16 → digit_value c < 16 → digit_value d < 16 → digit_value e < 16 → digit_value f < 16 →
      all_digits line ≡ true
  unfolding line all_digits
  digits_six p q r s t u =
      cc (
        lt-ltb (digit_value a) 16 p,
        lt-ltb (digit_value b) 16 q,
        lt-ltb (digit_value c) 16 r,
        lt-ltb (digit_value d) 16 s,
        lt-ltb (digit_value e) 16 t,
        lt-ltb (digit_value f) 16 u,
      )

  -- the kind is 0, 3 or 5 by its character, and a start's n is right
  held_cases : may_hold b n ≡ true
      → ((k : ℕ) → b ≡ 48 + k → k ≤ 9 → known k ≡ true → 6 ≡ digits_of k → (k ≡ 2 → ⊥) → (k ≡ 0 → count_right n ≡ true) → Good line) → Good line
  unfolding may_hold known_in digits_in widths_in journal_kinds
  held_cases h made = go (eqb b 51) (eqb b 53) refl refl h
    where
      go : (t u : Bool) → eqb b 51 ≡ t → eqb b 53 ≡ u → t || (u || (eqb b 48 && count_right n)) ≡ true → Good line
      go true u x x' y = made 3 (eqb-true b 51 x) (omega arith) refl refl (omega arith) (λ z. absurd (omega arith))
      go false true x x' y = made 5 (eqb-true b 53 x') (omega arith) refl refl (omega arith) (λ z. absurd (omega arith))
      go false false x x' y = made 0 (eqb-true b 48 (and_left (eqb b 48) (count_right n) y)) (omega arith) refl refl (omega arith)
          (λ z. and_right (eqb b 48) (count_right n) y)

  pub six_good : Asked → Good (six a b c d e f)
  unfolding line n
  six_good p = held_cases p.3 made
    where
      made : (k : ℕ) → b ≡ 48 + k → k ≤ 9 → known k ≡ true → 6 ≡ digits_of k → (k ≡ 2 → ⊥) → (k ≡ 0 → count_right n ≡ true) → Good line
      made k is small has due two count =
          let da = value_char a 0 p.0 (omega arith) in
          let db = value_char b k is small in
          let kind_is : line_kind (bytes_of line) ≡ k = omega (arith, kind_of_six, da, db) in
          let check = check_digits ((b - 48) + n) e f p.4 in
          let same : b - 48 ≡ 16 * digit_value a + digit_value b = omega (arith, da, db, is) in
          record {
            digits = digits_six (omega arith) (omega arith) p.1 p.2 check.0 check.1;
            has_kind = ap known kind_is ∙ has;
            long = long ∙ due ∙ sym (ap digits_of kind_is);
            outcome = outcome_other line k kind_is two;
            sum = total_is ∙ ap (λ (m : ℕ). (m + n + (16 * digit_value e + digit_value f)) % 256) (sym same) ∙ check.2;
            start = start_right k kind_is count (eqb k 0) refl;
          }
        where
          start_right : (k : ℕ) → line_kind (bytes_of line) ≡ k → (k ≡ 0 → count_right n ≡ true) → (t : Bool) → eqb k 0 ≡ t →
              start_wrong (bytes_of line) ≡ false
          start_right k is count true x =
              let z = eqb-true k 0 x in
              start_test line k is z ∙ ap (λ (m : ℕ). not (count_right m)) field_is ∙ ap not (count z)
          start_right k is count false x = start_other line k is (eqb-false k 0 x)

  -- and what it then holds
  pub six_held : Asked → Some (record { kind = b - 48; field = 16 * digit_value c + digit_value d }) ≡ short_of (six a b c d e f)
  unfolding line n
  six_held p =
      let g = six_good p in
      let told = held_of g (line_kind (bytes_of line)) refl g.has_kind (sym long ∙ g.long) in
      let kind_is : b - 48 ≡ line_kind (bytes_of line) = omega (arith, kind_of_six, told.2) in
      ap Some (λ i. record { kind = kind_is i; field = sym field_is i }) ∙ short_some (six a b c d e f) g

-- the tests of a line of six characters, in the order that they are made
pub short_first : (a b c d e f : ℕ) → (a ≡ 48 → ⊥) → None ≡ short_of (six a b c d e f)
short_first a b c d e f h = short_none (six a b c d e f) (λ g. h (good_six a b c d e f g).0)

module _ (a b c d e f h l : ℕ) (p : h ≡ digit_value c) (q : l ≡ digit_value d) where
  pub short_stray : 15 < bit_or h l → None ≡ short_of (six a b c d e f)
  short_stray s =
      short_none (six a b c d e f) (λ g.
      let asked = good_six a b c d e f g in
      let below = or_lt 4 h l (omega (arith, asked.1)) (omega (arith, asked.2)) in
      omega arith)

  sum_is : 16 * h + l ≡ 16 * digit_value c + digit_value d
  sum_is = omega arith

  pub short_unheld : may_hold b (16 * h + l) ≡ false → None ≡ short_of (six a b c d e f)
  short_unheld s = short_none (six a b c d e f) (λ g. true≢false (sym (good_six a b c d e f g).3 ∙ ap (may_hold b) (sym sum_is) ∙ s))

  pub short_unchecked : is_check (b - 48 + (16 * h + l)) e f ≡ false → None ≡ short_of (six a b c d e f)
  short_unchecked s =
      short_none (six a b c d e f) (λ g.
      true≢false (sym (good_six a b c d e f g).4 ∙ ap (λ (n : ℕ). is_check (b - 48 + n) e f) (sym sum_is) ∙ s))

  pub short_right : a ≡ 48 → bit_or h l ≤ 15 → may_hold b (16 * h + l) ≡ true → is_check (b - 48 + (16 * h + l)) e f ≡ true
      → Some (record { kind = b - 48; field = 16 * h + l }) ≡ short_of (six a b c d e f)
  short_right x s t u =
      let high = or_left 16 h l (omega arith) in
      let low = or_right 16 h l (omega arith) in
      let held = ap (may_hold b) (sym sum_is) ∙ t in
      let check = ap (λ (n : ℕ). is_check (b - 48 + n) e f) (sym sum_is) ∙ u in
      ap (λ (n : ℕ). Some (record { kind = b - 48; field = n })) sum_is ∙ six_held a b c d e f (x, omega arith, omega arith, held, check)

-- the characters of a kind that may hold a field
pub hold_char : (k n : ℕ) → may_hold k n ≡ true → (48 ≤ k) × (k ≤ 53)
unfolding may_hold
hold_char k n h = go (eqb k 51) (eqb k 53) refl refl h
  where
    go : (t u : Bool) → eqb k 51 ≡ t → eqb k 53 ≡ u → t || (u || (eqb k 48 && count_right n)) ≡ true → (48 ≤ k) × (k ≤ 53)
    go true u x x' y = let e = eqb-true k 51 x in (omega arith, omega arith)
    go false true x x' y = let e = eqb-true k 53 x' in (omega arith, omega arith)
    go false false x x' y = let e = eqb-true k 48 (and_left (eqb k 48) (count_right n) y) in (omega arith, omega arith)

-- the characters after the kind's two
pub rest_part : (l : List ℕ) → length l ≡ 26 → take 24 (drop 2 l) ≡ drop 2 l
rest_part l h = take_all 24 (drop 2 l) (omega (arith, length-drop 2 l))

-- no other long line is accepted
pub other_refused : (l : List ℕ) → 24 ≤ length l → (length l ≡ 24 → ⊥) → (length l ≡ 26 → ⊥) → line_refusal l ≡ 0 → ⊥
other_refused l h p q z = no_length l (good l z) (omega arith) p q

-- a line shorter than a write's, by what it holds
pub held_refused : (l : List ℕ) → None ≡ short_of l → line_refusal l ≡ 0 → ⊥
held_refused l e z = short_refused l e (good l z)

module _ (l : List ℕ) (x : Short) (e : Some x ≡ short_of l) (few : length l < 24) where
  pub held_six : length l ≡ 6
  held_six = short_six l (short_tells l x e).0 few

  pub held_kind : x.kind ≡ line_kind (bytes_of l)
  held_kind = ap (λ (y : Short). y.kind) (short_tells l x e).1

  -- its kind is none of another length
  pub held_not : (k : ℕ) → (digits_of k ≡ 6 → ⊥) → line_kind (bytes_of l) ≡ k → ⊥
  held_not k n z = n (sym (ap digits_of z) ∙ sym (short_tells l x e).0.long ∙ held_six)
