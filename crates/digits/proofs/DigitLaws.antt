-- Laws of a line's digits: a character's number, the pass over a line, and the digits' numbers.
use Rattle.std.proofs.Common.{
  ◌≡◌,
  ℕ,
  zero,
  suc,
  ◌+◌,
  ◌*◌,
  ◌/◌,
  ◌%◌,
  ◌<◌,
  ◌≤◌,
  Bool,
  true,
  false,
  cond,
  List,
  [],
  ◌∷◌,
  ◌++◌,
  length,
  get_or,
  take,
  set,
  sym,
  refl,
  ap,
  ◌∙◌,
  add-one,
  arith,
  length-set,
  take_all,
  take-suc,
  take-suc-set,
  below_more,
  eq-eqb,
  ne_eqb,
  ltb-true,
  lt-ltb,
  le-ltb,
  ltb-false,
  nat_lt,
  Some,
  None,
  Option,
}
use Rattle.std.specs.List.{position_or_len}
use Rattle.std.proofs.lemmas.List.Recursion.{is_position_or_len}
use Rattle.std.specs.Option.{unwrap_or, option_eq}
use Rattle.std.proofs.lemmas.Bool.{eqb-true}
use Rattle.std.proofs.Math.Dec.{eqb}
use lib.Bits.{bit_or, or_lt}
use Rattle.meaning.specs.Frames.{digit_value, bytes_of, all_digits, stray_at, total}
use Rattle.meaning.proofs.BitLaws.{or_left, or_right}
use Rattle.meaning.proofs.FrameLaws.{length-bytes_of, byte_at, digits_at, digits_all, total-append, stray_none, stray_within}
use Rattle.digits.specs.Digits.{weigh, sum_of, values_of, stray_of}

abbrev pub Digit : List ℕ → ℕ → Type 0
Digit l i = digit_value (get_or l i 0) < 16

-- a digit's share of the sum
pub weigh_even : (place v : ℕ) → place % 2 ≡ 0 → weigh place v ≡ 16 * v % 256
unfolding weigh
weigh_even place v p = cc (eq-eqb (place % 2) 0 p)

pub weigh_odd : (place v : ℕ) → (place % 2 ≡ 0 → ⊥) → weigh place v ≡ v
unfolding weigh
weigh_odd place v p = cc (ne_eqb (place % 2) 0 p)

-- the pass over a line, one character a turn
module _ (l : List ℕ) where
  -- what the bits seen tell of the characters before a place, and what the line's digits tell of them
  abbrev pub Seen : ℕ → ℕ → Type 0
  Seen seen n = (all_digits l ≡ true → seen < 16) × (seen < 16 → (i : ℕ) → i < n → Digit l i)

  pub seen_none : Seen 0 0
  seen_none = (λ d. omega arith, λ h i p. absurd (omega arith))

  pub seen_more : (seen n d : ℕ) → n < length l → d ≡ digit_value (get_or l n 0) → Seen seen n → Seen (bit_or seen d) (n + 1)
  seen_more seen n d h e s = (
    λ a. or_lt 4 seen d (s.0 a) (omega (arith, digits_at l n a h)),
    λ p i q. below_more (Digit l) n (s.1 (or_left 16 seen d p)) (omega (arith, or_right 16 seen d p)) i q,
  )

  pub seen_all : (seen n : ℕ) → n ≡ length l → Seen seen n → seen ≤ 15 → all_digits l ≡ true
  seen_all seen n e s h = digits_all l (λ i p. s.1 (omega arith) i (omega arith))

  pub seen_stray : (seen n : ℕ) → Seen seen n → 15 < seen → all_digits l ≡ false
  seen_stray seen n s h = go (all_digits l) refl
    where
      go : (b : Bool) → all_digits l ≡ b → b ≡ false
      go true d = absurd (omega (arith, s.0 d))
      go false d = refl

  -- the sum of the whole bytes before a place, and after a byte's first digit 16 times that digit too
  abbrev pub Sum : ℕ → ℕ → Type 0
  Sum sum n =
      ((j : ℕ) → n ≡ 2 * j → sum ≡ total (take j (bytes_of l)))
      × ((j : ℕ) → n ≡ 2 * j + 1 → sum ≡ (total (take j (bytes_of l)) + 16 * digit_value (get_or l (2 * j) 0)) % 256)

  pub sum-none : Sum 0 0
  unfolding total
  sum-none = (even, λ j p. absurd (omega arith))
    where
      even : (j : ℕ) → 0 ≡ 2 * j → 0 ≡ total (take j (bytes_of l))
      even zero p = refl
      even (suc j) p = absurd (omega arith)

  module _ (n v sum : ℕ) (h : n < length l) (e : v ≡ digit_value (get_or l n 0)) (s : Sum sum n) where
    first_half : (j : ℕ) → n + 1 ≡ 2 * j + 1 → (sum + weigh n v) % 256 ≡ (total (take j (bytes_of l)) + 16 * digit_value (get_or l (2 * j) 0)) % 256
    first_half j p =
        let here : n ≡ 2 * j = omega arith in
        let share : weigh n v ≡ 16 * v % 256 = weigh_even n v (omega arith) in
        let digit : v ≡ digit_value (get_or l (2 * j) 0) = rw here at e in
        omega (arith, s.0 j here, share, digit)

    second_half : (j : ℕ) → n + 1 ≡ 2 * j → (sum + weigh n v) % 256 ≡ total (take j (bytes_of l))
    unfolding total
    second_half zero p = absurd (omega arith)
    second_half (suc j) p =
        let here : n ≡ 2 * j + 1 = omega arith in
        let share : weigh n v ≡ v = weigh_odd n v (omega arith) in
        let digit : v ≡ digit_value (get_or l (2 * j + 1) 0) = rw here at e in
        let byte = byte_at l j (omega (arith, length-bytes_of l)) in
        let more : take (suc j) (bytes_of l) ≡ take j (bytes_of l) ++ (get_or (bytes_of l) j 0 ∷ [])
        = take-suc (bytes_of l) j 0 (omega (arith, length-bytes_of l)) in
        rw more (omega (arith, total-append (take j (bytes_of l)) (get_or (bytes_of l) j 0 ∷ []), s.1 j here, share, digit, byte))

    pub sum_more : (next : ℕ) → next ≡ (sum + weigh n v) % 256 → Sum next (n + 1)
    sum_more next q = (λ j p. q ∙ second_half j p, λ j p. q ∙ first_half j p)

  pub sum-all : (n sum : ℕ) → n ≡ length l → length l % 2 ≡ 0 → Sum sum n → sum ≡ total (bytes_of l)
  sum-all n sum e even s = s.0 (length l / 2) (omega arith) ∙ ap total (take_all (length l / 2) (bytes_of l) (omega (arith, length-bytes_of l)))

-- the sum of a line, and what it tells
module _ (l : List ℕ) where
  pub sum_right : (sum : ℕ) → all_digits l ≡ true → sum ≡ total (bytes_of l) → Some sum ≡ sum_of l
  unfolding sum_of
  sum_right sum p e = ap Some e ∙ cc

  pub sum_digits : (sum : ℕ) → Some sum ≡ sum_of l → (all_digits l ≡ true) × (total (bytes_of l) ≡ sum)
  unfolding sum_of
  sum_digits sum e = go (all_digits l) refl e
    where
      go : (b : Bool) → all_digits l ≡ b → Some sum ≡ cond b (Some (total (bytes_of l))) None → (b ≡ true) × (total (bytes_of l) ≡ sum)
      go true p q = (refl, cc)
      go false p q = cc

  -- the sum as a number, 256 for none
  pub sum_number : unwrap_or (sum_of l) 256 ≡ cond (all_digits l) (total (bytes_of l)) 256
  unfolding sum_of
  sum_number = go (all_digits l)
    where
      go : (b : Bool) → unwrap_or (cond b (Some (total (bytes_of l))) None) 256 ≡ cond b (total (bytes_of l)) 256
      go true = refl
      go false = refl

  -- what the pass over a whole line tells
  pub told_of : (seen sum n : ℕ) → n ≡ length l → length l % 2 ≡ 0 → Seen l seen n → Sum l sum n
      → cond (nat_lt 15 seen) None (Some sum) ≡ sum_of l
  unfolding sum_of
  told_of seen sum n e even s t = go (nat_lt 15 seen) refl
    where
      go : (b : Bool) → nat_lt 15 seen ≡ b → cond b None (Some sum) ≡ cond (all_digits l) (Some (total (bytes_of l))) None
      go true p = cc (seen_stray l seen n s (ltb-true 15 seen p))
      go false p = cc (seen_all l seen n e s (ltb-false 15 seen p), sum-all l n sum e even t)

-- a sum asked for
pub told_some : (o : Option ℕ) (n : ℕ) → option_eq eqb o (Some n) ≡ true → Some n ≡ o
told_some None n h = cc
told_some (Some m) n h = ap Some (sym (eqb-true m n h))

pub some_told : (o : Option ℕ) (n : ℕ) → Some n ≡ o → option_eq eqb o (Some n) ≡ true
some_told None n h = cc
some_told (Some m) n h = eq-eqb m n (cc)

-- the characters' numbers
pub length_values : (l : List ℕ) → length (values_of l) ≡ length l
unfolding values_of
length_values [] = refl
length_values (c ∷ cs) = ap suc (length_values cs)

pub value_of : (l : List ℕ) (i : ℕ) → i < length l → get_or (values_of l) i 0 ≡ digit_value (get_or l i 0)
unfolding values_of
value_of [] i h = absurd (omega arith)
value_of (c ∷ cs) zero h = refl
value_of (c ∷ cs) (suc i) h = value_of cs i (omega arith)

pub values_small : (l : List ℕ) → all_digits l ≡ true → (i : ℕ) → i < length (values_of l) → get_or (values_of l) i 0 < 16
values_small l a i h =
    let here : i < length l = omega (arith, length_values l) in
    omega (arith, value_of l i here, digits_at l i a here)

-- a list that has the numbers before a place
abbrev pub Valued : List ℕ → List ℕ → ℕ → Type 0
Valued l v n = (length v ≡ length l) × (take n v ≡ take n (values_of l))

pub valued_more : (l v : List ℕ) (n d : ℕ) → n < length l → d ≡ digit_value (get_or l n 0) → Valued l v n → Valued l (set v n d) (n + 1)
valued_more l v n d h e p =
    let long = length_values l in
    let last : get_or (values_of l) n 0 ≡ d = value_of l n h ∙ sym e in
    let more : take (suc n) (values_of l) ≡ take n (values_of l) ++ (get_or (values_of l) n 0 ∷ []) = take-suc (values_of l) n 0 (omega arith) in
    let put : take (suc n) (set v n d) ≡ take n v ++ (d ∷ []) = take-suc-set v n d (omega arith) in
    (length-set v n d ∙ p.0, rw add-one (put ∙ rw (more, last) (ap (λ (z : List ℕ). z ++ (d ∷ [])) p.1)))

pub valued_all : (l v : List ℕ) (n : ℕ) → n ≡ length l → Valued l v n → v ≡ values_of l
valued_all l v n e p = sym (take_all n v (omega arith)) ∙ p.1 ∙ take_all n (values_of l) (omega (arith, length_values l))

-- the place of the first character that is no digit, as it is defined
stray_place : (l : List ℕ) → stray_at l ≡ position_or_len (λ c. nat_lt 15 (digit_value c)) l
unfolding stray_at
stray_place l = is_position_or_len stray_at (λ c. nat_lt 15 (digit_value c)) refl (λ c cs. turned (digit_value c) (stray_at cs)) l
  where
    turned : (v n : ℕ) → cond (nat_lt v 16) (suc n) 0 ≡ cond (nat_lt 15 v) 0 (1 + n)
    turned v n = go (nat_lt 15 v) refl
      where
        one_more : suc n ≡ 1 + n
        one_more = omega arith

        go : (b : Bool) → nat_lt 15 v ≡ b → cond (nat_lt v 16) (suc n) 0 ≡ cond b 0 (1 + n)
        go true p = cc (le-ltb v 16 (ltb-true 15 v p))
        go false p = cc (lt-ltb v 16 (omega (arith, ltb-false 15 v p)), one_more)

pub stray_found : (l : List ℕ) → stray_of l ≡ cond (all_digits l) None (Some (stray_at l))
stray_found l = go (all_digits l) refl
  where
    go : (b : Bool) → all_digits l ≡ b → stray_of l ≡ cond b None (Some (stray_at l))
    go true p = cc (stray_place l, le-ltb (stray_at l) (length l) (omega (arith, stray_none l p)))
    go false p = cc (stray_place l, lt-ltb (stray_at l) (length l) (stray_within l p))
