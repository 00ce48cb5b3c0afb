-- Laws of a session's six words.
use mathlib.Core.Path.{◌≡◌, refl, sym, ◌∙◌, ap}
use mathlib.Core.Bool.{Bool, true, false, true≢false}
use mathlib.Core.List.{List}
use Prim.Native.Nat.{ℕ, ◌≤◌, ◌<◌}
use native.Mathlib.Omega.{arith}
use lib.ListN.{length, get_or, take, drop}
use lib.Dec.{leb, eqb}
use Rattle.std.specs.Prelude.{Some}
use Rattle.std.specs.Option.{option_eq}
use Rattle.digits.proofs.DigitLaws.{some_told}
use borrow.Author.Tests.{leb-true, leb-false, le-leb, lt-leb}
use Rattle.meaning.specs.Frames.{Line, line_values, padded, six_values}
use Rattle.meaning.proofs.FrameLaws.{good, clear}
use Rattle.digits.specs.Digits.{sum_of, values_of}
use Rattle.numbers.specs.Numbers.{joined_at, field_at}
use Rattle.heads.specs.Heads.{accepted}
use Rattle.heads.proofs.HeadLaws.{accepted_not}
use Rattle.heads.proofs.QuickLaws.{session_good, good_session, rest_part}
use Rattle.heads.proofs.SaidLaws.{outcome_of, session_line_lem}
use Rattle.six.proofs.SixLaws.{puts_not, puts_is}
use Rattle.six.specs.Six.{session_words, met_words, Puts}

-- the six values of a session, by the numbers of the digits after its kind
pub six_session : (l v : List ℕ) → length l ≡ 26 → get_or l 0 0 ≡ 48 → get_or l 1 0 ≡ 50 → Some 254 ≡ sum_of (drop 2 l) → v ≡ values_of (drop 2 l)
    → joined_at v 20 1 ≤ 3 → session_words v ≡ six_values l
unfolding six_values padded
six_session l v long p q e f o =
    ap session_words f
    ∙ ap (λ (y : Line). padded 6 (drop 2 (line_values y))) (session_line_lem l long 0 p q e (rw f at o))

-- what a line of 26 characters lacks that is refused
module _ (l : List ℕ) (long : length l ≡ 26) where
  pub session_first : (get_or l 0 0 ≡ 48 → ⊥) → accepted l ≡ false
  session_first h = accepted_not l (λ g. h (good_session l long g).0)

  pub session_second : (get_or l 1 0 ≡ 50 → ⊥) → accepted l ≡ false
  session_second h = accepted_not l (λ g. h (good_session l long g).1)

  pub session_sum : option_eq eqb (sum_of (take 24 (drop 2 l))) (Some 254) ≡ false → accepted l ≡ false
  session_sum h =
      accepted_not l (λ g.
      true≢false (sym (some_told (sum_of (take 24 (drop 2 l))) 254 ((good_session l long g).3 ∙ sym (ap sum_of (rest_part l long)))) ∙ h))

pub ruleset session_lacks = (session_first, session_second, session_sum)

-- a session's outcome decides what is put
pub met_within : (v w : List ℕ) → joined_at v 20 1 ≤ 3 → met_words v w ≡ session_words v
met_within v w h = cc (le-leb (joined_at v 20 1) 3 h)

pub met_above : (v w : List ℕ) → 3 < joined_at v 20 1 → met_words v w ≡ w
met_above v w h = cc (lt-leb (joined_at v 20 1) 3 h)

pub ruleset met = (met_within, met_above)

-- it decides of the line, once its kind and its sum are right
pub puts_met : (l v w w' : List ℕ) (r : Bool) → length l ≡ 26 → get_or l 0 0 ≡ 48 → get_or l 1 0 ≡ 50 → Some 254 ≡ sum_of (drop 2 l) → v ≡ values_of (drop 2 l)
    → r ≡ leb (joined_at v 20 1) 3 → w' ≡ met_words v w → Puts l w r w'
puts_met l v w w' r long p q e f o m = go r refl
  where
    outcome : joined_at v 20 1 ≡ field_at l 11 1
    outcome = ap (λ (x : List ℕ). joined_at x 20 1) f ∙ outcome_of l long

    go : (b : Bool) → r ≡ b → Puts l w r w'
    go true x =
        let within = leb-true (joined_at v 20 1) 3 (sym o ∙ x) in
        let right = session_good l long p q (omega (arith, within, outcome)) e in
        let left : w' ≡ session_words v = m ∙ cc (sym o ∙ x) in
        rw x (puts_is l w w' (clear l right) (left ∙ six_session l v long p q e f within))
    go false x =
        let above = leb-false (joined_at v 20 1) 3 (sym o ∙ x) in
        let left : w' ≡ w = m ∙ cc (sym o ∙ x) in
        rw (x, left) (puts_not l w (λ z. omega (arith, above, outcome, (good_session l long (good l z)).2)))
