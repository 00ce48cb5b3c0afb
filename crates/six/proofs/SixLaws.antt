-- Laws of a write's six words, and of what the quick way leaves in them.
use mathlib.Core.Path.{◌≡◌, sym, ◌∙◌, ap, subst}
use mathlib.Core.Bool.{true, false, not, true≢false}
use mathlib.Core.List.{List, [], ◌∷◌, ◌++◌}
use Prim.Native.Nat.{ℕ, suc, ◌+◌, ◌<◌, ◌≤◌}
use native.Mathlib.Numerals.{add-one}
use lib.Seq.{take_all, take-suc, take-suc-set}
use native.Mathlib.Omega.{arith}
use lib.ListN.{length, get_or, take, drop, set}
use borrow.Author.Tests.{not-false}
use Rattle.std.specs.Prelude.{Option, Some}
use Rattle.std.specs.Option.{option_eq}
use lib.Dec.{eqb}
use Rattle.meaning.specs.Frames.{Line, line_refusal, line_values, padded, six_values}
use Rattle.meaning.proofs.FrameLaws.{good, clear}
use Rattle.digits.specs.Digits.{sum_of, values_of}
use Rattle.numbers.specs.Numbers.{Joins}
use Rattle.digits.proofs.DigitLaws.{sum_digits, some_told, told_some, length_values, values_small}
use Rattle.heads.specs.Heads.{accepted}
use Rattle.heads.proofs.QuickLaws.{good_write}
use Rattle.heads.proofs.HeadLaws.{accepted_is, accepted_not}
use Rattle.heads.proofs.SaidLaws.{write_line_lem}
use Rattle.six.specs.Six.{write_words, Puts}

-- the six values of a write, by its digits' numbers
pub six_write : (l v : List ℕ) → length l ≡ 24 → get_or l 0 0 ≡ 48 → get_or l 1 0 ≡ 49 → Some 0 ≡ sum_of l → v ≡ values_of l
    → write_words v ≡ six_values l
unfolding six_values padded
six_write l v long p q e f =
    ap write_words f
    ∙ ap (λ (y : Line). padded 6 (drop 2 (line_values y))) (write_line_lem 0 l long p q e)

-- words stored one by one
pub stored_more : (w v : List ℕ) (k : ℕ) → k < length w → k < length v → take k w ≡ take k v → take (k + 1) (set w k (get_or v k 0)) ≡ take (k + 1) v
stored_more w v k p q e =
    let put : take (suc k) (set w k (get_or v k 0)) ≡ take k w ++ (get_or v k 0 ∷ []) = take-suc-set w k (get_or v k 0) p in
    let more : take (suc k) v ≡ take k v ++ (get_or v k 0 ∷ []) = take-suc v k 0 q in
    rw add-one (put ∙ rw more (ap (λ (x : List ℕ). x ++ (get_or v k 0 ∷ [])) e))

pub stored_all : (w v : List ℕ) (k : ℕ) → length w ≤ k → length v ≤ k → take k w ≡ take k v → w ≡ v
stored_all w v k p q e = sym (take_all k w p) ∙ e ∙ take_all k v q

-- what the quick way leaves in them
pub puts_not : (l w : List ℕ) → (line_refusal l ≡ 0 → ⊥) → Puts l w false w
puts_not l w h = let no = accepted_not l (λ g. h (clear l g)) in (sym no, cc (no))

pub puts_is : (l w w' : List ℕ) → line_refusal l ≡ 0 → w' ≡ six_values l → Puts l w true w'
puts_is l w w' z e = let yes = accepted_is l (good l z) in (sym yes, e ∙ cc (yes))

-- what a line of 24 characters lacks that is refused
module _ (l : List ℕ) (long : length l ≡ 24) where
  pub write_first : (get_or l 0 0 ≡ 48 → ⊥) → accepted l ≡ false
  write_first h = accepted_not l (λ g. h (good_write l long g).0)

  pub write_second : (get_or l 1 0 ≡ 49 → ⊥) → accepted l ≡ false
  write_second h = accepted_not l (λ g. h (good_write l long g).1)

  pub write_sum : option_eq eqb (sum_of l) (Some 0) ≡ false → accepted l ≡ false
  write_sum h = accepted_not l (λ g. true≢false (sym (some_told (sum_of l) 0 (good_write l long g).2) ∙ h))

pub ruleset write_lacks = (write_first, write_second, write_sum)

-- a sum that is not told to be another
pub told_not : (o : Option ℕ) (n : ℕ) → false ≡ not (option_eq eqb o (Some n)) → Some n ≡ o
told_not o n h = told_some o n (not-false (option_eq eqb o (Some n)) (sym h))

-- digits' numbers that may be joined: those of a line whose sum is known
pub joins_12 : (l v : List ℕ) (sum : ℕ) → length l ≡ 24 → Some sum ≡ sum_of l → v ≡ values_of l → Joins v 0 12
joins_12 l v sum long e f =
    let digits = (sum_digits l sum e).0 in
    let size : length v ≡ 24 = ap length f ∙ length_values l ∙ long in
    record { small = subst (λ (w : List ℕ). (i : ℕ) → i < length w → get_or w i 0 < 16) (sym f) (values_small l digits); room = omega (arith, size) }
