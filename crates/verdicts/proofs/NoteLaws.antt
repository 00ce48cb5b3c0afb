-- One record as the code notes it: the record of number k, which is 1 and its row, and where the search for its pair ended.
use mathlib.Core.Path.{◌≡◌, ap, subst, ◌∙◌}
use mathlib.Core.Bool.{Bool, true, false, cond}
use mathlib.Core.List.{List}
use Prim.Native.Nat.{ℕ, ◌+◌, ◌-◌, ◌*◌, ◌%◌, ◌<◌, ◌≤◌}
use native.Mathlib.Omega.{arith}
use lib.ListN.{length, get_or, set}
use Rattle.meaning.specs.Rows.{record_at}
use Rattle.meaning.specs.Verdicts.{class_of, is_scrubbed, is_touched, Pair, pair_of}
use Rattle.meaning.proofs.AccountLaws.{by_test}
use Rattle.pairs.specs.Chains.{Noted, Seeks, slot_of, touched_at}
use Rattle.pairs.proofs.ChainLaws.{seeks_within}
use Rattle.pairs.proofs.KeptLaws.{head_within, noted_passed, noted_new, noted-known, noted_risen}

-- a slot is one of 64
pub slot_low : (x : Pair) → slot_of x < 64
unfolding slot_of
slot_low x = omega arith

module _ (w : List ℕ) where
  -- the verdict of the record before row k
  pub verdict_before : (k : ℕ) → 0 < k → get_or w (4 * k - 1) 0 ≡ (record_at w (k - 1)).verdict
  unfolding record_at
  verdict_before k some = ap (λ (j : ℕ). get_or w j 0) (omega arith)

  pub touched_before : (k : ℕ) (b : Bool) → 0 < k → b ≡ is_touched (class_of (get_or w (4 * k - 1) 0 % 256)) → b ≡ touched_at w k
  touched_before k b some e = e ∙ ap (λ (v : ℕ). is_touched (class_of (v % 256))) (verdict_before k some)

  module _ (k : ℕ) (some : 0 < k) (inside : 4 * k ≤ length w) (heads links : List ℕ) (s t : ℕ) (noted : Noted w k heads links s t) where
    abbrev row : ℕ
    row = k - 1

    whole : 4 * row + 4 ≤ length w
    whole = omega arith

    next : k ≡ row + 1
    next = omega arith

    before : Noted w (row + 1) heads links s t
    before = subst (λ (j : ℕ). Noted w j heads links s t) next noted

    pub passed : is_scrubbed (class_of ((record_at w row).verdict % 256)) ≡ false → Noted w row heads links s t
    passed none = noted_passed w row whole heads links before.kept none s t before.scrubs before.touches

    -- the record's pair, as the code has it, and where the search for it in its slot ended, 0 for nowhere
    module _ (x : Pair) (pair_is : x ≡ pair_of (record_at w row)) (n : ℕ) (seek : Seeks w links x (get_or heads (slot_of x) 0) n) where
      pub inside_found : 4 * n ≤ length w
      inside_found = seeks_within w x links noted.kept.rising (head_within w k heads links noted.kept (slot_of x)) seek

      slot_is : slot_of x ≡ slot_of (pair_of (record_at w row))
      slot_is = ap slot_of pair_is

      seek_is : Seeks w links (pair_of (record_at w row)) (get_or heads (slot_of (pair_of (record_at w row))) 0) n
      seek_is = subst (λ (y : Pair). Seeks w links y (get_or heads (slot_of y) 0) n) pair_is seek

      module _ (scrub : is_scrubbed (class_of ((record_at w row).verdict % 256)) ≡ true) (p : Bool) (ep : p ≡ touched_at w k) where
        -- the pair is touched already, or need not be
        pub known : 0 < n → touched_at w n ≡ true → Noted w row heads links s t
        known found e =
            noted-known w row whole heads links before.kept scrub p ep n seek_is s t before.scrubs before.touches found (by_test p (λ f. cc) (λ f. cc))

        pub unneeded : 0 < n → p ≡ false → Noted w row heads links s t
        unneeded found e = noted-known w row whole heads links before.kept scrub p ep n seek_is s t before.scrubs before.touches found (cc)

        -- or the record is put first
        module _ (hs ls : List ℕ) (eh : hs ≡ set heads (slot_of x) k) (el : ls ≡ set links row (get_or heads (slot_of x) 0)) where
          low_is : slot_of (pair_of (record_at w row)) < 64
          low_is = slot_low (pair_of (record_at w row))

          put : (a b : ℕ)
              → Noted w row (set heads (slot_of (pair_of (record_at w row))) (row + 1))
              (set links row (get_or heads (slot_of (pair_of (record_at w row))) 0)) a b
              → Noted w row hs ls a b
          put a b h =
              let eh' : hs ≡ set heads (slot_of (pair_of (record_at w row))) (row + 1)
              = eh ∙ ap (λ (z : ℕ). set heads z k) slot_is ∙ ap (set heads (slot_of (pair_of (record_at w row)))) next in
              let el' : ls ≡ set links row (get_or heads (slot_of (pair_of (record_at w row))) 0) = el ∙
              ap (λ (z : ℕ). set links row (get_or heads z 0)) slot_is in
              rw (eh', el') h

          pub new : (m : ℕ) → n ≡ 0 → m ≡ cond p 1 0 → Noted w row hs ls (s + 1) (t + m)
          new m none em =
              put (s + 1) (t + m)
              (rw em (noted_new w row whole heads links before.kept scrub p ep n seek_is s t before.scrubs before.touches none low_is))

          pub risen : 0 < n → p ≡ true → touched_at w n ≡ false → Noted w row hs ls s (t + 1)
          risen found e f =
              put s (t + 1)
              (noted_risen w row whole heads links before.kept scrub p ep n seek_is s t before.scrubs before.touches found e f low_is)
