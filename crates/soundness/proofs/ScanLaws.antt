-- The words of a log as records of four, and how a record whose origin is too great is counted.
use Rattle.std.proofs.Common.{◌≡◌, ◌∙◌, sym, ap, ap₂, ◌&&◌, ℕ, zero, suc, ◌+◌, ◌*◌, ◌<◌, ◌≤◌, Bool, true, false, cond, List, [], get_or, drop, ltb, leb, arith}
use native.Mathlib.Decide.{dec_lt}
use borrow.Author.Tests.{lt-ltb, le-ltb, lt-leb, le-leb}
use lib.Seq.{get_or-take, get_or-drop}
use mir.Val.{bool_byte}
use mathlib.Core.Bool.{and-true, and_assoc}
use Rattle.std.specs.Simd.{first_chunks}
use Rattle.std.specs.List.{list_all, range_with_len}
use Rattle.meaning.specs.Rows.{every}
use Rattle.meaning.proofs.SoundLaws.{every-none, every_same}

-- word j of record i
pub record_word : (k : ℕ) (w : List ℕ) (i j : ℕ) → i < k → j < 4 → get_or (get_or (first_chunks 4 k w) i []) j 0 ≡ get_or w (4 * i + j) 0
record_word zero w i j h g = absurd (omega arith)
record_word (suc k) w zero j h g =
    let e : j ≡ 4 * 0 + j = omega arith in
    get_or-take 4 w j 0 g ∙ ap (λ (m : ℕ). get_or w m 0) e
record_word (suc k) w (suc i) j h g =
    let e : 4 + (4 * i + j) ≡ 4 * suc i + j = omega arith in
    record_word k (drop 4 w) i j (omega arith) g ∙ get_or-drop 4 w (4 * i + j) 0 ∙ ap (λ (m : ℕ). get_or w m 0) e

-- 1 for an origin that is not below n, else 0
pub counted : (origin n d : ℕ) → d ≡ bool_byte (leb n origin) → d ≡ cond (ltb origin n) 0 1
counted origin n d e = go (dec_lt origin n)
  where
    go : Dec (origin < n) → d ≡ cond (ltb origin n) 0 1
    go (yes h) = rw (lt-ltb origin n h) (e ∙ ap bool_byte (lt-leb n origin h))
    go (no h) =
        let g : n ≤ origin = omega arith in
        rw (le-ltb origin n g) (e ∙ ap bool_byte (le-leb n origin g))

pub one_more : (b : Bool) (d : ℕ) → d ≡ bool_byte b → d ≤ 1
one_more true d e = omega arith
one_more false d e = omega arith

-- a test at every number below n, from the first on
every_first : (n : ℕ) (f : ℕ → Bool) → every (suc n) f ≡ (f 0 && every n (λ i. f (suc i)))
unfolding every
every_first zero f = sym (and-true (f 0))
every_first (suc n) f = ap (λ (b : Bool). b && f (suc n)) (every_first n f) ∙ and_assoc (f 0) (every n (λ i. f (suc i))) (f (suc n))

every_range : (a n : ℕ) (f : ℕ → Bool) → list_all f (range_with_len a n) ≡ every n (λ i. f (a + i))
every_range a zero f = sym (every-none (λ i. f (a + i)))
every_range a (suc n) f =
    let zeroth : f a ≡ f (a + 0) = ap f (omega arith) in
    let others : every n (λ i. f (a + 1 + i)) ≡ every n (λ i. f (a + suc i)) = every_same n _ _ (λ i h. ap f (omega arith)) in
    ap₂ (λ (b d : Bool). b && d) zeroth (every_range (a + 1) n f ∙ others) ∙ sym (every_first n (λ i. f (a + i)))

pub every-all : (n : ℕ) (f : ℕ → Bool) → list_all f (range_with_len 0 n) ≡ every n f
every-all n f = every_range 0 n f ∙ every_same n _ _ (λ i h. ap f (omega arith))
