-- Laws about soundness: a test at every number, the scan of a log, and where a record of a log stands in the table.
use mathlib.Core.Path.{◌≡◌, refl, sym, ap, ◌∙◌}
use mathlib.Core.Bool.{Bool, true, false, ◌&&◌, cond, and-true}
use mathlib.Core.List.{List}
use Prim.Native.Nat.{ℕ, zero, suc, ◌+◌, ◌*◌, ◌<◌, ◌≤◌}
use native.Mathlib.Nat.{add-zero}
use native.Mathlib.Numerals.{add-one}
use native.Mathlib.Omega.{arith}
use borrow.Author.Tests.{eq-eqb, ne_eqb, le-leb, lt-leb}
use lib.ListN.{length, get_or, take, drop}
use lib.Seq.{get_or-take}
use lib.Bits.{bit_or}
use lib.Dec.{leb, ltb, eqb}
use Rattle.meaning.specs.Rows.{every, record_at}
use Rattle.meaning.proofs.BitLaws.{or_byte}
use Rattle.meaning.proofs.RowLaws.{every_at, record_at_agree}
use Rattle.meaning.specs.Table.{form_words, form_of, nodes_most, log_most, log_at, part, count, held, record_sound, log_sound, sound}

-- no number, and one number more
pub every-none : (f : ℕ → Bool) → every 0 f ≡ true
unfolding every
every-none f = refl

pub every_more : (n : ℕ) (f : ℕ → Bool) → every (n + 1) f ≡ (every n f && f n)
unfolding every
every_more n f = rw (add-one)

pub every_last : (n : ℕ) (f : ℕ → Bool) → every n f ≡ true → f n ≡ true → every (n + 1) f ≡ true
every_last n f before last = rw (every_more, before) last

pub every_whole : (n p : ℕ) (f : ℕ → Bool) → p ≤ n → n ≤ p → every p f ≡ true → true ≡ every n f
every_whole n p f below above all = let same : p ≡ n = omega arith in rw (← same) (sym all)

-- tests that agree below n
pub every_same : (n : ℕ) (f g : ℕ → Bool) → ((i : ℕ) → i < n → f i ≡ g i) → every n f ≡ every n g
unfolding every
every_same zero f g same = refl
every_same (suc n) f g same = cc (every_same n f g (λ i h. same i (omega arith)), same n (omega arith))

-- a test that fails at one number fails
pub every_not : (n : ℕ) (f : ℕ → Bool) (i : ℕ) → i < n → f i ≡ false → every n f ≡ false
every_not n f i h e = go (every n f) refl
  where
    go : (b : Bool) → every n f ≡ b → every n f ≡ false
    go true t = let at = every_at n f t i h in cc
    go false t = t

-- a count with a test's failure added is 0 if it was and the test passes
none_more : (m : ℕ) (passes : Bool) → eqb (m + cond passes 0 1) 0 ≡ (eqb m 0 && passes)
none_more m true = ap (λ (x : ℕ). eqb x 0) (add-zero m) ∙ sym (and-true (eqb m 0))
none_more m false = ne_eqb (m + 1) 0 (λ e. omega arith) ∙ go (eqb m 0)
  where
    go : (b : Bool) → false ≡ (b && false)
    go true = refl
    go false = refl

crossed : (a b c d : Bool) → ((a && b) && (c && d)) ≡ ((a && c) && (b && d))
crossed true b true d = refl
crossed true true false d = refl
crossed true false false d = refl
crossed false b c d = refl

-- The scan of a log of words w, where m of the k records passed have an origin that is not below n, and v is their verdicts' bits together.
module _ (w : List ℕ) (n : ℕ) where
  pub scan_starts : (eqb 0 0 && leb 0 255) ≡ every 0 (λ i. record_sound n (record_at w i))
  unfolding every
  scan_starts = refl

  pub scan_more : (k m v d : ℕ)
      → d ≡ cond (ltb (get_or w (4 * k) 0) n) 0 1
      → (eqb m 0 && leb v 255) ≡ every k (λ i. record_sound n (record_at w i))
      → (eqb (m + d) 0 && leb (bit_or v (get_or w (4 * k + 3) 0)) 255) ≡ every (k + 1) (λ i. record_sound n (record_at w i))
  unfolding record_sound record_at
  scan_more k m v d ed before =
      rw (ed, every_more, none_more, or_byte, ← before)
      (crossed (eqb m 0) (ltb (get_or w (4 * k) 0) n) (leb v 255) (leb (get_or w (4 * k + 3) 0) 255))

  -- the answer after the last record, b what the origins' test says
  pub scan_ends : (b : Bool) (k held m v : ℕ) → k ≤ held → held ≤ k → eqb m 0 ≡ b
      → (eqb m 0 && leb v 255) ≡ every k (λ i. record_sound n (record_at w i))
      → (b && leb v 255) ≡ every held (λ i. record_sound n (record_at w i))
  scan_ends b k held m v below above t before = let all : k ≡ held = omega arith in rw (← t, ← all) before

-- A record of a log's held part is that of the whole log.
pub record_at-held : (t : List ℕ) (at k m i : ℕ) → i < k → 4 * k ≤ m → record_at (take (4 * k) (drop at t)) i ≡ record_at (part at m t) i
unfolding part
record_at-held t at k m i h room =
    record_at_agree (take (4 * k) (drop at t)) (take m (drop at t)) i i
    (λ j b. get_or-take (4 * k) (drop at t) (4 * i + j) 0 (omega arith) ∙ sym (get_or-take m (drop at t) (4 * i + j) 0 (omega arith)))

-- A log that holds too many is not sound; one that does not is sound if its held part is.
module _ (t : List ℕ) (p : ℕ) where
  pub log_full : (h : ℕ) → h ≡ held t p → log_most < h → false ≡ log_sound t p
  unfolding log_sound
  log_full h e most = rw (lt-leb (held t p) log_most (omega arith))

  pub log_scanned : (n h at k : ℕ) (r : Bool) → n ≡ count t → h ≡ held t p → h ≤ log_most → at ≡ log_at (form_of t) p
      → r ≡ every h (λ i. record_sound n (record_at (take k (drop at t)) i))
      → k ≡ 4 * h
      → r ≡ log_sound t p
  unfolding log_sound
  log_scanned n h at k r en eh most ea er ek =
      rw (er, en, ea, ek, ← eh, le-leb h log_most most)
      (every_same h _ _ (λ i below. ap (record_sound (count t)) (record_at-held t (log_at (form_of t) p) h (4 * log_most) i below (omega arith))))

-- The table's answer from its parts, in the order of the tests.
module _ (t : List ℕ) where
  pub unsound_length : (length t ≡ form_words (form_of t) → ⊥) → false ≡ sound t
  unfolding sound
  unsound_length wrong = rw (ne_eqb (length t) (form_words (form_of t)) wrong)

  pub unsound_few : (n : ℕ) → length t ≡ form_words (form_of t) → n ≡ count t → n < 2 → false ≡ sound t
  unfolding sound
  unsound_few n right en few = rw (eq-eqb (length t) (form_words (form_of t)) right, ← en, lt-leb 2 n few)

  pub unsound_many : (n : ℕ) → length t ≡ form_words (form_of t) → n ≡ count t → 2 ≤ n → nodes_most < n → false ≡ sound t
  unfolding sound
  unsound_many n right en enough many = rw (eq-eqb (length t) (form_words (form_of t)) right, ← en, le-leb 2 n enough, lt-leb n nodes_most many)

  pub sound_logs : (n : ℕ) (r : Bool) → length t ≡ form_words (form_of t) → n ≡ count t → 2 ≤ n → n ≤ nodes_most → r ≡ every n (log_sound t) → r ≡ sound t
  unfolding sound
  sound_logs n r right en enough most er = rw (eq-eqb (length t) (form_words (form_of t)) right, ← en, le-leb 2 n enough, le-leb n nodes_most most) er
