-- Laws of what a frame's parts leave: words or characters put one after the other, and the check.
use Rattle.std.proofs.Common.{
  ◌≡◌,
  ℕ,
  ◌+◌,
  ◌-◌,
  ◌*◌,
  ◌/◌,
  ◌%◌,
  ◌<◌,
  ◌≤◌,
  List,
  [],
  ◌∷◌,
  ◌++◌,
  length,
  get_or,
  take,
  drop,
  set,
  sym,
  refl,
  ap,
  ◌∙◌,
  arith,
  take_at,
  length-set,
}
use Rattle.std.specs.Int.{to_be_bytes, w32}
use Rattle.std.proofs.lemmas.List.{take_more_set}
use lib.Seq.{take_all}
use Rattle.meaning.specs.Table.{place}
use Rattle.meaning.specs.Frames.{spelled, high_first, total, check, sealed}
use Rattle.meaning.proofs.PlaceLaws.{mid_place, set-place}
use Rattle.meaning.proofs.FrameLaws.{total-append, total_below, spelled-append, length-spelled}
use Rattle.spelling.proofs.SpellLaws.{set_next, take_more}

-- a line's characters, and the LF after them
pub put_over : (xs t : List ℕ) → xs ++ drop (length xs) t ≡ place 0 xs t
put_over xs t = mid_place 0 (length xs) t xs refl

pub put_last : (t xs : List ℕ) (v : ℕ) → length xs < length t → set (xs ++ drop (length xs) t) (length xs) v ≡ place 0 (xs ++ (v ∷ [])) t
put_last t xs v h = set_next t (xs ++ drop (length xs) t) xs 0 (length xs) v (omega arith) h (put_over xs t)

-- the first digits are those of the first bytes, whatever stands behind them
pub front_spelled : (bs rest : List ℕ) → take (2 * length bs) (spelled (bs ++ rest)) ≡ spelled bs
front_spelled bs rest =
    ap (λ (l : List ℕ). take (2 * length bs) l) (spelled-append bs rest) ∙ take_at (spelled bs) (spelled rest) (2 * length bs) (length-spelled bs)

-- a word's bytes
pub word_bytes : (x : ℕ) → to_be_bytes w32 x ≡ high_first 4 x
unfolding high_first
word_bytes x =
    let e₃ : x / 16777216 % 256 ≡ x / 256 / 256 / 256 % 256 = omega arith in
    let e₂ : x / 65536 % 256 ≡ x / 256 / 256 % 256 = omega arith in
    rw (e₃, e₂) refl

put_four : (t : List ℕ) (at x p q r v : ℕ) → at + 4 ≤ length t → p ∷ q ∷ r ∷ v ∷ [] ≡ to_be_bytes w32 x
    → set (set (set (set t at p) (at + 1) q) (at + 2) r) (at + 3) v ≡ place at (high_first 4 x) t
put_four t at x p q r v h e =
    let s₀ = set-place t at p (omega arith) in
    let s₁ = set_next t (set t at p) (p ∷ []) at (at + 1) q (omega arith) (omega arith) s₀ in
    let s₂ = set_next t (set (set t at p) (at + 1) q) (p ∷ q ∷ []) at (at + 2) r (omega arith) (omega arith) s₁ in
    let s₃ = set_next t (set (set (set t at p) (at + 1) q) (at + 2) r) (p ∷ q ∷ r ∷ []) at (at + 3) v (omega arith) (omega arith) s₂ in
    s₃ ∙ ap (λ (l : List ℕ). place at l t) (e ∙ word_bytes x)

pub split_word : (t ys : List ℕ) (at x : ℕ) → at + 4 ≤ length t → ys ≡ to_be_bytes w32 x
    → set (set (set (set t at (get_or ys 0 0)) (at + 1) (get_or ys 1 0)) (at + 2) (get_or ys 2 0)) (at + 3) (get_or ys 3 0) ≡ place at (high_first 4 x) t
split_word t ys at x h e =
    rw e (put_four t at x (x / 16777216 % 256) (x / 65536 % 256) (x / 256 % 256) (x % 256) h refl)

-- the sum of the bytes passed, and the check after them
pub total_none : 0 ≡ total []
unfolding total
total_none = refl

pub total_more : (b : List ℕ) (k sum : ℕ) → k < length b → sum ≡ total (take k b) → (sum + get_or b k 0) % 256 ≡ total (take (k + 1) b)
unfolding total
total_more b k sum h p =
    let all = total-append (take k b) (get_or b k 0 ∷ []) in
    let last : (sum + get_or b k 0) % 256 ≡ total (take k b ++ (get_or b k 0 ∷ [])) = omega arith in
    last ∙ ap total (sym (take_more b k h))

negated : (r sum : ℕ) → r < 256 → sum < 256 → (r + sum) % 256 ≡ 0 → r ≡ (256 - sum) % 256
negated r sum h g p = omega arith

pub seal_last : (b : List ℕ) (n r sum : ℕ) → n + 1 ≡ length b → r < 256 → sum ≡ total (take n b) → (r + sum) % 256 ≡ 0 → set b n r ≡ sealed (take n b)
unfolding sealed check
seal_last b n r sum e w p q =
    let low : sum < 256 = rw p (total_below (take n b)) in
    let c : r ≡ (256 - total (take n b)) % 256 = negated r sum w low q ∙ ap (λ (m : ℕ). (256 - m) % 256) p in
    let all : length (set b n r) ≤ n + 1 = simp length-set (omega arith) in
    sym (take_all (n + 1) (set b n r) all) ∙ take_more_set b n r (omega arith) ∙ ap (λ (m : ℕ). take n b ++ (m ∷ [])) c
