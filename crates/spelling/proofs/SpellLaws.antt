-- Laws of digits put one after the other.
use mathlib.Core.Path.{◌≡◌, sym, ◌∙◌, ap}
use mathlib.Core.List.{List, [], ◌∷◌, ◌++◌}
use Prim.Native.Nat.{ℕ, ◌+◌, ◌*◌, ◌/◌, ◌%◌, ◌≤◌, ◌<◌}
use native.Mathlib.Omega.{arith}
use native.Mathlib.Numerals.{add-one}
use lib.ListN.{length, get_or, set, take}
use lib.Seq.{length-take-le, take-suc, take_all}
use Rattle.meaning.specs.Table.{place}
use Rattle.meaning.specs.Frames.{digit, spelled}
use Rattle.meaning.proofs.PlaceLaws.{length-place, place-append, set-place, place_none, place-all}
use Rattle.meaning.proofs.FrameLaws.{spelled-append, length-spelled}

-- one more entry after those that were put
pub set_next : (t₀ t xs : List ℕ) (at next v : ℕ) → next ≡ at + length xs → next < length t₀ → t ≡ place at xs t₀ → set t next v ≡ place at (xs ++ (v ∷ [])) t₀
set_next t₀ t xs at next v e h p =
    let fit = length-place at xs t₀ (omega arith) in
    rw p (set-place (place at xs t₀) next v (omega arith) ∙ place-append at next xs (v ∷ []) t₀ e (omega arith))

-- the entries passed, and one more
pub take_more : (l : List ℕ) (k : ℕ) → k < length l → take (k + 1) l ≡ take k l ++ (get_or l k 0 ∷ [])
take_more l k h = ap (λ (m : ℕ). take m l) (add-one k) ∙ take-suc l k 0 h

-- two digits set are a byte put
pub put_pair : (t : List ℕ) (at b x y : ℕ) → 2 * (at + 1) ≤ length t → x ≡ digit (b / 16) → y ≡ digit (b % 16)
    → set (set t (2 * at) x) (2 * at + 1) y ≡ place (2 * at) (spelled (b ∷ [])) t
unfolding spelled
put_pair t at b x y h p q =
    rw (p, q)
    (set_next t (set t (2 * at) (digit (b / 16))) (digit (b / 16) ∷ []) (2 * at) (2 * at + 1) (digit (b % 16)) (omega arith) (omega arith)
    (set-place t (2 * at) (digit (b / 16)) (omega arith)))

-- the digits of the bytes passed
pub spell_none : (b d : List ℕ) → d ≡ place 0 (spelled (take 0 b)) d
unfolding spelled
spell_none b d = sym (place_none 0 d)

pub spell_more : (b d₀ d d' : List ℕ) (k : ℕ) → k < length b → length d₀ ≡ 2 * length b → d ≡ place 0 (spelled (take k b)) d₀
    → d' ≡ place (2 * k) (spelled (get_or b k 0 ∷ [])) d → d' ≡ place 0 (spelled (take (k + 1) b)) d₀
spell_more b d₀ d d' k h n p q =
    let front : length (spelled (take k b)) ≡ 2 * k = length-spelled (take k b) ∙ ap (λ (m : ℕ). 2 * m) (length-take-le k b (omega arith)) in
    let back : length (spelled (get_or b k 0 ∷ [])) ≡ 2 = length-spelled (get_or b k 0 ∷ []) in
    q ∙ ap (place (2 * k) (spelled (get_or b k 0 ∷ []))) p ∙
    place-append 0 (2 * k) (spelled (take k b)) (spelled (get_or b k 0 ∷ [])) d₀ (omega arith) (omega arith) ∙
    ap (λ (r : List ℕ). place 0 r d₀) (sym (spelled-append (take k b) (get_or b k 0 ∷ []))) ∙
    ap (λ (r : List ℕ). place 0 (spelled r) d₀) (sym (take_more b k h))

pub spell_all : (b d₀ d : List ℕ) (k : ℕ) → length b ≤ k → length d₀ ≡ 2 * length b → d ≡ place 0 (spelled (take k b)) d₀ → d ≡ spelled b
spell_all b d₀ d k h n p =
    p ∙ ap (λ (r : List ℕ). place 0 (spelled r) d₀) (take_all k b h) ∙ place-all (spelled b) d₀ (length-spelled b ∙ sym n)
