-- A row put into one of the two parts of a table that is split, and what is read of such a part.
use Rattle.std.proofs.Common.{◌≡◌, ◌∙◌, refl, sym, ap, ap₂, ℕ, ◌+◌, ◌-◌, ◌≤◌, List, ◌++◌, length, take, drop, append_assoc, arith}
use Rattle.std.proofs.lemmas.List.{take-take, drop-take, take-append-le, drop-append-le, take-append-drop, length-take-le}
use Rattle.meaning.specs.Table.{part, place}
use Rattle.meaning.proofs.PlaceLaws.{part_lent}

-- a part of the words before m
pub part_front : (m a n : ℕ) (t : List ℕ) → a + n ≤ m → part a n (take m t) ≡ part a n t
unfolding part
part_front m a n t h =
    let e : m ≡ a + (m - a) = omega arith in
    ap (λ (x : ℕ). take n (drop a (take x t))) e ∙ ap (take n) (drop-take a (m - a) t) ∙ take-take n (m - a) (drop a t) (omega arith)

-- and of those from m on
pub part_back : (m n : ℕ) (t : List ℕ) → take n (drop m t) ≡ part m n t
unfolding part
part_back m n t = refl

-- a row put before m
put_before : (at : ℕ) (ys a b : List ℕ) → at + length ys ≤ length a → place at ys (a ++ b) ≡ place at ys a ++ b
unfolding place
put_before at ys a b h =
    ap₂ (λ (x y : List ℕ). x ++ (ys ++ y)) (take-append-le at a b (omega arith)) (drop-append-le (at + length ys) a b h) ∙
    ap (λ (x : List ℕ). take at a ++ x) (sym (append_assoc ys (drop (at + length ys) a) b)) ∙
    sym (append_assoc (take at a) (ys ++ drop (at + length ys) a) b)

pub put_front : (m at : ℕ) (ys t : List ℕ) → at + length ys ≤ m → m ≤ length t → place at ys (take m t) ++ drop m t ≡ place at ys t
put_front m at ys t h fits =
    let l = length-take-le m t fits in
    sym (put_before at ys (take m t) (drop m t) (omega arith)) ∙ ap (place at ys) (take-append-drop m t)

-- a part that is lent from a place known under another name
pub part_there : (t : List ℕ) (from at n : ℕ) → from ≡ at → take ((from + n) - from) (drop from t) ≡ part at n t
part_there t from at n e = part_lent from n t ∙ ap (λ (m : ℕ). part m n t) e
