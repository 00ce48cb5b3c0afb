-- A row lowered by another and by columns one after the other, and the smallest entry of each.
use mathlib.Core.Path.{◌≡◌, refl, sym, ap, ap₂, ◌∙◌}
use mathlib.Core.List.{List, [], ◌∷◌, ◌++◌, map}
use Prim.Native.Nat.{ℕ, zero, suc, ◌+◌, ◌≤◌, ◌<◌, min}
use native.Mathlib.Omega.{arith}
use native.Mathlib.Decide.{dec_lt}
use lib.ListN.{length, get_or, take, replicate, get_or-map}
use lib.Seq.{take-suc, length-take-le}
use Rattle.std.proofs.lemmas.Grind.{same_number_lists}
use Rattle.meaning.specs.Rows.{least, least_at, lower, lowest}
use Rattle.meaning.specs.Table.{Form, Columns, form_of, node}
use Rattle.meaning.specs.Node.{lows}
use Rattle.meaning.specs.Steps.{lagging}
use Rattle.meaning.proofs.RowLaws.{least_at_lem, least_at_below, least_at_entry}

length-lower : (xs ys : List ℕ) (n : ℕ) → length xs ≡ n → length ys ≡ n → length (lower xs ys) ≡ n
unfolding lower
length-lower [] ys n p q = p
length-lower (x ∷ xs) [] n p q = absurd (omega arith)
length-lower (x ∷ xs) (y ∷ ys) zero p q = absurd (omega arith)
length-lower (x ∷ xs) (y ∷ ys) (suc n) p q = ap suc (length-lower xs ys n (omega arith) (omega arith))

lower_entry : (xs ys : List ℕ) (i : ℕ) → length xs ≡ length ys → get_or (lower xs ys) i 0 ≡ min (get_or xs i 0) (get_or ys i 0)
unfolding lower
lower_entry [] [] i h = omega arith
lower_entry [] (y ∷ ys) i h = absurd (omega arith)
lower_entry (x ∷ xs) [] i h = absurd (omega arith)
lower_entry (x ∷ xs) (y ∷ ys) zero h = refl
lower_entry (x ∷ xs) (y ∷ ys) (suc i) h = lower_entry xs ys i (omega arith)

-- a row that has the smaller of both entries at each place
pub lower_is :
    (r b w : List ℕ) → length b ≡ length r → length w ≡ length r → ((k : ℕ) → k < length r → get_or w k 0 ≡ min (get_or r k 0) (get_or b k 0)) →
    w ≡ lower r b
lower_is r b w same long each =
    let l = length-lower r b (length r) refl same in
    same_number_lists w (lower r b) (omega arith) (λ k h. each k (omega arith) ∙ sym (lower_entry r b k (sym same)))

-- the greatest number that a word holds, at every place, lowered by a row of words
pub lower_most : (xs : List ℕ) → ((i : ℕ) → i < length xs → get_or xs i 0 ≤ 4294967295) → lower (replicate (length xs) 4294967295) xs ≡ xs
unfolding lower
lower_most [] fits = refl
lower_most (x ∷ xs) fits =
    let here = fits 0 (omega arith) in
    let m : min 4294967295 x ≡ x = omega arith in
    ap₂ (λ (y : ℕ) (ys : List ℕ). y ∷ ys) m (lower_most xs (λ i h. fits (suc i) (omega arith)))

pub lower_assoc : (xs ys zs : List ℕ) → lower (lower xs ys) zs ≡ lower xs (lower ys zs)
unfolding lower
lower_assoc [] ys zs = refl
lower_assoc (x ∷ xs) [] zs = refl
lower_assoc (x ∷ xs) (y ∷ ys) [] = refl
lower_assoc (x ∷ xs) (y ∷ ys) (z ∷ zs) =
    let m : min (min x y) z ≡ min x (min y z) = omega arith in
    ap₂ (λ (w : ℕ) (ws : List ℕ). w ∷ ws) m (lower_assoc xs ys zs)

-- the smallest of one column, and with one column more
pub lowest_one : (cs : List (List ℕ)) → 0 < length cs → lowest (take 1 cs) ≡ get_or cs 0 []
unfolding lowest
lowest_one [] h = absurd (omega arith)
lowest_one (c ∷ cs) h = refl

lowest_last : (cs : List (List ℕ)) (d : List ℕ) → 0 < length cs → lowest (cs ++ (d ∷ [])) ≡ lower (lowest cs) d
unfolding lowest
lowest_last [] d h = absurd (omega arith)
lowest_last (c ∷ []) d h = refl
lowest_last (c ∷ (e ∷ cs)) d h = ap (lower c) (lowest_last (e ∷ cs) d (omega arith)) ∙ sym (lower_assoc c (lowest (e ∷ cs)) d)

pub lowest_more : (cs : List (List ℕ)) (k : ℕ) → 0 < k → k < length cs → lowest (take (suc k) cs) ≡ lower (lowest (take k cs)) (get_or cs k [])
lowest_more cs k some h =
    let l = length-take-le k cs (omega arith) in
    ap lowest (take-suc cs k [] h) ∙ lowest_last (take k cs) (get_or cs k []) (omega arith)

-- a number that is above none of the first i entries of a row and not below its smallest
pub record Low (xs : List ℕ) (i low : ℕ) : Type 0 where
  pub above : least xs ≤ low
  pub below : (j : ℕ) → j < i → low ≤ get_or xs j 0

pub low_none : (xs : List ℕ) → 0 < length xs → Low xs 0 (get_or xs 0 0)
low_none xs some = record { above = least_at_lem xs 0 some; below = λ j h. absurd (omega arith) }

-- the greatest number that a word holds is such a one, of a row of words
pub low_most : (xs : List ℕ) → 0 < length xs → ((i : ℕ) → get_or xs i 0 ≤ 4294967295) → Low xs 0 4294967295
low_most xs some fits =
    let a = least_at_lem xs 0 some in
    let b = fits 0 in
    record { above = omega arith; below = λ j h. absurd (omega arith) }

pub low_more : (xs : List ℕ) (i low v : ℕ) → i < length xs → v ≡ min low (get_or xs i 0) → Low xs i low → Low xs (i + 1) v
low_more xs i low v h e f =
    let a = f.above in
    let b = least_at_lem xs i h in
    record { above = omega arith; below = λ j g. go j g (dec_lt j i) }
  where
    go : (j : ℕ) → j < i + 1 → Dec (j < i) → v ≤ get_or xs j 0
    go j g (yes l) = let b = f.below j l in omega arith
    go j g (no l) = let z : i ≡ j = omega arith in let y = ap (λ (m : ℕ). get_or xs m 0) z in omega arith

pub low_all : (xs : List ℕ) (i low : ℕ) → 0 < length xs → i ≡ length xs → Low xs i low → low ≡ least xs
low_all xs i low some e f =
    let a = f.above in
    let here = least_at_below xs some in
    let b = f.below (least_at xs) (omega arith) in
    let c = least_at_entry xs some in
    omega arith

-- the smallest entry of a column, among those of all
pub least_of : (cs : List (List ℕ)) (k : ℕ) → get_or (map least cs) k 0 ≡ least (get_or cs k [])
unfolding least
least_of cs k = get_or-map least cs k []

-- who holds a purge up, on columns
pub lagging_columns : (t : List ℕ) (p : ℕ) → form_of t ≡ Columns → lagging t p ≡ least_at (map least (node t p).columns)
unfolding lagging lows
lagging_columns t p form = ap (λ (f : Form). least_at (lows f (node t p))) form
