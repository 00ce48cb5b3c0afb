-- Laws of what a purge goes by, as code works it out once before it asks each record: on vectors a number, on columns a row of smallest entries.
use mathlib.Core.Path.{◌≡◌, refl, sym, ap, ◌∙◌}
use mathlib.Core.Bool.{Bool, not, ◌&&◌, and-true}
use mathlib.Core.List.{List, [], ◌∷◌}
use Prim.Native.Nat.{ℕ, zero, suc, ◌≤◌, ◌<◌, min}
use native.Mathlib.Omega.{arith}
use native.Mathlib.Decide.{dec_le}
use borrow.Author.Tests.{le-leb, lt-leb}
use lib.ListN.{length, get_or}
use lib.Dec.{leb}
use Rattle.meaning.specs.declared.Record.{Record}
use Rattle.meaning.specs.Rows.{all, lower, lowest, covers, newer, above}
use Rattle.meaning.specs.Table.{Form, Vectors, Columns, form_of, count, mark, node, Sound, Shaped}
use Rattle.meaning.specs.Node.{purged, leaves}
use Rattle.meaning.specs.Steps.{limit, leaving}
use Rattle.meaning.proofs.TableLaws.{node_shaped}
use Rattle.meaning.proofs.AccountLaws.{keep_same, entry}

-- the smaller of two rows
length-lower : (xs ys : List ℕ) (n : ℕ) → length xs ≡ n → length ys ≡ n → length (lower xs ys) ≡ n
unfolding lower
length-lower [] ys n p q = p
length-lower (x ∷ xs) [] n p q = absurd (omega arith)
length-lower (x ∷ xs) (y ∷ ys) zero p q = absurd (omega arith)
length-lower (x ∷ xs) (y ∷ ys) (suc n) p q = ap suc (length-lower xs ys n (omega arith) (omega arith))

lower_entry : (xs ys : List ℕ) (i : ℕ) → length xs ≡ length ys → entry (lower xs ys) i ≡ min (entry xs i) (entry ys i)
unfolding lower
lower_entry [] [] i h = omega arith
lower_entry [] (y ∷ ys) i h = absurd (omega arith)
lower_entry (x ∷ xs) [] i h = absurd (omega arith)
lower_entry (x ∷ xs) (y ∷ ys) zero h = refl
lower_entry (x ∷ xs) (y ∷ ys) (suc i) h = lower_entry xs ys i (omega arith)

leb-min : (t a b : ℕ) → leb t (min a b) ≡ (leb t a && leb t b)
leb-min t a b = go (dec_le t a) (dec_le t b)
  where
    go : Dec (t ≤ a) → Dec (t ≤ b) → leb t (min a b) ≡ (leb t a && leb t b)
    go (yes p) (yes q) = rw (le-leb t a p, le-leb t b q) (le-leb t (min a b) (omega arith))
    go (yes p) (no q) = rw (le-leb t a p, lt-leb t b (omega arith)) (lt-leb t (min a b) (omega arith))
    go (no p) q = rw (lt-leb t a (omega arith)) (lt-leb t (min a b) (omega arith))

-- it covers what both cover
covers-lower : (xs ys : List ℕ) (r : Record) → length xs ≡ length ys → covers (lower xs ys) r ≡ (covers xs r && covers ys r)
unfolding covers
covers-lower xs ys r h =
    ap (leb r.timestamp) (lower_entry xs ys r.origin h) ∙ leb-min r.timestamp (entry xs r.origin) (entry ys r.origin)

-- the smallest of all columns has n entries too, and covers what every column covers
module _ (n : ℕ) where
  pub length-lowest :
      (cs : List (List ℕ)) → 0 < length cs → ((q : ℕ) → q < length cs → length (get_or cs q []) ≡ n) → length (lowest cs) ≡ n
  unfolding lowest
  length-lowest [] some long = absurd (omega arith)
  length-lowest (c ∷ []) some long = long 0 (omega arith)
  length-lowest (c ∷ (d ∷ ds)) some long =
      length-lower c (lowest (d ∷ ds)) n (long 0 (omega arith)) (length-lowest (d ∷ ds) (omega arith) (λ q h. long (suc q) (omega arith)))

  pub covers-lowest :
      (cs : List (List ℕ)) (r : Record) → 0 < length cs → ((q : ℕ) → q < length cs → length (get_or cs q []) ≡ n) →
      all (λ (c : List ℕ). covers c r) cs ≡ covers (lowest cs) r
  unfolding all lowest
  covers-lowest [] r some long = absurd (omega arith)
  covers-lowest (c ∷ []) r some long = and-true (covers c r)
  covers-lowest (c ∷ (d ∷ ds)) r some long =
      let rest : (q : ℕ) → q < length (d ∷ ds) → length (get_or (d ∷ ds) q []) ≡ n = λ q h. long (suc q) (omega arith) in
      ap (λ (b : Bool). covers c r && b) (covers-lowest (d ∷ ds) r (omega arith) rest) ∙
      sym (covers-lower c (lowest (d ∷ ds)) r (long 0 (omega arith) ∙ sym (length-lowest (d ∷ ds) (omega arith) rest)))

-- What is left of a log: on vectors what is above the limit
pub purged_vectors : (t : List ℕ) (p : ℕ) → form_of t ≡ Vectors → (purged (leaving t p) (node t p)).log ≡ above (limit t p) (node t p).log
unfolding purged above leaving leaves limit
purged_vectors t p form =
    keep_same (λ r. not (leaves (form_of t) (mark t p) (node t p) r)) (λ r. not (leb r.timestamp (limit t p))) (node t p).log
    (λ r h. ap (λ (f : Form). not (leaves f (mark t p) (node t p) r)) form)

-- and on columns what the smallest of all columns does not cover
pub purged_columns :
    (t : List ℕ) → Sound t → (p : ℕ) → p < count t → form_of t ≡ Columns →
    (purged (leaving t p) (node t p)).log ≡ newer (lowest (node t p).columns) (node t p).log
unfolding purged newer leaving leaves
purged_columns t s p h form =
    let x = node t p in
    let fits : Shaped Columns (count t) p x = rw form at (node_shaped t s p h) in
    let wide = fits.columns_long in
    keep_same (λ r. not (leaves (form_of t) (mark t p) x r)) (λ r. not (covers (lowest x.columns) r)) x.log
    (λ r g.
    ap (λ (f : Form). not (leaves f (mark t p) x r)) form ∙
    ap not (covers-lowest (count t) x.columns r (omega arith) fits.column_long))
