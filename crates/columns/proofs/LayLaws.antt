-- Columns laid over a table: how long it is, what is read of it, one of them put anew, and the same columns laid twice.
use mathlib.Core.Path.{◌≡◌, refl, sym, ap, ◌∙◌}
use mathlib.Core.List.{List, [], ◌∷◌}
use Prim.Native.Nat.{ℕ, zero, suc, ◌+◌, ◌*◌, ◌≤◌, ◌<◌}
use native.Mathlib.Omega.{arith}
use lib.ListN.{length, get_or, set, length-set}
use Rattle.meaning.specs.Table.{
  Form,
  Columns,
  form_of,
  nodes_most,
  column_at,
  columns_wide,
  part,
  place,
  count,
  columns_from,
  node,
  piece,
  lay,
  column_pieces,
}
use Rattle.meaning.proofs.PlaceLaws.{length_part, place_comm, place_over}
use Rattle.meaning.proofs.PieceLaws.{Inside, inside_between, apart_between, length-lay, lay_away, lay_back}
use Rattle.meaning.proofs.ColumnLaws.{
  column_regions,
  between_columns,
  disjoint_columns,
  fills_columns,
  among_columns,
  length_columns,
  get_or_columns,
  columns_are,
  columns_same,
  lay_columns_same,
  lay_columns_set,
  set_columns_long,
}
use Rattle.columns.specs.Merged.{columns_of, brought, put_columns}

-- each column has n entries
abbrev pub Wide : ℕ → List (List ℕ) → Type 0
Wide n cs = (q : ℕ) → q < length cs → length (get_or cs q []) ≡ n

module _ (n : ℕ) (few : n ≤ 16) where
  module _ (t : List ℕ) (at : ℕ) (cs : List (List ℕ)) (fits : at + 16 * length cs ≤ length t) (wide : Wide n cs) where
    inside : Inside (length t) (column_regions (length cs) at n)
    inside =
        inside_between at (at + 16 * length cs) (length t) (column_regions (length cs) at n)
        (between_columns (length cs) at n at (at + 16 * length cs) few (omega arith) (omega arith)) fits

    pub length-lay_columns : length (lay (column_pieces at cs) t) ≡ length t
    length-lay_columns = length-lay (column_pieces at cs) (column_regions (length cs) at n) t (fills_columns cs (length cs) at n refl wide) inside

    -- a column is read again, and what lies apart from all of them is as it was
    pub lay_columns_back : (q j : ℕ) → q < length cs → j ≡ at + 16 * q → part j n (lay (column_pieces at cs) t) ≡ get_or cs q []
    lay_columns_back q j h e =
        ap (λ (m : ℕ). part j m (lay (column_pieces at cs) t)) (sym (wide q h)) ∙
        lay_back (column_pieces at cs) (column_regions (length cs) at n) t (fills_columns cs (length cs) at n refl wide) inside
        (disjoint_columns (length cs) at n few) (piece j (get_or cs q [])) (among_columns cs at q j h e)

    pub lay_columns_away :
        (a k : ℕ) → a + k ≤ length t → (a < at + 16 * length cs → at < a + k → ⊥) → part a k (lay (column_pieces at cs) t) ≡ part a k t
    lay_columns_away a k w out =
        lay_away (column_pieces at cs) (column_regions (length cs) at n) t (fills_columns cs (length cs) at n refl wide) inside a k w
        (apart_between at (at + 16 * length cs) a k (column_regions (length cs) at n)
        (between_columns (length cs) at n at (at + 16 * length cs) few (omega arith) (omega arith)) out)

  -- one column put over those that were laid
  pub lay_columns_put :
      (t : List ℕ) (at : ℕ) (cs : List (List ℕ)) → at + 16 * length cs ≤ length t → Wide n cs → (i j : ℕ) (y : List ℕ) → length y ≡ n →
      i < length cs → j ≡ at + 16 * i → place j y (lay (column_pieces at cs) t) ≡ lay (column_pieces at (set cs i y)) t
  unfolding lay column_pieces
  lay_columns_put t at [] fits wide i j y l h e = absurd (omega arith)
  lay_columns_put t at (c ∷ cs) fits wide zero j y l h e =
      let f : j ≡ at = omega arith in
      let lc = wide 0 (omega arith) in
      let lr = length-lay_columns t (at + 16) cs (omega arith) (λ q g. wide (suc q) (omega arith)) in
      ap (λ (m : ℕ). place m y (place at c (lay (column_pieces (at + 16) cs) t))) f ∙
      place_over at y c (lay (column_pieces (at + 16) cs) t) (omega arith) (omega arith)
  lay_columns_put t at (c ∷ cs) fits wide (suc i) j y l h e =
      let lc = wide 0 (omega arith) in
      let rest : Wide n cs = λ q g. wide (suc q) (omega arith) in
      let lr = length-lay_columns t (at + 16) cs (omega arith) rest in
      place_comm j at y c (lay (column_pieces (at + 16) cs) t) (omega arith) (omega arith) (λ u v. omega arith) ∙
      ap (place at c) (lay_columns_put t (at + 16) cs (omega arith) rest i j y l (omega arith) (omega arith))

  -- a list put before the columns are laid: apart from them it may as well be put after, and where one of them goes it is not seen
  pub lay_columns_first :
      (t : List ℕ) (at : ℕ) (cs : List (List ℕ)) → at + 16 * length cs ≤ length t → Wide n cs → (j : ℕ) (y : List ℕ) →
      j + length y ≤ at → lay (column_pieces at cs) (place j y t) ≡ place j y (lay (column_pieces at cs) t)
  unfolding lay column_pieces
  lay_columns_first t at [] fits wide j y h = refl
  lay_columns_first t at (c ∷ cs) fits wide j y h =
      let lc = wide 0 (omega arith) in
      let rest : Wide n cs = λ q g. wide (suc q) (omega arith) in
      let lr = length-lay_columns t (at + 16) cs (omega arith) rest in
      ap (place at c) (lay_columns_first t (at + 16) cs (omega arith) rest j y (omega arith)) ∙
      place_comm at j c y (lay (column_pieces (at + 16) cs) t) (omega arith) (omega arith) (λ u v. omega arith)

  pub lay_columns_over :
      (t : List ℕ) (at : ℕ) (cs : List (List ℕ)) → at + 16 * length cs ≤ length t → Wide n cs → (i j : ℕ) (y : List ℕ) → length y ≡ n →
      i < length cs → j ≡ at + 16 * i → lay (column_pieces at cs) (place j y t) ≡ lay (column_pieces at cs) t
  unfolding lay column_pieces
  lay_columns_over t at [] fits wide i j y l h e = absurd (omega arith)
  lay_columns_over t at (c ∷ cs) fits wide zero j y l h e =
      let f : j ≡ at = omega arith in
      let lc = wide 0 (omega arith) in
      let rest : Wide n cs = λ q g. wide (suc q) (omega arith) in
      let lr = length-lay_columns t (at + 16) cs (omega arith) rest in
      ap (place at c)
      (lay_columns_first t (at + 16) cs (omega arith) rest j y (omega arith) ∙
      ap (λ (m : ℕ). place m y (lay (column_pieces (at + 16) cs) t)) f) ∙
      place_over at c y (lay (column_pieces (at + 16) cs) t) (omega arith) (omega arith)
  lay_columns_over t at (c ∷ cs) fits wide (suc i) j y l h e =
      ap (place at c) (lay_columns_over t (at + 16) cs (omega arith) (λ q g. wide (suc q) (omega arith)) i j y l (omega arith) (omega arith))

-- The columns of a node ----------------------------------------------------------------------------------------------------------------------

-- as a node has them, in a table of columns
pub node_columns_are : (t : List ℕ) (p n : ℕ) → form_of t ≡ Columns → n ≡ count t → (node t p).columns ≡ columns_of n p t
unfolding node
node_columns_are t p n form e =
    ap (λ (f : Form). columns_from (columns_wide f (count t)) (column_at p 0) (count t) t) form ∙
    ap (λ (m : ℕ). columns_from m (column_at p 0) m t) (sym e)

-- n columns of one of at most 16 nodes, in a table that has room for all
module _ (t : List ℕ) (n p : ℕ) (room : column_at nodes_most 0 ≤ length t) (few : n ≤ nodes_most) (there : p < nodes_most) where
  pub length-columns_of : length (columns_of n p t) ≡ n
  length-columns_of = length_columns n (column_at p 0) n t

  pub get_or-columns_of : (k : ℕ) → k < n → get_or (columns_of n p t) k [] ≡ part (column_at p k) n t
  get_or-columns_of k h = get_or_columns n (column_at p 0) n t k (column_at p k) h (omega arith)

  pub wide-columns_of : Wide n (columns_of n p t)
  wide-columns_of q h =
      let l = length-columns_of in
      ap length (get_or-columns_of q (omega arith)) ∙ length_part (column_at p q) n t (omega arith)

  -- those that it brings to a session
  pub length-brought : (own : List ℕ) → length (brought n p own t) ≡ n
  length-brought own = length-set (columns_of n p t) p own ∙ length-columns_of

  pub wide-brought : (own : List ℕ) → length own ≡ n → Wide n (brought n p own t)
  wide-brought own l = set_columns_long (columns_of n p t) n p own l wide-columns_of

  -- other columns put there
  module _ (cs : List (List ℕ)) (long : length cs ≡ n) (wide : Wide n cs) where
    pub length_put : length (put_columns p cs t) ≡ length t
    length_put = length-lay_columns n few t (column_at p 0) cs (omega arith) wide

    pub put_back : (k : ℕ) → k < n → part (column_at p k) n (put_columns p cs t) ≡ get_or cs k []
    put_back k h = lay_columns_back n few t (column_at p 0) cs (omega arith) wide k (column_at p k) (omega arith) (omega arith)

    pub columns_put : columns_of n p (put_columns p cs t) ≡ cs
    columns_put =
        columns_are cs n (column_at p 0) n (put_columns p cs t) long
        (λ k j h e. lay_columns_back n few t (column_at p 0) cs (omega arith) wide k j (omega arith) e)

    pub put_other : (q : ℕ) → q < nodes_most → (p ≡ q → ⊥) → columns_of n q (put_columns p cs t) ≡ columns_of n q t
    put_other q h apart =
        columns_same n (column_at q 0) n t (put_columns p cs t)
        (λ k j g e. lay_columns_away n few t (column_at p 0) cs (omega arith) wide j n (omega arith) (λ a b. apart (omega arith)))

    pub put_one : (k : ℕ) (y : List ℕ) → k < n → length y ≡ n → place (column_at p k) y (put_columns p cs t) ≡ put_columns p (set cs k y) t
    put_one k y h l = lay_columns_put n few t (column_at p 0) cs (omega arith) wide k (column_at p k) y l (omega arith) (omega arith)

    pub put_over : (k : ℕ) (y : List ℕ) → k < n → length y ≡ n → put_columns p cs (place (column_at p k) y t) ≡ put_columns p cs t
    put_over k y h l = lay_columns_over n few t (column_at p 0) cs (omega arith) wide k (column_at p k) y l (omega arith) (omega arith)

  -- those that stand there, and one of them changed
  pub put_same : put_columns p (columns_of n p t) t ≡ t
  put_same = lay_columns_same n t t n (column_at p 0) (omega arith) few (λ q j h e. refl)

  pub put_set : (k : ℕ) (y : List ℕ) → k < n → length y ≡ n → put_columns p (set (columns_of n p t) k y) t ≡ place (column_at p k) y t
  put_set k y h l = lay_columns_set n t t n (column_at p 0) k (column_at p k) y (omega arith) few l h (omega arith) (λ q j g e. refl)
