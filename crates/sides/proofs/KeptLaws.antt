-- A table whose rows are those of another, whatever its held numbers and logs are: what a side reads of its rows is the same in both.
use mathlib.Core.Path.{◌≡◌, refl, sym, ap, ap₂, ◌∙◌}
use mathlib.Core.List.{List}
use Prim.Native.Nat.{ℕ, ◌+◌, ◌≤◌, ◌<◌}
use native.Mathlib.Omega.{arith}
use lib.ListN.{length, get_or}
use Rattle.meaning.specs.Table.{
  Form,
  Vectors,
  Columns,
  form_of,
  nodes_most,
  column_at,
  summary_at,
  acks_at,
  held_at,
  columns_wide,
  part,
  columns_from,
  count,
  node,
}
use Rattle.meaning.proofs.PlaceLaws.{get_d_part}
use Rattle.meaning.proofs.ColumnLaws.{columns_same}
use Rattle.meaning.proofs.TableLaws.{form_same}
use Rattle.rows.proofs.EntryLaws.{entry_kept}
use Rattle.openings.specs.Begun.{OwnOnly}
use Rattle.openings.proofs.OwnLaws.{summary_inside}

-- the columns of a node, on vectors none
columns_kept :
    (f : Form) (t u : List ℕ) (n p : ℕ) → ((at k : ℕ) → at + k ≤ held_at f 0 → part at k u ≡ part at k t) → n ≤ nodes_most → p < n →
    columns_from (columns_wide f n) (column_at p 0) n u ≡ columns_from (columns_wide f n) (column_at p 0) n t
unfolding columns_from
columns_kept Vectors t u n p same hi h = refl
columns_kept Columns t u n p same hi h = columns_same n (column_at p 0) n t u (λ q j b e. same j n (omega arith))

module _ (t u : List ℕ) (long : length u ≡ length t) (same : (at k : ℕ) → at + k ≤ held_at (form_of t) 0 → part at k u ≡ part at k t) where
  pub kept_form : form_of u ≡ form_of t
  kept_form = form_same u t long

  pub kept_count : count u ≡ count t
  unfolding count
  kept_count =
      sym (get_d_part 0 1 u 0 0 refl (omega arith)) ∙ ap (λ (w : List ℕ). get_or w 0 0) (same 0 1 (omega arith)) ∙
      get_d_part 0 1 t 0 0 refl (omega arith)

  pub kept_columns : (p : ℕ) → count t ≤ nodes_most → p < count t → (node u p).columns ≡ (node t p).columns
  unfolding node
  kept_columns p hi h =
      ap₂ (λ (f : Form) (n : ℕ). columns_from (columns_wide f n) (column_at p 0) n u) kept_form kept_count ∙
      columns_kept (form_of t) t u (count t) p same hi h

  -- starting rows are the table's but for the own entries in both
  pub kept_own :
      (p : ℕ) (s k : List ℕ) → count t ≤ nodes_most → p < count t → length s ≡ count t → length k ≤ nodes_most → OwnOnly t p s k → OwnOnly u p s k
  kept_own p s k hi h ls lk own =
      let i = summary_inside (form_of t) p (omega arith) in
      let at = summary_at (form_of t) p in (
        rw kept_form (entry_kept t u s at p (same at (length s) (omega arith)) own.0),
        λ v.
            let w = ap (λ (f : Form). held_at f 0) (sym kept_form ∙ v) in
            entry_kept t u k (acks_at p) p (same (acks_at p) (length k) (omega arith)) (own.1 (sym kept_form ∙ v)),
      )
