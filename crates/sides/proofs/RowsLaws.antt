-- What a side puts for its rows, by the form of the table: both vectors, or its columns.
use mathlib.Core.Path.{◌≡◌, refl, sym, ap, ap₂, ◌∙◌}
use mathlib.Core.Bool.{true}
use mathlib.Core.List.{List, []}
use Prim.Native.Nat.{ℕ, ◌+◌, ◌≤◌, ◌<◌}
use native.Mathlib.Omega.{arith}
use lib.ListN.{length, get_or, set}
use Rattle.meaning.specs.declared.Record.{Record}
use Rattle.meaning.specs.Rows.{raise, raise_each}
use Rattle.meaning.specs.Table.{
  Form,
  Vectors,
  Columns,
  form_of,
  form_words,
  Node,
  nodes_most,
  column_at,
  summary_at,
  acks_at,
  acks_wide,
  columns_wide,
  row_pieces,
  column_pieces,
  lay,
  part,
  place,
  columns_from,
  count,
  node,
}
use Rattle.meaning.specs.Node.{learnt, finished}
use Rattle.meaning.proofs.PlaceLaws.{length-place, part_away, place_comm}
use Rattle.meaning.proofs.ColumnLaws.{lay_columns_set}
use Rattle.meaning.proofs.TableLaws.{form_same}
use Rattle.rows.specs.Entry.{OneEntry}
use Rattle.rows.proofs.EntryLaws.{entry_kept}
use Rattle.columns.specs.Merged as joins
use Rattle.openings.specs.declared.Start.{Start}
use Rattle.openings.specs.Begun.{begins}
use Rattle.openings.proofs.OwnLaws.{summary_inside}
use Rattle.sides.specs.Ended.{rows_put, settled, Settles, Merges}

-- the rows of one form
lay_vectors :
    (f : Form) → f ≡ Vectors → (p : ℕ) (x : Node) (t : List ℕ) →
    lay (row_pieces f p x) t ≡ place (summary_at f p) x.summary (place (acks_at p) x.acks t)
unfolding lay
lay_vectors f e p x t = rw e refl

lay_columns : (f : Form) → f ≡ Columns → (p : ℕ) (x : Node) (t : List ℕ) → lay (row_pieces f p x) t ≡ lay (column_pieces (column_at p 0) x.columns) t
lay_columns f e p x t = rw e refl

-- on vectors a node has no column
no_column : (f : Form) → f ≡ Vectors → (at n : ℕ) (t : List ℕ) → columns_from (columns_wide f n) at n t ≡ []
unfolding columns_from
no_column f e at n t = rw e refl

columns_none : (t : List ℕ) (p : ℕ) → form_of t ≡ Vectors → (node t p).columns ≡ []
unfolding node
columns_none t p e = no_column (form_of t) e (column_at p 0) (count t) t

-- on columns one for each node
columns_all : (t : List ℕ) (p : ℕ) → form_of t ≡ Columns → (node t p).columns ≡ columns_from (count t) (column_at p 0) (count t) t
unfolding node
columns_all t p e = ap (λ (f : Form). columns_from (columns_wide f (count t)) (column_at p 0) (count t) t) e

-- on vectors the summary takes the partner's alone
learnt_vectors :
    (t : List ℕ) (x y : Start) (l m : List Record) → form_of t ≡ Vectors →
    learnt x.node (begins t x l) (begins t y m) ≡ raise x.summary.now y.summary.now
unfolding learnt raise_each
learnt_vectors t x y l m e =
    let p = x.node in
    let s = x.summary.now in
    let theirs = set (node t y.node).columns y.node y.summary.now in
    ap (λ (cs : List (List ℕ)). raise (get_or (raise_each (set cs p s) theirs) p s) y.summary.now) (columns_none t p e)

-- A side that does not finish: its starting rows
module _ {t : List ℕ} {x : Start} (s : Settles t x) where
  abbrev p : ℕ
  p = x.node

  abbrev sp : List ℕ
  sp = x.summary.now

  abbrev kp : List ℕ
  kp = x.acks.now

  summary_fits : summary_at (form_of t) p + nodes_most ≤ length t
  summary_fits =
      let l = s.long in
      let h = s.fits.here in
      let g = s.high in
      let i = summary_inside (form_of t) p (omega arith) in
      omega arith

  pub summary_put : (at : ℕ) → at ≡ summary_at (form_of t) p → (at + length sp ≤ length t) × (p < length sp) × OneEntry t at p sp
  summary_put at e =
      let h = s.fits.here in
      let g = s.high in
      let l = s.fits.summary_long in
      let i = summary_fits in
      (omega arith, omega arith, rw e s.opens.0)

  -- the summary put leaves the form
  pub put_form_kept : (at : ℕ) (u : List ℕ) → at ≡ summary_at (form_of t) p → u ≡ place at sp t → form_of u ≡ form_of t
  put_form_kept at u e eu = form_same u t (ap length eu ∙ length-place at sp t (summary_put at e).0)

  pub settled_columns : form_of t ≡ Columns → (at : ℕ) → at ≡ summary_at (form_of t) p → place at sp t ≡ settled t x
  settled_columns f at e =
      let l = s.long ∙ ap form_words f in
      let h = s.fits.here in
      let hi = s.high in
      ap (λ (i : ℕ). place i sp t) (e ∙ ap (λ (g : Form). summary_at g p) f) ∙
      sym
      (lay_columns (form_of t) f p (begins t x []) t ∙
      ap (λ (cs : List (List ℕ)). lay (column_pieces (column_at p 0) (set cs p sp)) t) (columns_all t p f) ∙
      lay_columns_set (count t) t t (count t) (column_at p 0) p (column_at p p) sp (omega arith) hi s.fits.summary_long h (omega arith) (λ q j b d. refl))

  module _ (f : form_of t ≡ Vectors) where
    acks_long_lem : (length kp ≡ count t) × (length t ≡ form_words Vectors)
    acks_long_lem = (s.fits.acks_long ∙ ap (λ (g : Form). acks_wide g (count t)) f, s.long ∙ ap form_words f)

    pub acks_fit : (at : ℕ) → at ≡ acks_at p → at + length kp ≤ length t
    acks_fit at e =
        let l = acks_long_lem in
        let a = l.0 in
        let b = l.1 in
        let h = s.fits.here in
        let g = s.high in
        omega arith

    -- the acknowledgements stand apart from the summary
    away : (at ka : ℕ) → at ≡ summary_at (form_of t) p → ka ≡ acks_at p → ka < at + length sp → at < ka + length kp → ⊥
    away at ka e ek before behind =
        let v : at ≡ summary_at Vectors p = e ∙ ap (λ (g : Form). summary_at g p) f in
        let h = s.fits.here in
        let g = s.high in
        let l = s.fits.summary_long in
        omega arith

    pub acks_then :
        (at ka : ℕ) (u : List ℕ) → at ≡ summary_at (form_of t) p → ka ≡ acks_at p → u ≡ place at sp t →
        (ka + length kp ≤ length u) × (p < length kp) × OneEntry u ka p kp
    acks_then at ka u e ek eu =
        let fits = (summary_put at e).0 in
        let i = acks_fit ka ek in
        let long : length u ≡ length t = ap length eu ∙ length-place at sp t fits in
        let there : part ka (length kp) u ≡ part ka (length kp) t = ap (part ka (length kp)) eu ∙ part_away ka (length kp) at sp t fits i (away at ka e ek) in
        let l = acks_long_lem.0 in
        let h = s.fits.here in
        (rw long i, omega arith, entry_kept t u kp ka p there (rw ek (s.opens.1 f)))

    pub settled_vectors :
        (at ka : ℕ) (u v : List ℕ) → at ≡ summary_at (form_of t) p → ka ≡ acks_at p → u ≡ place at sp t → v ≡ place ka kp u → v ≡ settled t x
    settled_vectors at ka u v e ek eu ev =
        ev ∙ ap (place ka kp) eu ∙
        place_comm ka at kp sp t (acks_fit ka ek) (summary_put at e).0 (away at ka e ek) ∙
        ap₂ (λ (i j : ℕ). place i sp (place j kp t)) e ek ∙
        sym (lay_vectors (form_of t) f p (begins t x []) t)

-- A side that finishes
module _ {t : List ℕ} {x y : Start} (m : Merges t x y) where
  abbrev mine : List ℕ
  mine = x.summary.now

  abbrev theirs : List ℕ
  theirs = y.summary.now

  module _ (f : form_of t ≡ Columns) where
    pub columns_ready : joins.Merges t x.node y.node (length mine) mine theirs
    columns_ready =
        let n = m.settles.fits.summary_long in
        record {
          long = m.settles.long;
          form = f;
          high = m.settles.high;
          nodes = n;
          mine = rw n m.settles.fits.here;
          theirs = rw n m.fits.here;
          apart = m.apart;
          own = refl;
          wide = m.fits.summary_long ∙ sym n;
          entry = rw f at m.settles.opens.0;
        }

    pub finished_columns :
        (v : List ℕ) →
        v ≡ joins.put_columns x.node (joins.joined x.node mine theirs (set (node t x.node).columns x.node mine) (set (node t y.node).columns y.node theirs)) t →
        v ≡ rows_put true x.node (begins t x []) (begins t y []) t
    unfolding finished learnt
    finished_columns v ev = ev ∙ sym (lay_columns (form_of t) f x.node (finished x.node (begins t x []) (begins t y [])) t)

  module _ (f : form_of t ≡ Vectors) where
    pub acks_raise : (at : ℕ) → at ≡ acks_at x.node → (at + length x.acks.now ≤ length t) × (length y.acks.now ≡ length x.acks.now)
    acks_raise at e = (acks_fit m.settles f at e, m.fits.acks_long ∙ sym m.settles.fits.acks_long)

    pub finished_vectors :
        (at ka : ℕ) (u v : List ℕ) → at ≡ summary_at (form_of t) x.node → ka ≡ acks_at x.node → u ≡ place ka (raise x.acks.now y.acks.now) t →
        v ≡ place at (raise mine theirs) u → v ≡ rows_put true x.node (begins t x []) (begins t y []) t
    unfolding finished
    finished_vectors at ka u v e ek eu ev =
        let acks = raise x.acks.now y.acks.now in
        ev ∙ ap₂ (λ (i : ℕ) (z : List ℕ). place i (raise mine theirs) z) e (eu ∙ ap (λ (i : ℕ). place i acks t) ek) ∙
        ap (λ (z : List ℕ). place (summary_at (form_of t) x.node) z (place (acks_at x.node) acks t))
        (sym (learnt_vectors t x y [] [] f)) ∙
        sym (lay_vectors (form_of t) f x.node (finished x.node (begins t x []) (begins t y [])) t)
