-- A node's starting rows are its rows in the table but for its own entries.
use mathlib.Core.Path.{◌≡◌, sym, ap, ap₂, ◌∙◌}
use mathlib.Core.List.{List}
use Prim.Native.Nat.{ℕ, ◌+◌, ◌≤◌, ◌<◌}
use native.Mathlib.Omega.{arith}
use lib.ListN.{length, take}
use Rattle.meaning.specs.Rows.{least}
use Rattle.meaning.specs.Table.{
  Form,
  Vectors,
  Columns,
  form_of,
  form_words,
  nodes_most,
  Node,
  acks_wide,
  summary_at,
  acks_at,
  held_at,
  part,
  count,
  node,
  Sound,
}
use Rattle.meaning.specs.Node.{opened}
use Rattle.meaning.proofs.TableLaws.{node_shaped}
use Rattle.meaning.proofs.StepLaws.{opened_shaped}
use Rattle.rows.proofs.EntryLaws.{entry_set, entry_kept}
use Rattle.openings.specs.declared.Reading.{Reading}
use Rattle.openings.specs.declared.Start.{Start}
use Rattle.openings.specs.Begun.{begun, Starts, OwnOnly, Fits, Opens}

-- a summary stands among the rows
pub summary_inside : (f : Form) (p : ℕ) → p < nodes_most → summary_at f p + nodes_most ≤ held_at f 0
summary_inside Vectors p h = omega arith
summary_inside Columns p h = omega arith

pub own_starts :
    (t : List ℕ) → Sound t → (r : Reading) → r.node < count t → (s k : List ℕ) → Starts t r s k →
    OwnOnly t r.node (take (count t) s) (take (acks_wide (form_of t) (count t)) k)
unfolding opened node
own_starts t sd r h s k e =
    let p = r.node in
    let l = sd.long in
    let g = sd.high in
    let i = summary_inside (form_of t) p (omega arith) in (
      entry_set t (take (count t) s) (summary_at (form_of t) p) (count t) p r.time (omega arith) h (ap (λ (x : Node). x.summary) e),
      λ v.
          let w : acks_wide (form_of t) (count t) ≡ count t = ap (λ (f : Form). acks_wide f (count t)) v in
          let lv : length t ≡ form_words Vectors = l ∙ ap form_words v in
          entry_set t (take (acks_wide (form_of t) (count t)) k) (acks_at p) (acks_wide (form_of t) (count t)) p
          (least (opened p r.time (node t p)).summary) (omega arith) (omega arith) (ap (λ (x : Node). x.acks) e),
    )

-- they are so too in a table with the same node
pub own_kept :
    (t u : List ℕ) (p : ℕ) (s k : List ℕ) → (length s ≡ count t) × (length k ≡ acks_wide (form_of t) (count t)) → form_of u ≡ form_of t →
    count u ≡ count t → node u p ≡ node t p → OwnOnly t p s k → OwnOnly u p s k
unfolding node
own_kept t u p s k long form many same own =
    let row : (at m n l : ℕ) → m ≡ l → n ≡ l → part at m u ≡ part at l t → part at n u ≡ part at n t = λ at m n l e d f. rw d (rw e at f) in
    let at = summary_at (form_of t) p in
    let there : part at (count u) u ≡ part at (count t) t = rw form at (ap (λ (x : Node). x.summary) same) in
    let wide : acks_wide (form_of u) (count u) ≡ acks_wide (form_of t) (count t) = ap₂ acks_wide form many in (
      rw form (entry_kept t u s at p (row at (count u) (length s) (count t) many long.0 there) own.0),
      λ v.
          entry_kept t u k (acks_at p) p (row (acks_at p) _ (length k) _ wide long.1 (ap (λ (x : Node). x.acks) same)) (own.1 (sym form ∙ v)),
    )

-- The first entries of two rows are lent, n of a summary, and as many acknowledgements as the form has: they are a node's starting values
module _ (t : List ℕ) (r : Reading) (n w : ℕ) (s k : List ℕ) (en : n ≡ count t) (ew : w ≡ acks_wide (form_of t) (count t)) (e : Starts t r s k) where
  pub lent_begins : begun t r.node (take n s) (take w k) (node t r.node).log ≡ opened r.node r.time (node t r.node)
  lent_begins = ap₂ (λ (i j : ℕ). begun t r.node (take i s) (take j k) (node t r.node).log) en ew ∙ e

  -- a start with these rows
  module _ (sd : Sound t) (h : r.node < count t) (x : Start) (ep : x.node ≡ r.node) (es : x.summary.now ≡ take n s) (ek : x.acks.now ≡ take w k) where
    pub lent_fits : Fits t x
    lent_fits =
        let f = opened_shaped (form_of t) (count t) r.node (node t r.node) (node_shaped t sd r.node h) r.time in
        record {
          here = rw ep h;
          summary_long = rw es (ap (λ (z : Node). length z.summary) lent_begins ∙ f.summary_long);
          acks_long = rw ek (ap (λ (z : Node). length z.acks) lent_begins ∙ f.acks_long);
        }

    pub lent_opens : Opens t x
    lent_opens = rw (ep, es, ek, en, ew) (own_starts t sd r h s k e)
