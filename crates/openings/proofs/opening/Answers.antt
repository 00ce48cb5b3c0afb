-- `openings::opening` meets its contract: both rows are the node's with the own entry changed; on columns there is one row.
use mathlib.Core.Path.{◌≡◌, refl, ap, ap₂, ◌∙◌}
use mathlib.Core.List.{List}
use Prim.Native.Nat.{ℕ, ◌+◌, ◌-◌, ◌≤◌, ◌<◌}
use lib.ListN.{take, drop, set}
use lib.Seq.{take-set-lt}
use Rattle.meaning.specs.Rows.{least}
use Rattle.meaning.specs.Table.{Form, Vectors, Columns, form_of, nodes_most, acks_wide, part, node, count, summary_at, acks_at, Sound}
use Rattle.meaning.specs.Node.{opened}
use Rattle.meaning.proofs.PlaceLaws.{part_lent}
use Rattle.meaning.proofs.PutLaws.{part-part}
use Rattle.meaning.proofs.TableLaws.{sound_facts}
use Rattle.openings.specs.declared.Reading.{Reading}
use Rattle.openings.specs.Begun.{Starts}
use Rattle.layout.proofs.FormLaws.{has_columns, has_vectors}
use Rattle.openings.proofs.opening.Goals as goal

-- the first n entries of a whole row that was changed in one of them
first : (t w : List ℕ) (at n i v : ℕ) → n ≤ nodes_most → i < n → w ≡ set (part at nodes_most t) i v → take n w ≡ set (part at n t) i v
first t w at n i v h g e = ap (take n) e ∙ take-set-lt n (part at nodes_most t) i v g ∙ ap (λ (z : List ℕ). set z i v) (part-part at nodes_most n t h)

-- no acknowledgement is read or kept where the table has columns
none : (f : Form) → f ≡ Columns → (t k : List ℕ) (at n m i v : ℕ) → take (acks_wide f n) k ≡ set (part at (acks_wide f m) t) i v
unfolding part
none f e t k at n m i v = rw e refl

-- all are where it has vectors
every :
    (f : Form) → f ≡ Vectors → (t k : List ℕ) (at n m i v : ℕ) → take n k ≡ set (part at m t) i v →
    take (acks_wide f n) k ≡ set (part at (acks_wide f m) t) i v
every f e t k at n m i v h = rw e h

module _ (t : List ℕ) (r : Reading) {at : ℕ} {row : List ℕ} (sd : Sound t) (here : r.node < count t) (ea : at ≡ summary_at (form_of t) r.node)
    (er : row ≡ set (part at nodes_most t) r.node r.time) where
  abbrev p : ℕ
  p = r.node

  abbrev c : ℕ
  c = r.time

  summary_is : take (count t) row ≡ set (node t p).summary p c
  unfolding node
  summary_is = first t row at (count t) p c sd.high here er ∙ ap (λ (x : ℕ). set (part x (count t) t) p c) ea

  starts :
      (k : List ℕ) → take (acks_wide (form_of t) (count t)) k ≡ set (node t p).acks p (least (set (node t p).summary p c)) → Starts t r row k
  unfolding opened
  starts k b =
      let a = summary_is in
      λ i. record { summary = a i; acks = b i; columns = set (node t p).columns p (a i); log = (node t p).log }

  on_columns : form_of t ≡ Columns → (k : List ℕ) → Starts t r row k
  unfolding node
  on_columns e k = starts k (none (form_of t) e t k (acks_at p) (count t) (count t) p _)

  on_vectors :
      form_of t ≡ Vectors → {n ka low : ℕ} (k : List ℕ) → n ≡ count t → ka ≡ acks_at p → low ≡ least (set (take ((at + n) - at) (drop at t)) p c) →
      k ≡ set (part ka nodes_most t) p low → Starts t r row k
  unfolding node
  on_vectors e {n} {ka} {low} k en ek el ef =
      let l : low ≡ least (set (node t p).summary p c) =
      el ∙ ap (λ (z : List ℕ). least (set z p c)) (part_lent at n t ∙ ap₂ (λ (x y : ℕ). part x y t) ea en)
      in
      let b : take (count t) k ≡ set (part (acks_at p) (count t) t) p (least (set (node t p).summary p c)) =
      first t k ka (count t) p low sd.high here ef ∙ ap (λ (x : ℕ). set (part x (count t) t) p low) ek ∙ ap (set (part (acks_at p) (count t) t) p) l
      in
      starts k (every (form_of t) e t k (acks_at p) (count t) (count t) p _ b)

pub returns-then-has_columns : goal.returns-then-has_columns
returns-then-has_columns c =
    let sd = sound_facts c.args.t.now.words.now c.args.t.now.is_sound in
    let form = has_columns (form_of c.args.t.now.words.now) c.has_columns.result c.has_columns.ensures c.if-has_columns.true in
    on_columns c.args.t.now.words.now c.args.reading sd c.requires
    c.summary_at-at.ensures.0 c.row_with.ensures form c.args.acks.now

pub returns : goal.returns
returns c =
    let sd = sound_facts c.args.t.now.words.now c.args.t.now.is_sound in
    let form = has_vectors (form_of c.args.t.now.words.now) c.has_columns.result c.has_columns.ensures c.if-has_columns.false in
    on_vectors c.args.t.now.words.now c.args.reading sd c.requires
    c.summary_at-at.ensures.0 c.row_with.ensures form c.row_with-2.new.row c.nodes.ensures.0
    c.acks_at.ensures c.least_with-low.ensures.0 c.row_with-2.ensures
