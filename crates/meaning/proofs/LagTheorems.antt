-- Who holds a purge up. Document 02, T-02 and T-06: the node told is one of the table's; no node's acknowledgement, or no column's smallest entry, is
-- smaller than its own, and every lower node's is greater; a purge changes nothing that it goes by; and no refused purge tells one.
-- On vectors its acknowledgement is what the purge goes by beside the mark, and every record that was delivered here and that the purge leaves has a
-- timestamp above it, so that node is what holds it (T-04: what was not delivered stays all the same). On columns the node told has the smallest of all
-- entries, and every record that the purge leaves has some column whose entry for its origin is below its timestamp, so that column is what holds it.
use mathlib.Core.Path.{◌≡◌, sym, ap, ◌∙◌, subst, refl}
use mathlib.Core.Bool.{true, false}
use mathlib.Core.List.{List, [], ◌∷◌, map}
use Prim.Native.Nat.{ℕ, zero, suc, ◌≤◌, ◌<◌, min}
use native.Mathlib.Omega.{arith}
use borrow.Author.Tests.{leb-false}
use lib.ListN.{length, get_or}
use Rattle.meaning.specs.declared.Record.{Record}
use Rattle.meaning.specs.declared.Action.TheVariants.{Purge}
use Rattle.meaning.specs.Rows.{least, covers}
use Rattle.meaning.specs.Table.{Form, Vectors, Columns, form_of, Node, count, mark, node, Shaped}
use Rattle.meaning.specs.Node.{purged, limit_of, leaves, lows}
use Rattle.meaning.specs.Account.{has}
use Rattle.meaning.specs.Steps.{refusal, limit, leaving, lagging, acted, reported, reply, after, reply_values}
use Rattle.meaning.proofs.RowLaws.{all_not, least_at_below, least_at_entry, least_at-first}
use Rattle.meaning.proofs.TableLaws.{node_shaped, node_same}
use Rattle.meaning.proofs.StepLaws.{may_purge, purge_shaped, purge_mark, after-accepted}
use Rattle.meaning.proofs.AccountLaws.{entry, least_le, keep_left, not_covers_lt}

-- the smallest entry of each of some columns
length-lowest : (cs : List (List ℕ)) → length (map least cs) ≡ length cs
length-lowest [] = refl
length-lowest (c ∷ cs) = ap suc (length-lowest cs)

get_or-lowest : (cs : List (List ℕ)) (q : ℕ) → q < length cs → get_or (map least cs) q 0 ≡ least (get_or cs q [])
get_or-lowest [] q h = absurd (omega arith)
get_or-lowest (c ∷ cs) zero h = refl
get_or-lowest (c ∷ cs) (suc q) h = get_or-lowest cs q (omega arith)

-- one for each node, in either form
lows_long : (f : Form) (n p : ℕ) (x : Node) → Shaped f n p x → length (lows f x) ≡ n
unfolding lows
lows_long Vectors n p x fits = fits.acks_long
lows_long Columns n p x fits = length-lowest x.columns ∙ fits.columns_long

module _ (t : List ℕ) (p : ℕ) (k : refusal t (Purge p) ≡ 0) where
  fits : Shaped (form_of t) (count t) p (node t p)
  fits = let m = may_purge t p k in node_shaped t m.is_sound p m.here

  -- what each node's acknowledgement, or column, is at the smallest
  abbrev pub low : ℕ → ℕ
  low q = entry (lows (form_of t) (node t p)) q

  wide : length (lows (form_of t) (node t p)) ≡ count t
  wide = lows_long (form_of t) (count t) p (node t p) fits

  some : 0 < length (lows (form_of t) (node t p))
  some =
      let m = may_purge t p k in
      let least = m.is_sound.low in
      let e = wide in
      omega arith

  -- the node that lags is one of the table's
  pub lagging-node : lagging t p < count t
  unfolding lagging
  lagging-node =
      let e = wide in
      let below = least_at_below (lows (form_of t) (node t p)) some in
      omega arith

  lagging_is : low (lagging t p) ≡ least (lows (form_of t) (node t p))
  unfolding lagging
  lagging_is = least_at_entry (lows (form_of t) (node t p)) some

  -- none is smaller, and every lower node's is greater
  pub lagging-least : (q : ℕ) → q < count t → low (lagging t p) ≤ low q
  lagging-least q h =
      let e = wide in
      let is = lagging_is in
      let under = least_le (lows (form_of t) (node t p)) q (omega arith) in
      omega arith

  pub lagging-first : (q : ℕ) → q < lagging t p → low (lagging t p) < low q
  unfolding lagging
  lagging-first q h =
      let first = least_at-first (lows (form_of t) (node t p)) q h in
      let is = lagging_is in
      omega arith

  left : node (after t (Purge p)) p ≡ purged (leaving t p) (node t p)
  unfolding acted
  left =
      let m = may_purge t p k in
      ap (λ (u : List ℕ). node u p) (after-accepted t (Purge p) k) ∙
      node_same t m.is_sound p m.here (purged (leaving t p) (node t p)) (purge_shaped t p m)

  -- a purge changes no acknowledgement and no column: the keeper reads afterwards what it went by
  pub purge_acks : (node (after t (Purge p)) p).acks ≡ (node t p).acks
  unfolding purged
  purge_acks = ap (λ (x : Node). x.acks) left

  pub purge_columns : (node (after t (Purge p)) p).columns ≡ (node t p).columns
  unfolding purged
  purge_columns = ap (λ (x : Node). x.columns) left

  log_left : (node (after t (Purge p)) p).log ≡ (purged (leaving t p) (node t p)).log
  log_left = ap (λ (x : Node). x.log) left

  -- what is still held did not pass the test of what leaves
  stayed : (r : Record) → has r (node (after t (Purge p)) p).log ≡ true → leaving t p r ≡ false
  unfolding purged
  stayed r h = keep_left (leaving t p) (node t p).log r (sym (ap (has r) log_left) ∙ h)

  -- and no mark
  pub purge_marks : (q : ℕ) → mark (after t (Purge p)) q ≡ mark t q
  purge_marks q = ap (λ (u : List ℕ). mark u q) (after-accepted t (Purge p) k) ∙ purge_mark t p (may_purge t p k) q

  -- an accepted purge tells that node, whatever it removed
  pub lagging-told : get_or (reply_values (reply t (Purge p))) 2 0 ≡ lagging t p
  unfolding reply reported
  lagging-told = rw k

  -- Vectors
  module _ (form : form_of t ≡ Vectors) where
    lagging_ack : entry (node t p).acks (lagging t p) ≡ least (node t p).acks
    unfolding lows
    lagging_ack = subst (λ (f : Form). entry (lows f (node t p)) (lagging t p) ≡ least (lows f (node t p))) form lagging_is

    -- what the purge goes by is that node's acknowledgement, or the mark where that is smaller
    pub lagging-limit : limit t p ≡ min (entry (node t p).acks (lagging t p)) (mark t p)
    unfolding limit limit_of
    lagging-limit = ap (λ (k : ℕ). min k (mark t p)) (sym lagging_ack)

    above-limit : (r : Record) → leaving t p r ≡ false → limit t p < r.timestamp
    unfolding leaving limit leaves
    above-limit r h =
        leb-false r.timestamp (limit_of (mark t p) (node t p)) (subst (λ (f : Form). leaves f (mark t p) (node t p) r ≡ false) form h)

    -- what was delivered and is still held is above the acknowledgement of the node told, as it stood and as it stands
    pub held-above : (r : Record) → has r (node (after t (Purge p)) p).log ≡ true → r.timestamp ≤ mark t p
        → entry (node t p).acks (lagging t p) < r.timestamp
    held-above r h delivered =
        let e = lagging-limit in
        let above = above-limit r (stayed r h) in
        omega arith

    pub held_by_lagging :
        (r : Record) → has r (node (after t (Purge p)) p).log ≡ true → r.timestamp ≤ mark (after t (Purge p)) p
        → entry (node (after t (Purge p)) p).acks (lagging t p) < r.timestamp
    held_by_lagging r h delivered =
        let e = ap (λ (row : List ℕ). entry row (lagging t p)) purge_acks in
        let m = purge_marks p in
        let above = held-above r h (omega arith) in
        omega arith

  -- Columns
  module _ (form : form_of t ≡ Columns) where
    abbrev column : ℕ → List ℕ
    column q = get_or (node t p).columns q []

    columns_wide : length (node t p).columns ≡ count t
    columns_wide = (subst (λ (f : Form). Shaped f (count t) p (node t p)) form fits).columns_long

    column_wide : (q : ℕ) → q < count t → length (column q) ≡ count t
    column_wide q h = let e = columns_wide in fits.column_long q (omega arith)

    low_column : (q : ℕ) → q < count t → low q ≡ least (column q)
    unfolding lows
    low_column q h =
        let e = columns_wide in
        ap (λ (f : Form). entry (lows f (node t p)) q) form ∙ get_or-lowest (node t p).columns q (omega arith)

    -- the smallest entry of the column of the node told is at most every entry of every column: the smallest of all n × n
    pub lagging_smallest : (q o : ℕ) → q < count t → o < count t → least (column (lagging t p)) ≤ entry (column q) o
    lagging_smallest q o h j =
        let a = low_column (lagging t p) lagging-node in
        let b = low_column q h in
        let c = lagging-least q h in
        let w = column_wide q h in
        let d = least_le (column q) o (omega arith) in
        omega arith

    -- and it is the first such: every entry of a lower node's column is greater
    pub lagging-lower : (q o : ℕ) → q < lagging t p → o < count t → least (column (lagging t p)) < entry (column q) o
    lagging-lower q o h j =
        let below = lagging-node in
        let a = low_column (lagging t p) lagging-node in
        let b = low_column q (omega arith) in
        let c = lagging-first q h in
        let w = column_wide q (omega arith) in
        let d = least_le (column q) o (omega arith) in
        omega arith

    -- what is still held is above some column's entry for its origin, as it stood and as it stands
    pub held_by_column :
        (r : Record) → has r (node (after t (Purge p)) p).log ≡ true →
        (q : ℕ) × ((q < count t) × (entry (get_or (node (after t (Purge p)) p).columns q []) r.origin < r.timestamp))
    unfolding leaving leaves
    held_by_column r h =
        let e = columns_wide in
        let out = subst (λ (f : Form). leaves f (mark t p) (node t p) r ≡ false) form (stayed r h) in
        let q = all_not (λ (c : List ℕ). covers c r) (node t p).columns [] out in
        let same = ap (λ (cs : List (List ℕ)). entry (get_or cs q.0 []) r.origin) purge_columns in
        (q.0, (omega (arith, q.1.0), omega (arith, not_covers_lt (column q.0) r q.1.1)))

-- a refused one has node 0
pub refused_lags : (t : List ℕ) (p k : ℕ) → refusal t (Purge p) ≡ suc k → get_or (reply_values (reply t (Purge p))) 2 0 ≡ 0
unfolding reply
refused_lags t p k h = rw h
