-- Laws of a purge on a sound table: what it holds each record to on either form, and that it is refused by its one test, or the purged node is put; with
-- its reply, and where nobody reads it.
use mathlib.Core.Path.{◌≡◌, refl, sym, ap, ap₂, ◌∙◌}
use mathlib.Core.Bool.{Bool, true, false, false≢true}
use Prim.Native.Nat.{ℕ, ◌+◌, ◌*◌, ◌-◌, ◌<◌, ◌≤◌}
use native.Mathlib.Omega.{arith}
use mathlib.Core.List.{List}
use lib.ListN.{length, get_or, take, drop}
use lib.Dec.{leb}
use Rattle.std.specs.Prelude.{Ok, Err, Option, Some, None}
use Rattle.std.proofs.Common.{lit≤}
use Rattle.meaning.specs.declared.Record.{Record}
use Rattle.meaning.specs.declared.Refusal.TheVariants.{NodeAbsent}
use Rattle.meaning.specs.declared.Report.{Report}
use Rattle.meaning.specs.declared.Report.TheVariants.{Purged}
use Rattle.meaning.specs.declared.Action.TheVariants.{Purge}
use Rattle.meaning.specs.Rows.{all, covers, lowest, record_at, records}
use Rattle.meaning.specs.Table.{Form, Vectors, Columns, form_of, acks_at, acks_wide, part, count, mark, held, node}
use Rattle.meaning.specs.Table.{log_most, record_sound, Sound, sound, Shaped, Node, put_node}
use Rattle.meaning.specs.Node.{purged, leaves}
use Rattle.meaning.specs.Steps.{Reply, on_columns, limit, leaving, lagging, acted, reported}
use Rattle.meaning.proofs.PlaceLaws.{part_lent, length_part, get_d_part}
use Rattle.meaning.proofs.RowLaws.{all_row, record_at_agree, records_agree}
use Rattle.meaning.proofs.TableLaws.{origin_below, held_log_lem, node_shaped, facts_sound}
use Rattle.meaning.proofs.PurgeLaws.{length-lowest, covers-lowest}
use Rattle.meaning.proofs.StepLaws.{purge_is_3, purge_is_0, refuse, accept}
use Rattle.records.specs.Tests.{rows}
use Rattle.logs.specs.Carry.{FirstLeaving, FirstTold}
use Rattle.looks.specs.Applied.{Applied}
use Rattle.looks.proofs.Keeps.{applied_kept}
use Rattle.purges.specs.Dropped.{log_from, log_of, held_rows, Dropped, Cuts, passed, Passed}

-- the form that `has_columns` tells
pub columns_form : (f : Form) (b : Bool) → b ≡ on_columns f → b ≡ true → f ≡ Columns
columns_form Vectors b e h = absurd (false≢true (sym e ∙ h))
columns_form Columns b e h = refl

pub vectors_form : (f : Form) (b : Bool) → b ≡ on_columns f → b ≡ false → f ≡ Vectors
vectors_form Vectors b e h = refl
vectors_form Columns b e h = absurd (false≢true (sym h ∙ e))

-- the row of acknowledgements, as it is lent
pub acks_lent :
    (t : List ℕ) (p at n : ℕ) → form_of t ≡ Vectors → at ≡ acks_at p → n ≡ count t → take ((at + n) - at) (drop at t) ≡ (node t p).acks
unfolding node
acks_lent t p at n v e f =
    part_lent at n t ∙ ap₂ (λ (a m : ℕ). part a m t) e f ∙ ap (λ (x : Form). part (acks_at p) (acks_wide x (count t)) t) (sym v)

-- on vectors what goes is held to the limit
pub leaving_limit : (t : List ℕ) (p : ℕ) → form_of t ≡ Vectors → (r : Record) → leaving t p r ≡ leb r.timestamp (limit t p)
unfolding leaving leaves limit
leaving_limit t p form r = ap (λ (f : Form). leaves f (mark t p) (node t p) r) form

abbrev told : Report → Reply
told r = Ok r

module _ (t : List ℕ) (s : Sound t) (p : ℕ) where
  -- on columns to the row of smallest entries, which has an entry for each origin of the log
  module _ (h : p < count t) (form : form_of t ≡ Columns) where
    fits : Shaped Columns (count t) p (node t p)
    fits = rw form at (node_shaped t s p h)

    pub leaving_row : (r : Record) → leaving t p r ≡ covers (lowest (node t p).columns) r
    unfolding leaving leaves
    leaving_row r =
        let wide = fits.columns_long in
        ap (λ (f : Form). leaves f (mark t p) (node t p) r) form ∙
        covers-lowest (count t) (node t p).columns r (omega arith) fits.column_long

    pub bars_long : (bars : List ℕ) → bars ≡ lowest (node t p).columns → length bars ≡ count t
    bars_long bars e =
        let wide = fits.columns_long in
        ap length e ∙ length-lowest (count t) (node t p).columns (omega arith) fits.column_long

  -- what was dropped by a test is what another drops that leaves the same node
  pub dropped_as :
      {f g : Record → Bool} {left : ℕ} {u : List ℕ} → Dropped t p f left u → purged f (node t p) ≡ purged g (node t p) → Dropped t p g left u
  dropped_as dropped same =
      record {
        many = dropped.many ∙ ap (λ (x : Node). length x.log) same;
        puts = dropped.puts ∙ ap (λ (x : Node). put_node p x t) same;
      }

  pub absent : (n : ℕ) → n ≡ count t → n ≤ p → Applied t (Purge p) (Err NodeAbsent) t
  absent n e h = refuse t (Purge p) NodeAbsent (purge_is_3 t s p (omega arith))

  pub done :
      {left : ℕ} {u : List ℕ} → Dropped t p (leaving t p) left u → (n k at : ℕ) → n ≡ count t → p < n → k ≡ held t p → at ≡ lagging t p →
      Applied t (Purge p) (Ok (Purged (k - left) at)) u
  unfolding reported acted
  done {left} dropped n k at en h ek ea =
      let a = accept t (Purge p) (purge_is_0 t s p (omega arith)) in (
        ap₂ (λ (x y : ℕ). told (Purged (x - y) at)) (ek ∙ held_log_lem t p) dropped.many ∙
            ap (λ (q : ℕ). told (Purged (length (node t p).log - length (purged (leaving t p) (node t p)).log) q)) ea ∙
            a.0,
        dropped.puts ∙ a.1,
      )

  pub absent_alone : (n : ℕ) → n ≡ count t → n ≤ p → Passed t (Purge p) (Err NodeAbsent) t
  absent_alone n e h = let a = absent n e h in (ap passed a.0, a.1)

  pub done_alone : {left : ℕ} {u : List ℕ} → Dropped t p (leaving t p) left u → (n : ℕ) → n ≡ count t → p < n → Passed t (Purge p) (Ok tt) u
  done_alone dropped n en h = let a = done dropped n (held t p) (lagging t p) en h refl refl in (ap passed a.0, a.1)

  -- and the table stays sound
  pub cut_sound : {left : ℕ} {u : List ℕ} → Dropped t p (leaving t p) left u → p < count t → sound u ≡ true
  cut_sound dropped h = applied_kept t (Purge p) _ _ (done dropped (count t) (held t p) (lagging t p) refl h refl refl) (lit≤ tt) (facts_sound t s)

-- what a node that is to be purged has
module _ (t : List ℕ) (s : Sound t) (p n k : ℕ) (d : Cuts t p n k) where
  pub cut_here : p < count t
  cut_here =
      let e = d.nodes in
      let h = d.there in
      omega arith

  pub cut_room : k ≤ log_most
  cut_room =
      let e = d.many in
      let r = s.room p cut_here in
      omega arith

-- the rows that hold records, as a part of the log
module _ (t : List ℕ) (s : Sound t) (p k : ℕ) (h : p < count t) (few : k ≤ log_most) where
  pub log_inside : log_from p t + 4 * log_most ≤ length t
  log_inside =
      let long = s.long in
      let high = s.high in
      omega arith

  pub held_long : length (held_rows p k t) ≡ 4 * k
  held_long = let i = log_inside in length_part (log_from p t) (4 * k) t (omega arith)

  pub held_rows_are : rows (held_rows p k t) ≡ k
  held_rows_are = let l = held_long in omega arith

  pub held_word : (j : ℕ) → j < 4 * k → get_or (held_rows p k t) j 0 ≡ get_or (log_of p t) j 0
  held_word j l =
      get_d_part (log_from p t) (4 * k) t j (log_from p t + j) refl l ∙
      sym (get_d_part (log_from p t) (4 * log_most) t j (log_from p t + j) refl (omega arith))

  pub held_record : (i : ℕ) → i < k → record_at (held_rows p k t) i ≡ record_at (log_of p t) i
  held_record i l = record_at_agree (held_rows p k t) (log_of p t) i i (λ m g. held_word (4 * i + m) (omega arith))

  pub held_origin : k ≡ held t p → (i : ℕ) → i < k → (record_at (held_rows p k t) i).origin < count t
  unfolding node
  held_origin e i l =
      let many : records k (log_of p t) ≡ records (held t p) (log_of p t) = ap (λ (m : ℕ). records m (log_of p t)) e in
      let right : all (record_sound (count t)) (records k (log_of p t)) ≡ true = ap (all (record_sound (count t))) many ∙ s.right p h in
      rw (held_record i l) (origin_below (count t) (record_at (log_of p t) i) (all_row (record_sound (count t)) k (log_of p t) right i l))

  pub held_lent : (at : ℕ) → at ≡ log_from p t → take ((at + 4 * k) - at) (drop at t) ≡ held_rows p k t
  held_lent at e = part_lent at (4 * k) t ∙ ap (λ (a : ℕ). part a (4 * k) t) e

  -- the first record of them that leaves is the first of the log
  first_held : (leaves : Record → Bool) (r : ℕ) → FirstLeaving leaves k (held_rows p k t) r → FirstLeaving leaves k (log_of p t) r
  first_held leaves r f =
      let within = f.within in
      let same : records r (held_rows p k t) ≡ records r (log_of p t) =
      records_agree r (held_rows p k t) (log_of p t) (λ m l. held_word m (omega arith))
      in
      record {
        within = within;
        before = rw same at f.before;
        first = λ l. rw (held_record r l) at (f.first l);
      }

  pub first_told : (leaves : Record → Bool) (o : Option ℕ) → FirstTold leaves (rows (held_rows p k t)) (held_rows p k t) o → FirstTold leaves k (log_of p t) o
  first_told leaves None f = first_held leaves k (rw held_rows_are at f)
  first_told leaves (Some r) f = let g : FirstTold leaves k (held_rows p k t) (Some r) = rw held_rows_are at f in (g.0, first_held leaves r g.1)
