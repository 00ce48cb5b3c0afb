-- What follows from demand 3 and its invariant in a few lines each, for every run from a fresh table of either form.
use mathlib.Core.Path.{◌≡◌, refl, sym, ap, ◌∙◌}
use mathlib.Core.Bool.{Bool, true, false, ◌&&◌, ◌||◌}
use mathlib.Core.Logic.{◌⊎◌, inl, inr}
use mathlib.Core.List.Pairwise
use mathlib.Core.List.{List, [], ◌∷◌, ◌++◌, append-nil, append_assoc, Nodup}
use Prim.Native.Nat.{ℕ, zero, suc, ◌≤◌, ◌<◌}
use native.Mathlib.Omega.{arith}
use lib.Dec.{ltb, eqb}
use borrow.Author.Tests.{ltb-true}
use Rattle.meaning.specs.declared.Record.{Record}
use Rattle.meaning.specs.declared.Action.{Action}
use Rattle.meaning.specs.declared.Action.TheVariants.{Write, Session, Purge, Deliver}
use Rattle.meaning.specs.declared.Step.{Step}
use Rattle.meaning.specs.Rows.{all, covers}
use Rattle.meaning.specs.Table.{Form, form_of, nodes_most, count, node, fresh, Sound}
use Rattle.meaning.specs.Node.{purged, know}
use Rattle.meaning.specs.Steps.{finishes_a, finishes_b, refusal, leaving}
use Rattle.meaning.specs.Frames.{journal_kinds, widths_in, wide}
use Rattle.meaning.specs.Journals.{after_all}
use Rattle.meaning.specs.Account.{
  has,
  lacking,
  Account,
  gains,
  gains_if,
  noted,
  Run,
  note_if,
  stepped,
  Event,
  AStep,
  events,
  befell,
  ran,
  begun,
  run,
}
use Rattle.meaning.proofs.RowLaws.{and_left, and_right, and_both}
use Rattle.meaning.proofs.AccountLaws.{by_test, has-append, sublist_has, le_covers}
use Rattle.meaning.proofs.AccountInvariant.{log_written}
use Rattle.meaning.proofs.AccountNodes.{purged_dropping}
use Rattle.meaning.proofs.StepLaws.{verdict_of, after-sound, fresh-sound}
use Rattle.meaning.proofs.AccountTable.{Sure, leaving_low, sure_run}
use Rattle.meaning.proofs.Demand3.{demand3}

module _ (f : Form) (n : ℕ) (lo : 2 ≤ n) (hi : n ≤ nodes_most) (es : List Event) where
  sure : Sure n (run f n es)
  sure = sure_run f n lo hi es

  -- the table keeps its number of nodes
  pub run-count : count (run f n es).table ≡ n
  run-count = sure.counted

  module _ (p : ℕ) (below : p < n) (r : Record) where
    -- a record in a log is one that was written, word for word
    pub held_written : has r (node (run f n es).table p).log ≡ true → has r (run f n es).account.written ≡ true
    held_written h =
        log_written n _ (node (run f n es).table p).summary (node (run f n es).table p).log ((run f n es).account.of p) r
        (sure.whole.holds p below).kept h

    -- a record that a purge of p removes is in every node's account
    pub purge_known :
        has r (node (run f n es).table p).log ≡ true → has r (purged (leaving (run f n es).table p) (node (run f n es).table p)).log ≡ false →
        (q : ℕ) → q < n → has r ((run f n es).account.of q) ≡ true
    purge_known h gone q j =
        let w = held_written h in
        let k = sure.whole.holds p below in
        let t = (run f n es).table in
        let e = sure.counted in
        let dropping =
        purged_dropping n _ (leaving t p) (know (form_of t) (node t p)) (node t p) ((run f n es).account.of p) sure.whole.stamped k.kept k.acked
        (λ x l i g. leaving_low t p sure.long (omega arith) (omega arith) x l i (omega arith))
        in
        let c = dropping.gone r h gone q j in
        (sure.whole.holds q j).kept.exact r ∙ and_both (has r (run f n es).account.written) (covers (node (run f n es).table q).summary r) w c

  -- a written record is held in its writer's log, or it is in every node's account
  pub written_somewhere : (r : Record) → has r (run f n es).account.written ≡ true →
      ((r.origin < n) × (has r (node (run f n es).table r.origin).log ≡ true)) ⊎ ((q : ℕ) → q < n → has r ((run f n es).account.of q) ≡ true)
  written_somewhere r w =
      let o = sure.whole.stamped.origin r w in
      let k = (sure.whole.holds r.origin o).kept in
      let c = le_covers (node (run f n es).table r.origin).summary r (sure.whole.stamped.reached r w) in
      let a = k.exact r ∙ and_both (has r (run f n es).account.written) (covers (node (run f n es).table r.origin).summary r) w c in
      by_test (has r (node (run f n es).table r.origin).log) (λ h. inl (o, h)) (λ h. inr ((demand3 f n lo hi es r.origin o).missing r a h))

  -- no record is written twice, and two written records of one writer and one timestamp are one
  pub written_once : Nodup (run f n es).account.written
  written_once = sure.whole.once

  pub written_single : (r s : Record) → has r (run f n es).account.written ≡ true → has s (run f n es).account.written ≡ true → r.origin ≡ s.origin →
      r.timestamp ≡ s.timestamp → r ≡ s
  written_single = sure.whole.stamped.single

  -- a node's log never holds one record twice
  pub log_once : (p : ℕ) → p < n → Nodup (node (run f n es).table p).log
  log_once p h = Pairwise.sublistᴰ (demand3 f n lo hi es p h).less (demand3 f n lo hi es p h).once

-- A list of events after another, so that whatever holds of every list holds after every event of a longer one.
pub ran_append : (x : Run) (es fs : List Event) → ran x (es ++ fs) ≡ ran (ran x es) fs
unfolding ran
ran_append x [] fs = refl
ran_append x (e ∷ es) fs = ran_append (befell x e) es fs

pub run-append : (f : Form) (n : ℕ) (es fs : List Event) → run f n (es ++ fs) ≡ ran (run f n es) fs
unfolding run
run-append f n es fs = ran_append (begun f n) es fs

-- The table of a run of steps is the table after all of them, as the journals' definitions have it.
pub ran_table : (x : Run) (ss : List Step) → (ran x (events ss)).table ≡ after_all x.table ss
unfolding ran befell after_all stepped
ran_table x [] = refl
ran_table x (s ∷ ss) = ran_table (stepped x s) ss

pub run_table : (f : Form) (n : ℕ) (ss : List Step) → (run f n (events ss)).table ≡ after_all (fresh f n) ss
unfolding run
run_table f n ss = ran_table (begun f n) ss

-- The account never drops a record: an event only puts records after those that an account has --------------------------------------------------------

gains_more : (p : ℕ) (new : List Record) (of : ℕ → List Record) (q : ℕ) → (l : List Record) × (gains p new of q ≡ of q ++ l)
unfolding gains
gains_more p new of q = by_test (eqb q p) (λ e. (new, cc)) (λ e. ([], let z = append-nil (of q) in cc))

gains_if_more : (f : Bool) (p : ℕ) (new : List Record) (of : ℕ → List Record) (q : ℕ) → (l : List Record) × (gains_if f p new of q ≡ of q ++ l)
gains_if_more true p new of q = gains_more p new of q
gains_if_more false p new of q = ([], sym (append-nil (of q)))

noted_more : (a : Action) (x : Account) (q : ℕ) → (l : List Record) × ((noted a x).of q ≡ x.of q ++ l)
unfolding noted
noted_more (Write p c b v) x q = gains_more p (record { origin = p; timestamp = c; block = b; verdict = v } ∷ []) x.of q
noted_more (Session a b ca cb o) x q =
    let of₁ = gains_if (finishes_a o) a (lacking (x.of a) (x.of b)) x.of in
    let f = gains_if_more (finishes_a o) a (lacking (x.of a) (x.of b)) x.of q in
    let g = gains_if_more (finishes_b o) b (lacking (x.of b) (x.of a)) of₁ q in
    (f.0 ++ g.0, g.1 ∙ ap (λ (l : List Record). l ++ g.0) f.1 ∙ append_assoc (x.of q) f.0 g.0)
noted_more (Purge p) x q = ([], sym (append-nil (x.of q)))
noted_more (Deliver p) x q = ([], sym (append-nil (x.of q)))

note_if_more : (k : ℕ) (a : Action) (x : Account) (q : ℕ) → (l : List Record) × ((note_if k a x).of q ≡ x.of q ++ l)
note_if_more zero a x q = noted_more a x q
note_if_more (suc k) a x q = ([], sym (append-nil (x.of q)))

befell_more : (x : Run) (e : Event) (q : ℕ) → (l : List Record) × ((befell x e).account.of q ≡ x.account.of q ++ l)
unfolding befell stepped
befell_more x (AStep s) q = note_if_more (refusal x.table s.action) s.action x.account q

pub never_dropped : (x : Run) (es : List Event) (q : ℕ) → (l : List Record) × ((ran x es).account.of q ≡ x.account.of q ++ l)
unfolding ran
never_dropped x [] q = ([], sym (append-nil (x.account.of q)))
never_dropped x (e ∷ es) q =
    let f = befell_more x e q in
    let g = never_dropped (befell x e) es q in
    (f.0 ++ g.0, g.1 ∙ ap (λ (l : List Record). l ++ g.0) f.1 ∙ append_assoc (x.account.of q) f.0 g.0)

-- A record that a log has held and no longer holds, at whatever later point, is by then in every node's account.
pub left_known :
    (f : Form) (n : ℕ) → 2 ≤ n → n ≤ nodes_most → (es fs : List Event) (p : ℕ) → p < n → (r : Record) → has r (node (run f n es).table p).log ≡ true →
    has r (node (run f n (es ++ fs)).table p).log ≡ false → (q : ℕ) → q < n → has r ((run f n (es ++ fs)).account.of q) ≡ true
left_known f n lo hi es fs p below r h gone =
    let a = sublist_has (node (run f n es).table p).log ((run f n es).account.of p) r (demand3 f n lo hi es p below).less h in
    let m = never_dropped (run f n es) fs p in
    let b : has r ((run f n (es ++ fs)).account.of p) ≡ true =
    ap (λ (x : Run). has r (x.account.of p)) (run-append f n es fs) ∙
    ap (has r) m.1 ∙
    has-append r ((run f n es).account.of p) m.0 ∙
    ap (λ (t : Bool). t || has r m.0) a
    in
    (demand3 f n lo hi (es ++ fs) p below).missing r b gone

-- Soundness at every point ---------------------------------------------------------------------------------------------------------------------

-- every step's verdict is a byte, as in every step that code can make: the field is as wide as in the frame
abbrev pub wide_event : Event → Bool
wide_event (AStep s) = wide s.action

-- such a step's verdict keeps a table sound
wide_verdict : (a : Action) → wide a ≡ true → verdict_of a ≤ 255
unfolding wide widths_in journal_kinds
wide_verdict (Write p c b v) h =
    let d = ltb v 256 in
    let e = ltb b 4294967296 in
    let f = ltb c 4294967296 in
    let g = and_right f (e && (d && true)) (and_right (ltb p 256) (f && (e && (d && true))) h) in
    omega (arith, ltb-true v 256 (and_left d true (and_right e (d && true) g)))
wide_verdict (Session a b ca cb o) h = omega arith
wide_verdict (Purge p) h = omega arith
wide_verdict (Deliver p) h = omega arith

-- a sound table stays sound through every such list, so from a fresh one every table of a run is sound
befell-sound : (x : Run) (e : Event) → wide_event e ≡ true → Sound x.table → Sound (befell x e).table
unfolding befell stepped
befell-sound x (AStep s) h k = after-sound x.table s.action (wide_verdict s.action h) k

pub ran-sound : (x : Run) (es : List Event) → all wide_event es ≡ true → Sound x.table → Sound (ran x es).table
unfolding ran all
ran-sound x [] h k = k
ran-sound x (e ∷ es) h k =
    ran-sound (befell x e) es (and_right (wide_event e) (all wide_event es) h) (befell-sound x e (and_left (wide_event e) (all wide_event es) h) k)

pub run_sound : (f : Form) (n : ℕ) → 2 ≤ n → n ≤ nodes_most → (es : List Event) → all wide_event es ≡ true → Sound (run f n es).table
unfolding run
run_sound f n lo hi es h = ran-sound (begun f n) es h (fresh-sound f n lo hi)
