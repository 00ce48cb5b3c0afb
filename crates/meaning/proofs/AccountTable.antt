-- The invariant of demand 3 on the table itself: a fresh table has it, and every step keeps it, accepted or refused.
use mathlib.Core.Path.{◌≡◌, refl, sym, ap, ◌∙◌, subst}
use mathlib.Core.Bool.{true, false}
use mathlib.Core.List.Pairwise
use mathlib.Core.List.Sublistᴰ
use mathlib.Core.List.{List, [], ◌∷◌}
use Prim.Native.Nat.{ℕ, zero, suc, ◌+◌, ◌≤◌, ◌<◌}
use native.Mathlib.Omega.{arith}
use lib.ListN.{length, get_or}
use Rattle.meaning.specs.declared.Record.{Record}
use Rattle.meaning.specs.declared.Action.{Action}
use Rattle.meaning.specs.declared.Action.TheVariants.{Write, Session, Purge, Deliver}
use Rattle.meaning.specs.declared.Step.{Step}
use Rattle.meaning.specs.Table.{
  Form,
  Vectors,
  Columns,
  form_words,
  form_of,
  nodes_most,
  column_at,
  summary_at,
  acks_at,
  part,
  count,
  mark,
  node,
  fresh,
}
use Rattle.meaning.specs.Node.{wrote, purged, know}
use Rattle.meaning.specs.Steps.{leaving, refusal, acted}
use Rattle.meaning.specs.Account.{has, Account, noted, Run, note_if, stepped, Event, AStep, befell, ran, begun, run}
use Rattle.meaning.proofs.PlaceLaws.{get_d_part}
use Rattle.meaning.proofs.ColumnLaws.{get_or_columns}
use Rattle.meaning.proofs.TableLaws.{node_acks, node_columns, node_shaped, node_same, node_other}
use Rattle.meaning.proofs.StepLaws.{
  after-accepted,
  after_refused,
  may_write,
  may_meet,
  may_purge,
  may_deliver,
  write_shaped,
  purge_shaped,
  session_a,
  session_b,
  session_other,
  deliver_node,
  acted-count,
  acted_form,
  acted_long,
  after_form,
  fresh_form,
  fresh_long,
  fresh-count,
  fresh_word,
  fresh_log,
  fresh-sound,
}
use Rattle.meaning.proofs.AccountLaws.{not_both, entry}
use Rattle.meaning.proofs.AccountNodes.{leaves-known}
use Rattle.meaning.proofs.AccountSteps.{Whole, whole_write, whole_session, whole_purge, whole_deliver}

-- The table of a run has n nodes, and they have the invariant with the account beside them, whatever the table's form.
pub record Sure (n : ℕ) (x : Run) : Type 0 where
  pub long : length x.table ≡ form_words (form_of x.table)
  pub counted : count x.table ≡ n
  pub whole : Whole (form_of x.table) n (node x.table) x.account

-- A fresh table ------------------------------------------------------------------------------------------------------------------------------

fresh-part : (f : Form) (n at k i : ℕ) → 0 < at → i < k → at + k ≤ form_words f → get_or (part at k (fresh f n)) i 0 ≡ 0
fresh-part f n at k i low h fits =
    get_d_part at k (fresh f n) i (at + i) refl h ∙ fresh_word f n (at + i) (omega arith) (omega arith)

fresh_summary : (f : Form) (n p o : ℕ) → p < n → o < n → n ≤ nodes_most → entry (node (fresh f n) p).summary o ≡ 0
unfolding node
fresh_summary f n p o h j k = rw (fresh_form f n, fresh-count f n) (go f)
  where
    go : (f : Form) → get_or (part (summary_at f p) n (fresh f n)) o 0 ≡ 0
    go Vectors = fresh-part Vectors n (summary_at Vectors p) n o (omega arith) j (omega arith)
    go Columns = fresh-part Columns n (summary_at Columns p) n o (omega arith) j (omega arith)

fresh-known : (f : Form) (n p q o : ℕ) → p < n → q < n → o < n → n ≤ nodes_most → know f (node (fresh f n) p) q o ≡ 0
unfolding node know
fresh-known Vectors n p q o h j i k =
    rw (fresh_form Vectors n, fresh-count Vectors n) (fresh-part Vectors n (acks_at p) n q (omega arith) j (omega arith))
fresh-known Columns n p q o h j i k =
    rw (fresh_form Columns n, fresh-count Columns n)
    (ap (λ (c : List ℕ). get_or c o 0) (get_or_columns n (column_at p 0) n (fresh Columns n) q (column_at p q) j (omega arith)) ∙
    fresh-part Columns n (column_at p q) n o (omega arith) i (omega arith))

pub sure_fresh : (f : Form) (n : ℕ) → 2 ≤ n → n ≤ nodes_most → Sure n (begun f n)
unfolding has
sure_fresh f n lo hi =
    let c = fresh-count f n in
    let s = fresh-sound f n lo hi in
    let none : (r : Record) → has r [] ≡ false = λ r. refl in
    record {
      long = fresh_long f n ∙ ap form_words (sym (fresh_form f n));
      counted = c;
      whole =
          rw (fresh_form f n)
          (record {
            once = Pairwise.nil;
            stamped =
                record {
                  origin = λ r h. not_both (has r []) h (none r);
                  reached = λ r h. not_both (has r []) h (none r);
                  single = λ r s h. not_both (has r []) h (none r);
                };
            holds = λ q h.
                let y = node_shaped (fresh f n) s q (omega arith) in
                record {
                  kept =
                      record {
                        wide = y.summary_long ∙ c;
                        behind = λ o j. omega (arith, fresh_summary f n q o h j hi);
                        exact = λ r. refl;
                        once = Pairwise.nil;
                        less = rw (fresh_log f n q (omega arith)) Sublistᴰ.slnil;
                        known = λ r a b. not_both (has r []) a (none r);
                      };
                  acked = record { reached = λ p o j i. omega (arith, fresh-known f n q p o h j i hi) };
                };
          });
    }

-- A step -------------------------------------------------------------------------------------------------------------------------------------

-- what a purge lets go is at most what is known of every node: a purge that asks fewer of them is refused here
pub leaving_low :
    (t : List ℕ) (p : ℕ) → length t ≡ form_words (form_of t) → count t ≤ nodes_most → p < count t → (r : Record) → leaving t p r ≡ true →
    (q : ℕ) → q < count t → r.timestamp ≤ know (form_of t) (node t p) q r.origin
unfolding leaving
leaving_low t p long high h r leaves q j =
    leaves-known (form_of t) (count t) (mark t p) (node t p) (node_acks t p long high h) (node_columns t p) r leaves q j

whole_acted :
    (t : List ℕ) (a : Action) (x : Account) → refusal t a ≡ 0 → Whole (form_of t) (count t) (node t) x →
    Whole (form_of t) (count t) (node (acted t a)) (noted a x)
unfolding acted
whole_acted t (Write p c b v) x k w =
    let m = may_write t p c b v k in
    let fits = write_shaped t p c b v m in
    whole_write (form_of t) (count t) (node t) (node (acted t (Write p c b v))) x p c b v m.here m.later
    (node_same t m.is_sound p m.here (wrote p c b v (node t p)) fits)
    (node_other t m.is_sound p m.here (wrote p c b v (node t p)) fits) (node_shaped t m.is_sound) w
whole_acted t (Session a b ca cb o) x k w =
    let m = may_meet t a b ca cb o k in
    whole_session (form_of t) (count t) (node t) (node (acted t (Session a b ca cb o))) x a b ca cb o m.here_a m.here_b m.apart m.clock_a m.clock_b
    (session_a t a b ca cb o m)
    (session_b t a b ca cb o m)
    (session_other t a b ca cb o m) (node_shaped t m.is_sound) w
whole_acted t (Purge p) x k w =
    let m = may_purge t p k in
    let s = m.is_sound in
    let fits = purge_shaped t p m in
    whole_purge (form_of t) (count t) (node t) (node (acted t (Purge p))) x p (leaving t p) m.here
    (leaving_low t p s.long s.high m.here)
    (node_same t s p m.here (purged (leaving t p) (node t p)) fits)
    (node_other t s p m.here (purged (leaving t p) (node t p)) fits) w
whole_acted t (Deliver p) x k w =
    whole_deliver (form_of t) (count t) (node t) (node (acted t (Deliver p))) x p (deliver_node t p (may_deliver t p k)) w

-- what a step leaves of a run, accepted or refused
pub stepped-accepted : (x : Run) (s : Step) → refusal x.table s.action ≡ 0 →
    stepped x s ≡ record { table = acted x.table s.action; account = noted s.action x.account }
unfolding stepped
stepped-accepted x s h =
    let e = after-accepted x.table s.action h in
    λ i. record { table = e i; account = note_if (h i) s.action x.account }

pub stepped_refused : (x : Run) (s : Step) (k : ℕ) → refusal x.table s.action ≡ suc k → stepped x s ≡ x
unfolding stepped
stepped_refused x s k h =
    let e = after_refused x.table s.action k h in
    λ i. record { table = e i; account = note_if (h i) s.action x.account }

sure_acted :
    (n : ℕ) (x : Run) (a : Action) → refusal x.table a ≡ 0 → Sure n x → Sure n (record { table = acted x.table a; account = noted a x.account })
sure_acted n x a k u =
    record {
      long = acted_long x.table a k ∙ ap form_words (sym (acted_form x.table a k));
      counted = acted-count x.table a k ∙ u.counted;
      whole =
          rw (acted_form x.table a k)
          (subst (λ (m : ℕ). Whole (form_of x.table) m (node (acted x.table a)) (noted a x.account)) u.counted
          (whole_acted x.table a x.account k
          (subst (λ (m : ℕ). Whole (form_of x.table) m (node x.table) x.account) (sym u.counted) u.whole)));
    }

sure_stepped_at : (n : ℕ) (x : Run) (s : Step) (k : ℕ) → refusal x.table s.action ≡ k → Sure n x → Sure n (stepped x s)
sure_stepped_at n x s zero h u = rw (stepped-accepted x s h) (sure_acted n x s.action h u)
sure_stepped_at n x s (suc k) h u = rw (stepped_refused x s k h) u

pub sure_stepped : (n : ℕ) (x : Run) (s : Step) → Sure n x → Sure n (stepped x s)
sure_stepped n x s u = sure_stepped_at n x s (refusal x.table s.action) refl u

-- A list of events ---------------------------------------------------------------------------------------------------------------------------

pub sure_befell : (n : ℕ) (x : Run) (e : Event) → Sure n x → Sure n (befell x e)
unfolding befell
sure_befell n x (AStep s) u = sure_stepped n x s u

pub sure_ran : (n : ℕ) (x : Run) (es : List Event) → Sure n x → Sure n (ran x es)
unfolding ran
sure_ran n x [] u = u
sure_ran n x (e ∷ es) u = sure_ran n (befell x e) es (sure_befell n x e u)

pub sure_run : (f : Form) (n : ℕ) → 2 ≤ n → n ≤ nodes_most → (es : List Event) → Sure n (run f n es)
unfolding run
sure_run f n lo hi es = sure_ran n (begun f n) es (sure_fresh f n lo hi)

-- and every step keeps the form
pub form_befell : (x : Run) (e : Event) → form_of (befell x e).table ≡ form_of x.table
unfolding befell stepped
form_befell x (AStep s) = after_form x.table s.action

pub form_ran : (x : Run) (es : List Event) → form_of (ran x es).table ≡ form_of x.table
unfolding ran
form_ran x [] = refl
form_ran x (e ∷ es) = form_ran (befell x e) es ∙ form_befell x e

pub form_run : (f : Form) (n : ℕ) (es : List Event) → form_of (run f n es).table ≡ f
unfolding run
form_run f n es = form_ran (begun f n) es ∙ fresh_form f n
