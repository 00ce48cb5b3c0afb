-- Summaries, what a node knows of the others, and marks never go down, however a run goes on.
use mathlib.Core.Path.{◌≡◌, refl, sym, ap, ◌∙◌, subst}
use mathlib.Core.Bool.{Bool, true, false}
use mathlib.Core.List.{List, [], ◌∷◌, ◌++◌}
use Prim.Native.Nat.{ℕ, zero, suc, ◌≤◌, ◌<◌}
use native.Mathlib.Decide.{ℕ_discrete}
use native.Mathlib.Omega.{arith}
use lib.ListN.{length, get_or, set, length-set}
use lib.Seq.{get_or-set_same, get_or-set_other}
use Rattle.meaning.specs.declared.Record.{Record}
use Rattle.meaning.specs.declared.Action.{Action}
use Rattle.meaning.specs.declared.Action.TheVariants.{Write, Session, Purge, Deliver}
use Rattle.meaning.specs.declared.Step.{Step}
use Rattle.meaning.specs.Rows.{least}
use Rattle.meaning.specs.Table.{Form, Vectors, Columns, form_of, Node, nodes_most, count, mark, node, Shaped}
use Rattle.meaning.specs.Node.{own, wrote, opened, merged, learnt, finished, ended, purged, know, raised}
use Rattle.meaning.specs.Steps.{finishes_a, finishes_b, refusal, leaving, acted}
use Rattle.meaning.specs.Account.{Account, Run, stepped, Event, AStep, befell, ran, run}
use Rattle.meaning.proofs.RowLaws.{length-raise}
use Rattle.meaning.proofs.AccountLaws.{entry, le_least, raise_entry}
use Rattle.meaning.proofs.TableLaws.{node_shaped, node_same, node_other}
use Rattle.meaning.proofs.StepLaws.{
  may_write,
  may_meet,
  may_purge,
  may_deliver,
  write_shaped,
  purge_shaped,
  opened_shaped,
  merged_long,
  column_merged,
  session_a,
  session_b,
  session_other,
  session_mark,
  write_mark,
  purge_mark,
  deliver_node,
  deliver_mark,
  deliver_mark_other,
}
use Rattle.meaning.proofs.AccountSteps.{Whole, each}
use Rattle.meaning.proofs.AccountNodes.{set_up, learnt_entry, finished_up}
use Rattle.meaning.proofs.AccountTable.{Sure, sure_run, sure_befell, form_befell, form_run, stepped-accepted, stepped_refused}
use Rattle.meaning.proofs.AccountCorollaries.{run-append}

-- a node of which each entry, and each thing known, is no less than another's
record Higher (f : Form) (n : ℕ) (x y : Node) : Type 0 where
  pub summary : (o : ℕ) → entry x.summary o ≤ entry y.summary o
  pub knows : (q o : ℕ) → q < n → o < n → know f x q o ≤ know f y q o

higher_refl : (f : Form) (n : ℕ) (x : Node) → Higher f n x x
higher_refl f n x = record { summary = λ o. omega arith; knows = λ q o h j. omega arith }

higher_trans : (f : Form) (n : ℕ) (x y z : Node) → Higher f n x y → Higher f n y z → Higher f n x z
higher_trans f n x y z a b =
    record {
      summary = λ o. omega (arith, a.summary o, b.summary o);
      knows = λ q o h j. omega (arith, a.knows q o h j, b.knows q o h j);
    }

-- an own column that was the summary and becomes one that is no less
own_up :
    (cs : List (List ℕ)) (p q o : ℕ) (s : List ℕ) → q < length cs → (p < length cs → entry (get_or cs p []) o ≤ entry s o) →
    entry (get_or cs q []) o ≤ entry (get_or (set cs p s) q []) o
own_up cs p q o s h up = go (ℕ_discrete q p)
  where
    go : Dec (q ≡ p) → entry (get_or cs q []) o ≤ entry (get_or (set cs p s) q []) o
    go (yes e) =
        let g : p < length cs = rw e at h in
        let same = ap (λ (c : List ℕ). entry c o) (get_or-set_same cs p s [] g) in
        rw e (omega (arith, up g))
    go (no ne) = let same = ap (λ (c : List ℕ). entry c o) (get_or-set_other cs p q s [] ne) in omega arith

higher_wrote :
    (f : Form) (n p c b v : ℕ) (x : Node) → Shaped f n p x → p < n → own p x < c → Higher f n x (wrote p c b v x)
unfolding wrote own know
higher_wrote Vectors n p c b v x fits below later =
    let long = fits.summary_long in
    record { summary = λ o. set_up x.summary p c o (omega arith) (omega arith); knows = λ q o h j. omega arith }
higher_wrote Columns n p c b v x fits below later =
    let long = fits.summary_long in
    let wide = fits.columns_long in
    record {
      summary = λ o. set_up x.summary p c o (omega arith) (omega arith);
      knows = λ q o h j.
          own_up x.columns p q o (set x.summary p c) (omega arith)
          (λ g.
          let e = ap (λ (s : List ℕ). entry s o) (fits.column_own g) in
          omega (arith, set_up x.summary p c o (omega arith) (omega arith)));
    }

higher_purged : (f : Form) (n : ℕ) (leaves : Record → Bool) (x : Node) → Higher f n x (purged leaves x)
unfolding purged know
higher_purged Vectors n leaves x = record { summary = λ o. omega arith; knows = λ q o h j. omega arith }
higher_purged Columns n leaves x = record { summary = λ o. omega arith; knows = λ q o h j. omega arith }

-- opening raises the own acknowledgement, since it was at most every entry of the summary, and the own column, since it was the summary
higher_opened :
    (f : Form) (n p c : ℕ) (nodes : ℕ → Node) (x : Account) → Shaped f n p (nodes p) → p < n → own p (nodes p) ≤ c → Whole f n nodes x →
    Higher f n (nodes p) (opened p c (nodes p))
unfolding opened own know
higher_opened Vectors n p c nodes x fits below up w =
    let s = (nodes p).summary in
    let long = fits.summary_long in
    let wide = fits.acks_long in
    let len = length-set s p c in
    record {
      summary = λ o. set_up s p c o (omega arith) up;
      knows = λ q o h j.
          set_up (nodes p).acks p (least (set s p c)) q (omega arith)
          (le_least (set s p c) (entry (nodes p).acks p) (omega arith)
          (λ i b. omega (arith, (w.holds p below).acked.reached p i below (omega arith), set_up s p c i (omega arith) up)));
    }
higher_opened Columns n p c nodes x fits below up w =
    let s = (nodes p).summary in
    let long = fits.summary_long in
    let wide = fits.columns_long in
    record {
      summary = λ o. set_up s p c o (omega arith) up;
      knows = λ q o h j.
          own_up (nodes p).columns p q o (set s p c) (omega arith)
          (λ g.
          let e = ap (λ (t : List ℕ). entry t o) (fits.column_own g) in
          omega (arith, set_up s p c o (omega arith) up));
    }

higher_finished :
    (f : Form) (n p q : ℕ) (mine theirs : Node) → Shaped f n p mine → Shaped f n q theirs → Higher f n mine (finished p mine theirs)
unfolding finished know
higher_finished Vectors n p q mine theirs fits others =
    record {
      summary = finished_up Vectors n p q mine theirs fits others;
      knows = λ i o h j. omega (arith, raise_entry mine.acks theirs.acks i (fits.acks_long ∙ sym others.acks_long));
    }
higher_finished Columns n p q mine theirs fits others =
    let wide = fits.columns_long in
    let theirs_wide = others.columns_long in
    let long = merged_long Columns n p mine fits q theirs others in
    let up : (i o : ℕ) → i < length mine.columns → entry (get_or mine.columns i []) o ≤ entry (get_or (merged mine theirs) i []) o =
    λ i o h.
    omega (
      arith,
      ap (λ (s : List ℕ). entry s o) (column_merged Columns n p mine fits q theirs others i [] h),
      raise_entry (get_or mine.columns i []) (get_or theirs.columns i []) o (fits.column_long i h ∙ sym (others.column_long i (omega arith))),
    )
    in
    record {
      summary = finished_up Columns n p q mine theirs fits others;
      knows = λ i o h j.
          omega (
            arith,
            up i o (omega arith),
            own_up (merged mine theirs) p i o (learnt p mine theirs) (omega arith) (λ g. own-learnt o (omega arith)),
          );
    }
  where
    -- the own column takes the partner's own on top of what it took
    own-learnt : (o : ℕ) → p < length mine.columns → entry (get_or (merged mine theirs) p []) o ≤ entry (learnt p mine theirs) o
    own-learnt o g =
        let lc = fits.column_long p g in
        let lt = fits.columns_long ∙ sym others.columns_long in
        let ld = others.column_long p (omega arith) in
        let some = column_merged Columns n p mine fits q theirs others p mine.summary g in
        let none = column_merged Columns n p mine fits q theirs others p [] g in
        let lr = ap length some ∙ length-raise (get_or mine.columns p []) (get_or theirs.columns p []) n lc ld in
        let same = ap (λ (s : List ℕ). entry s o) (none ∙ sym some) in
        let r = learnt_entry p mine theirs o (lr ∙ sym others.summary_long) in
        omega arith

higher_ended :
    (f : Form) (n p q : ℕ) (g : Bool) (mine theirs : Node) → Shaped f n p mine → Shaped f n q theirs → Higher f n mine (ended g p mine theirs)
higher_ended f n p q true mine theirs fits others = higher_finished f n p q mine theirs fits others
higher_ended f n p q false mine theirs fits others = higher_refl f n mine

higher_at : (f : Form) (n : ℕ) (x y z : Node) → y ≡ z → Higher f n x z → Higher f n x y
higher_at f n x y z e r = rw e r

higher_acted :
    (t : List ℕ) (a : Action) (x : Account) → refusal t a ≡ 0 → Whole (form_of t) (count t) (node t) x → (q : ℕ) → q < count t →
    Higher (form_of t) (count t) (node t q) (node (acted t a) q)
unfolding acted
higher_acted t (Write p c b v) x k w =
    let m = may_write t p c b v k in
    let s = m.is_sound in
    let f = form_of t in
    let n = count t in
    let y = wrote p c b v (node t p) in
    let fits = write_shaped t p c b v m in
    each (λ (q : ℕ). Higher f n (node t q) (node (acted t (Write p c b v)) q)) n p
    (higher_at f n (node t p) (node (acted t (Write p c b v)) p) y (node_same t s p m.here y fits)
    (higher_wrote f n p c b v (node t p) (node_shaped t s p m.here) m.here m.later))
    (λ q h ne.
    higher_at f n (node t q) (node (acted t (Write p c b v)) q) (node t q) (node_other t s p m.here y fits q h ne) (higher_refl f n (node t q)))
higher_acted t (Session a b ca cb o) x k w =
    let m = may_meet t a b ca cb o k in
    let s = m.is_sound in
    let f = form_of t in
    let n = count t in
    let y = opened a ca (node t a) in
    let z = opened b cb (node t b) in
    let sa = node_shaped t s a m.here_a in
    let sb = node_shaped t s b m.here_b in
    let fa = opened_shaped f n a (node t a) sa ca in
    let fb = opened_shaped f n b (node t b) sb cb in
    each (λ (q : ℕ). Higher f n (node t q) (node (acted t (Session a b ca cb o)) q)) n a
    (higher_at f n (node t a) (node (acted t (Session a b ca cb o)) a) (ended (finishes_a o) a y z) (session_a t a b ca cb o m)
    (higher_trans f n (node t a) y (ended (finishes_a o) a y z) (higher_opened f n a ca (node t) x sa m.here_a m.clock_a w)
    (higher_ended f n a b (finishes_a o) y z fa fb)))
    (λ i j ne.
    each (λ (q : ℕ). (q ≡ a → ⊥) → Higher f n (node t q) (node (acted t (Session a b ca cb o)) q)) n b
    (λ na.
    higher_at f n (node t b) (node (acted t (Session a b ca cb o)) b) (ended (finishes_b o) b z y) (session_b t a b ca cb o m)
    (higher_trans f n (node t b) z (ended (finishes_b o) b z y) (higher_opened f n b cb (node t) x sb m.here_b m.clock_b w)
    (higher_ended f n b a (finishes_b o) z y fb fa)))
    (λ q h nb na.
    higher_at f n (node t q) (node (acted t (Session a b ca cb o)) q) (node t q) (session_other t a b ca cb o m q h na nb) (higher_refl f n (node t q)))
    i j ne)
higher_acted t (Purge p) x k w =
    let m = may_purge t p k in
    let s = m.is_sound in
    let f = form_of t in
    let n = count t in
    let y = purged (leaving t p) (node t p) in
    let fits = purge_shaped t p m in
    each (λ (q : ℕ). Higher f n (node t q) (node (acted t (Purge p)) q)) n p
    (higher_at f n (node t p) (node (acted t (Purge p)) p) y (node_same t s p m.here y fits) (higher_purged f n (leaving t p) (node t p)))
    (λ q h ne.
    higher_at f n (node t q) (node (acted t (Purge p)) q) (node t q) (node_other t s p m.here y fits q h ne) (higher_refl f n (node t q)))
higher_acted t (Deliver p) x k w =
    λ q h.
    higher_at (form_of t) (count t) (node t q) (node (acted t (Deliver p)) q) (node t q) (deliver_node t p (may_deliver t p k) q h)
    (higher_refl (form_of t) (count t) (node t q))

mark-acted : (t : List ℕ) (a : Action) → refusal t a ≡ 0 → (q : ℕ) → mark t q ≤ mark (acted t a) q
unfolding raised
mark-acted t (Write p c b v) k q = let e = write_mark t p c b v (may_write t p c b v k) q in omega arith
mark-acted t (Session a b ca cb o) k q = let e = session_mark t a b ca cb o (may_meet t a b ca cb o k) q in omega arith
mark-acted t (Purge p) k q = let e = purge_mark t p (may_purge t p k) q in omega arith
mark-acted t (Deliver p) k q = go (ℕ_discrete q p)
  where
    up : mark t p ≤ mark (acted t (Deliver p)) p
    up = let e = deliver_mark t p (may_deliver t p k) in omega arith

    go : Dec (q ≡ p) → mark t q ≤ mark (acted t (Deliver p)) q
    go (yes e) = rw e up
    go (no ne) = let e = deliver_mark_other t p (may_deliver t p k) q ne in omega arith

-- a table of a form whose node q has entries, things known and a mark that are each no less than in another
pub record Rises (f : Form) (n : ℕ) (t u : List ℕ) (q : ℕ) : Type 0 where
  pub summary : (o : ℕ) → entry (node t q).summary o ≤ entry (node u q).summary o
  pub knows : (i o : ℕ) → i < n → o < n → know f (node t q) i o ≤ know f (node u q) i o
  pub marks : mark t q ≤ mark u q

rises_refl : (f : Form) (n : ℕ) (t : List ℕ) (q : ℕ) → Rises f n t t q
rises_refl f n t q = record { summary = λ o. omega arith; knows = λ i o h j. omega arith; marks = omega arith }

rises_trans : (f : Form) (n : ℕ) (t u v : List ℕ) (q : ℕ) → Rises f n t u q → Rises f n u v q → Rises f n t v q
rises_trans f n t u v q a b =
    record {
      summary = λ o. omega (arith, a.summary o, b.summary o);
      knows = λ i o h j. omega (arith, a.knows i o h j, b.knows i o h j);
      marks = omega (arith, a.marks, b.marks);
    }

pub rises_acted :
    (t : List ℕ) (a : Action) (x : Account) → refusal t a ≡ 0 → Whole (form_of t) (count t) (node t) x → (q : ℕ) → q < count t →
    Rises (form_of t) (count t) t (acted t a) q
rises_acted t a x k w q h =
    let up = higher_acted t a x k w q h in
    record { summary = up.summary; knows = up.knows; marks = mark-acted t a k q }

rises_stepped_at :
    (n : ℕ) (x : Run) (s : Step) (k : ℕ) → refusal x.table s.action ≡ k → Sure n x → (q : ℕ) → q < n →
    Rises (form_of x.table) n x.table (stepped x s).table q
rises_stepped_at n x s zero h u q j =
    rw (stepped-accepted x s h)
    (subst (λ (m : ℕ). Rises (form_of x.table) m x.table (acted x.table s.action) q) u.counted
    (rises_acted x.table s.action x.account h
    (subst (λ (m : ℕ). Whole (form_of x.table) m (node x.table) x.account) (sym u.counted) u.whole) q (rw u.counted j)))
rises_stepped_at n x s (suc k) h u q j = rw (stepped_refused x s k h) (rises_refl (form_of x.table) n x.table q)

rises_befell : (n : ℕ) (x : Run) (e : Event) → Sure n x → (q : ℕ) → q < n → Rises (form_of x.table) n x.table (befell x e).table q
unfolding befell
rises_befell n x (AStep s) u q j = rises_stepped_at n x s (refusal x.table s.action) refl u q j

-- however a run goes on
pub never_down :
    (n : ℕ) (x : Run) → Sure n x → (es : List Event) (q : ℕ) → q < n → Rises (form_of x.table) n x.table (ran x es).table q
unfolding ran
never_down n x u [] q j = rises_refl (form_of x.table) n x.table q
never_down n x u (e ∷ es) q j =
    rises_trans (form_of x.table) n x.table (befell x e).table (ran (befell x e) es).table q
    (rises_befell n x e u q j)
    (subst (λ (f : Form). Rises f n (befell x e).table (ran (befell x e) es).table q) (form_befell x e)
    (never_down n (befell x e) (sure_befell n x e u) es q j))

pub run_never_down :
    (f : Form) (n : ℕ) → 2 ≤ n → n ≤ nodes_most → (es fs : List Event) (q : ℕ) → q < n → Rises f n (run f n es).table (run f n (es ++ fs)).table q
run_never_down f n lo hi es fs q j =
    rw (run-append f n es fs)
    (subst (λ (g : Form). Rises g n (run f n es).table (ran (run f n es) fs).table q) (form_run f n es)
    (never_down n (run f n es) (sure_run f n lo hi es) fs q j))
