-- What carries the order on the table itself, one of vectors: a fresh table has it, and every step keeps it, accepted or refused.
use mathlib.Core.Path.{◌≡◌, refl, sym, ◌∙◌, subst}
use mathlib.Core.Bool.{true, false}
use mathlib.Core.List.{List, [], ◌∷◌, ◌++◌}
use Prim.Native.Nat.{ℕ, zero, suc, ◌≤◌, ◌<◌, min}
use native.Mathlib.Omega.{arith}
use borrow.Author.Tests.{leb-true}
use Rattle.meaning.specs.declared.Record.{Record}
use Rattle.meaning.specs.declared.Action.{Action}
use Rattle.meaning.specs.declared.Action.TheVariants.{Write, Session, Purge, Deliver}
use Rattle.meaning.specs.declared.Step.{Step}
use Rattle.meaning.specs.Rows.{least}
use Rattle.meaning.specs.Table.{Form, Vectors, form_of, Node, nodes_most, count, mark, node}
use Rattle.meaning.specs.Node.{own, wrote, purged, limit_of, leaves, given, raised}
use Rattle.meaning.specs.Steps.{finishes_a, finishes_b, refusal, leaving, acted}
use Rattle.meaning.specs.Account.{has, Account, noted, Run, stepped, Event, AStep, befell, ran, begun, run}
use Rattle.meaning.specs.Order.{told, told_if, heard, hears, order_of}
use Rattle.meaning.proofs.TableLaws.{node_same, node_other}
use Rattle.meaning.proofs.StepLaws.{
  may_write,
  may_meet,
  may_purge,
  may_deliver,
  write_shaped,
  purge_shaped,
  session_a,
  session_b,
  session_other,
  session_mark,
  write_mark,
  purge_mark,
  deliver_node,
  deliver_mark,
  deliver_mark_other,
  fresh_form,
  fresh-mark,
}
use Rattle.meaning.proofs.AccountLaws.{not_both, entry}
use Rattle.meaning.proofs.AccountSteps.{Whole, each, gains_here, gains_other, taken_a, taken_b, taken_other}
use Rattle.meaning.proofs.AccountTable.{Sure, sure_fresh, sure_befell, form_befell, stepped-accepted, stepped_refused}
use Rattle.meaning.proofs.AccountRises.{rises_acted}
use Rattle.meaning.proofs.OrderLaws.{Rising-nil}
use Rattle.meaning.proofs.OrderNodes.{Told, told_more, mark_behind, told_wrote, told-ended, told-purged, told_delivered}

-- every node's delivered list beside the table's nodes and the account
abbrev pub AllTold : ℕ → List ℕ → Account → (ℕ → List Record) → Type 0
AllTold n t x lists = (q : ℕ) → q < n → Told n x.written (mark t q) (node t q) (x.of q) (lists q)

told_at :
    (n : ℕ) (w : List Record) (i j : ℕ) (x y : Node) (l m list order : List Record) → i ≡ j → x ≡ y → l ≡ m → list ≡ order → Told n w j y m order →
    Told n w i x l list
told_at n w i j x y l m list order d e f g h = rw (d, e, f, g) h

leaves_marked : (m : ℕ) (x : Node) (r : Record) → leaves Vectors m x r ≡ true → r.timestamp ≤ m
unfolding leaves limit_of
leaves_marked m x r h = omega (arith, leb-true r.timestamp (min (least x.acks) m) h)

-- what a purge lets go is at most the mark: a purge that does not look at the mark is refused here
leaving_marked : (t : List ℕ) (p : ℕ) → form_of t ≡ Vectors → (r : Record) → leaving t p r ≡ true → r.timestamp ≤ mark t p
unfolding leaving
leaving_marked t p form r h = go (form_of t) form h
  where
    go : (f : Form) → f ≡ Vectors → leaves f (mark t p) (node t p) r ≡ true → r.timestamp ≤ mark t p
    go f e i = let j = subst (λ (g : Form). leaves g (mark t p) (node t p) r ≡ true) e i in leaves_marked (mark t p) (node t p) r j

-- a write is above every mark that its writer's own entry is not below
later_than : (p c : ℕ) (y : Node) (mark : ℕ) → own p y < c → mark ≤ entry y.summary p → mark < c
unfolding own
later_than p c y mark h j = omega arith

-- An accepted action ---------------------------------------------------------------------------------------------------------------------------

told-acted :
    (t : List ℕ) (a : Action) (x : Account) (lists : ℕ → List Record) → form_of t ≡ Vectors → refusal t a ≡ 0 → Whole (form_of t) (count t) (node t) x →
    AllTold (count t) t x lists → AllTold (count t) (acted t a) (noted a x) (told t a lists)
unfolding acted noted told
told-acted t (Write p c b v) x lists form k w h =
    let m = may_write t p c b v k in
    let s = m.is_sound in
    let new : Record = record { origin = p; timestamp = c; block = b; verdict = v } in
    let y = wrote p c b v (node t p) in
    let fits = write_shaped t p c b v m in
    let same = node_same t s p m.here y fits in
    let more : (q : ℕ) → q < count t → Told (count t) (x.written ++ (new ∷ [])) (mark t q) (node t q) (x.of q) (lists q) =
    λ q j.
    told_more (count t) x.written new (mark t q) (node t q) (x.of q) (lists q)
    (later_than p c (node t p) (mark t q) m.later (mark_behind (form_of t) (count t) (node t) x w p q (mark t q) m.here j (x.of q) (lists q) (h q j)))
    (h q j)
    in
    let up : (o : ℕ) → entry (node t p).summary o ≤ entry y.summary o =
    λ o. subst (λ (z : Node). entry (node t p).summary o ≤ entry z.summary o) same ((rises_acted t (Write p c b v) x k w p m.here).summary o)
    in
    let after = acted t (Write p c b v) in
    let stays = write_mark t p c b v m in
    each (λ (q : ℕ). Told (count t) (x.written ++ (new ∷ [])) (mark after q) (node after q) ((noted (Write p c b v) x).of q) (lists q)) (count t) p
    (told_at (count t) _ (mark after p) (mark t p) (node after p) y _ (x.of p ++ (new ∷ [])) (lists p) (lists p) (stays p) same
    (gains_here p (new ∷ []) x.of) refl
    (told_wrote (form_of t) (count t) (node t) x w p c b v _ (mark t p) (lists p) up (more p m.here)))
    (λ q j ne.
    told_at (count t) _ (mark after q) (mark t q) (node after q) (node t q) _ (x.of q) (lists q) (lists q) (stays q)
    (node_other t s p m.here y fits q j ne)
    (gains_other p (new ∷ []) x.of q ne) refl (more q j))
told-acted t (Session a b ca cb o) x lists form k w h =
    let m = may_meet t a b ca cb o k in
    let f = finishes_a o in
    let g = finishes_b o in
    let after = acted t (Session a b ca cb o) in
    let stays = session_mark t a b ca cb o m in
    let at_a = session_a t a b ca cb o m in
    let at_b = session_b t a b ca cb o m in
    let up : (q : ℕ) → q < count t → (z : Node) → node after q ≡ z → (i : ℕ) → entry (node t q).summary i ≤ entry z.summary i =
    λ q j z e i. subst (λ (y : Node). entry (node t q).summary i ≤ entry y.summary i) e ((rises_acted t (Session a b ca cb o) x k w q j).summary i)
    in
    each (λ (q : ℕ). Told (count t) x.written (mark after q) (node after q) ((noted (Session a b ca cb o) x).of q) (lists q)) (count t) a
    (told_at (count t) _ (mark after a) (mark t a) (node after a) _ _ _ (lists a) (lists a) (stays a) at_a (taken_a f g a b x.of m.apart) refl
    (told-ended (form_of t) (count t) (node t) x w f a b ca cb (mark t a) m.here_a m.here_b (lists a) (up a m.here_a _ at_a) (h a m.here_a)))
    (λ i j ne.
    each (λ (q : ℕ). (q ≡ a → ⊥) → Told (count t) x.written (mark after q) (node after q) ((noted (Session a b ca cb o) x).of q) (lists q)) (count t) b
    (λ na.
    told_at (count t) _ (mark after b) (mark t b) (node after b) _ _ _ (lists b) (lists b) (stays b) at_b (taken_b f g a b x.of na) refl
    (told-ended (form_of t) (count t) (node t) x w g b a cb ca (mark t b) m.here_b m.here_a (lists b) (up b m.here_b _ at_b) (h b m.here_b)))
    (λ q l nb na.
    told_at (count t) _ (mark after q) (mark t q) (node after q) (node t q) _ (x.of q) (lists q) (lists q) (stays q)
    (session_other t a b ca cb o m q l na nb) (taken_other f g a b x.of q na nb) refl (h q l))
    i j ne)
told-acted t (Purge p) x lists form k w h =
    let m = may_purge t p k in
    let s = m.is_sound in
    let y = purged (leaving t p) (node t p) in
    let fits = purge_shaped t p m in
    let after = acted t (Purge p) in
    let stays = purge_mark t p m in
    each (λ (q : ℕ). Told (count t) x.written (mark after q) (node after q) (x.of q) (lists q)) (count t) p
    (told_at (count t) _ (mark after p) (mark t p) (node after p) y (x.of p) (x.of p) (lists p) (lists p) (stays p) (node_same t s p m.here y fits) refl
    refl
    (told-purged (form_of t) (count t) (node t) x w p (leaving t p) (mark t p) (lists p) (leaving_marked t p form) (h p m.here)))
    (λ q j ne.
    told_at (count t) _ (mark after q) (mark t q) (node after q) (node t q) (x.of q) (x.of q) (lists q) (lists q) (stays q)
    (node_other t s p m.here y fits q j ne) refl refl (h q j))
told-acted t (Deliver p) x lists form k w h =
    let m = may_deliver t p k in
    let new = given (mark t p) (node t p) in
    let after = acted t (Deliver p) in
    each (λ (q : ℕ). Told (count t) x.written (mark after q) (node after q) (x.of q) (told t (Deliver p) lists q)) (count t) p
    (told_at (count t) _ (mark after p) (raised (mark t p) (node t p)) (node after p) (node t p) (x.of p) (x.of p) _ (lists p ++ new)
    (deliver_mark t p m) (deliver_node t p m p m.here) refl
    (gains_here p new lists)
    (told_delivered (form_of t) (count t) (node t) x w p (mark t p) m.here (lists p) (h p m.here)))
    (λ q j ne.
    told_at (count t) _ (mark after q) (mark t q) (node after q) (node t q) (x.of q) (x.of q) _ (lists q)
    (deliver_mark_other t p m q ne) (deliver_node t p m q j) refl
    (gains_other p new lists q ne) (h q j))

-- A run with the lists beside it -----------------------------------------------------------------------------------------------------------------

pub record Ordered (n : ℕ) (x : Run) (lists : ℕ → List Record) : Type 0 where
  pub form : form_of x.table ≡ Vectors
  pub sure : Sure n x
  pub tells : AllTold n x.table x.account lists

ordered_fresh : (n : ℕ) → 2 ≤ n → n ≤ nodes_most → Ordered n (begun Vectors n) (λ p. [])
unfolding has
ordered_fresh n lo hi =
    record {
      form = fresh_form Vectors n;
      sure = sure_fresh Vectors n lo hi;
      tells = λ q h.
          record {
            low = λ o j. omega (arith, fresh-mark Vectors n q (omega arith));
            rises = Rising-nil;
            exact = λ r. refl;
            above = λ r a. not_both false a refl;
          };
    }

tells_acted :
    (n : ℕ) (x : Run) (a : Action) (lists : ℕ → List Record) → refusal x.table a ≡ 0 → Ordered n x lists →
    AllTold n (acted x.table a) (noted a x.account) (told x.table a lists)
tells_acted n x a lists k u =
    let c = u.sure.counted in
    subst (λ (m : ℕ). AllTold m (acted x.table a) (noted a x.account) (told x.table a lists)) c
    (told-acted x.table a x.account lists u.form k
    (subst (λ (m : ℕ). Whole (form_of x.table) m (node x.table) x.account) (sym c) u.sure.whole)
    (subst (λ (m : ℕ). AllTold m x.table x.account lists) (sym c) u.tells))

tells_stepped :
    (n : ℕ) (x : Run) (s : Step) (lists : ℕ → List Record) (k : ℕ) → refusal x.table s.action ≡ k → Ordered n x lists →
    AllTold n (stepped x s).table (stepped x s).account (told_if k x.table s.action lists)
tells_stepped n x s lists zero h u =
    subst (λ (y : Run). AllTold n y.table y.account (told x.table s.action lists)) (sym (stepped-accepted x s h))
    (tells_acted n x s.action lists h u)
tells_stepped n x s lists (suc k) h u =
    subst (λ (y : Run). AllTold n y.table y.account lists) (sym (stepped_refused x s k h)) u.tells

ordered_befell : (n : ℕ) (x : Run) (e : Event) (lists : ℕ → List Record) → Ordered n x lists → Ordered n (befell x e) (heard x e lists)
unfolding befell heard
ordered_befell n x (AStep s) lists u =
    record {
      form = form_befell x (AStep s) ∙ u.form;
      sure = sure_befell n x (AStep s) u.sure;
      tells = tells_stepped n x s lists (refusal x.table s.action) refl u;
    }

pub ordered_ran : (n : ℕ) (x : Run) (lists : ℕ → List Record) (es : List Event) → Ordered n x lists → Ordered n (ran x es) (hears x lists es)
unfolding ran hears
ordered_ran n x lists [] u = u
ordered_ran n x lists (e ∷ es) u = ordered_ran n (befell x e) (heard x e lists) es (ordered_befell n x e lists u)

pub ordered_run : (n : ℕ) → 2 ≤ n → n ≤ nodes_most → (es : List Event) → Ordered n (run Vectors n es) (order_of n es)
unfolding run order_of
ordered_run n lo hi es = ordered_ran n (begun Vectors n) (λ p. []) es (ordered_fresh n lo hi)
