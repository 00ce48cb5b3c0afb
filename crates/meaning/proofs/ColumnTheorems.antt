-- Document 02, T-06, of columns: "marks are kept but not read and there is no delivery". No delivery is accepted, no step of any kind changes a mark, so
-- that every mark of a run stays 0 and nothing is ever delivered, and what a purge removes and tells does not depend on a mark.
use mathlib.Core.Path.{◌≡◌, refl, sym, ap, ◌∙◌}
use mathlib.Core.Bool.{true≢false}
use mathlib.Core.List.{List, [], ◌∷◌}
use Prim.Native.Nat.{ℕ, zero, suc, ◌<◌}
use Rattle.meaning.specs.declared.Record.{Record}
use Rattle.meaning.specs.declared.Action.{Action}
use Rattle.meaning.specs.declared.Action.TheVariants.{Write, Session, Purge, Deliver}
use Rattle.meaning.specs.Table.{Columns, form_of, nodes_most, Node, mark}
use Rattle.meaning.specs.Node.{leaves}
use Rattle.meaning.specs.Steps.{on_columns, refusal, acted, after}
use Rattle.meaning.specs.Account.{Run, stepped, Event, AStep, befell, ran, begun, run}
use Rattle.meaning.specs.Order.{told, told_if, heard, hears}
use Rattle.meaning.proofs.StepLaws.{
  may_write,
  may_meet,
  may_purge,
  may_deliver,
  write_mark,
  session_mark,
  purge_mark,
  after-accepted,
  after_refused,
  fresh_form,
  fresh-mark,
}
use Rattle.meaning.proofs.AccountTable.{form_befell}

-- the mark is not read
pub mark-unread : (m k : ℕ) (x : Node) (r : Record) → leaves Columns m x r ≡ leaves Columns k x r
unfolding leaves
mark-unread m k x r = refl

module _ (t : List ℕ) (form : form_of t ≡ Columns) where
  -- a delivery is refused
  pub never_delivers : (p : ℕ) → refusal t (Deliver p) ≡ 0 → ⊥
  never_delivers p k = true≢false (ap on_columns (sym form ∙ (may_deliver t p k).form))

  acted_marks : (a : Action) → refusal t a ≡ 0 → (q : ℕ) → mark (acted t a) q ≡ mark t q
  acted_marks (Write p c b v) k q = write_mark t p c b v (may_write t p c b v k) q
  acted_marks (Session a b ca cb o) k q = session_mark t a b ca cb o (may_meet t a b ca cb o k) q
  acted_marks (Purge p) k q = purge_mark t p (may_purge t p k) q
  acted_marks (Deliver p) k q = absurd (never_delivers p k)

  -- no step changes a mark
  pub marks_kept : (a : Action) (q : ℕ) → mark (after t a) q ≡ mark t q
  marks_kept a q = go (refusal t a) refl
    where
      go : (k : ℕ) → refusal t a ≡ k → mark (after t a) q ≡ mark t q
      go zero h = ap (λ (u : List ℕ). mark u q) (after-accepted t a h) ∙ acted_marks a h q
      go (suc k) h = ap (λ (u : List ℕ). mark u q) (after_refused t a k h)

  -- and no step gives a record
  told-nothing : (a : Action) (lists : ℕ → List Record) (k : ℕ) → refusal t a ≡ k → told_if k t a lists ≡ lists
  unfolding told
  told-nothing (Write p c b v) lists zero h = refl
  told-nothing (Session a b ca cb o) lists zero h = refl
  told-nothing (Purge p) lists zero h = refl
  told-nothing (Deliver p) lists zero h = absurd (never_delivers p h)
  told-nothing a lists (suc k) h = refl

-- So of a run
befell_marks : (x : Run) (e : Event) → form_of x.table ≡ Columns → (q : ℕ) → mark (befell x e).table q ≡ mark x.table q
unfolding befell stepped
befell_marks x (AStep s) form q = marks_kept x.table form s.action q

pub ran_marks : (x : Run) (es : List Event) → form_of x.table ≡ Columns → (q : ℕ) → mark (ran x es).table q ≡ mark x.table q
unfolding ran
ran_marks x [] form q = refl
ran_marks x (e ∷ es) form q = ran_marks (befell x e) es (form_befell x e ∙ form) q ∙ befell_marks x e form q

pub run_marks : (n : ℕ) (es : List Event) (q : ℕ) → q < nodes_most → mark (run Columns n es).table q ≡ 0
unfolding run
run_marks n es q h = ran_marks (begun Columns n) es (fresh_form Columns n) q ∙ fresh-mark Columns n q h

pub hears-nothing : (x : Run) (lists : ℕ → List Record) (es : List Event) → form_of x.table ≡ Columns → hears x lists es ≡ lists
unfolding hears heard
hears-nothing x lists [] form = refl
hears-nothing x lists (AStep s ∷ es) form =
    hears-nothing (befell x (AStep s)) (heard x (AStep s) lists) es (form_befell x (AStep s) ∙ form) ∙
    told-nothing x.table form s.action lists (refusal x.table s.action) refl
