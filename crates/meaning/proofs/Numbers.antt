-- Refusals are from document 01's lists, and no step changes a word that belongs to no node below n.
use mathlib.Core.Path.{◌≡◌, refl, ap, ◌∙◌}
use mathlib.Core.Bool.{true}
use mathlib.Core.List.{List, ◌∷◌}
use Prim.Native.Nat.{ℕ, zero, suc, ◌<◌}
use native.Mathlib.Omega.{arith}
use lib.ListN.{get_or}
use Rattle.meaning.specs.declared.Action.{Action}
use Rattle.meaning.specs.declared.Action.TheVariants.{Write, Session, Purge, Deliver}
use Rattle.meaning.specs.Table.{Form, form_of, mark_at, Node, count, mark, node, put_node, put_mark, Sound, Shaped}
use Rattle.meaning.specs.Node.{wrote, purged, raised}
use Rattle.meaning.specs.Steps.{refusals, refusal, leaving, acted, after}
use Rattle.meaning.specs.Frames.{line_tests, line_refusal}
use Rattle.meaning.proofs.PieceLaws.{Region, region, Apart, Apart-cons}
use Rattle.meaning.proofs.TableLaws.{regions, put_word_away, mark_word_away}
use Rattle.meaning.proofs.RefusalLaws.{listed, first_listed}
use Rattle.meaning.proofs.StepLaws.{
  after-accepted,
  after_refused,
  may_write,
  may_meet,
  may_purge,
  may_deliver,
  write_shaped,
  purge_shaped,
  side_a,
  side_b,
  side_a_shaped,
  halfway,
  halfway_count,
  halfway_form,
  halfway_sound,
  halfway_here,
  halfway_shaped,
}

-- A step's refusal is one of its action's numbers, and 0 is none
pub refusal_listed : (t : List ℕ) (x : Action) → listed (refusal t x) (refusals t x) ≡ true
unfolding refusal
refusal_listed t x = first_listed (refusals t x)

-- where a mark stands
abbrev mark_of : Form → ℕ → Region
mark_of f p = region (mark_at f p) 1

-- A word that stands in no row, held number, log or mark of a node below n
pub Outside : Form → ℕ → ℕ → Type 0
Outside f n i = (p : ℕ) → p < n → Apart i 1 (mark_of f p ∷ regions f n p)

put_outside :
    (t : List ℕ) (s : Sound t) (p : ℕ) (h : p < count t) (x : Node) → Shaped (form_of t) (count t) p x → (i : ℕ) → Outside (form_of t) (count t) i →
    get_or (put_node p x t) i 0 ≡ get_or t i 0
unfolding Outside
put_outside t s p h x fits i out = go (out p h)
  where
    go : Apart i 1 (mark_of (form_of t) p ∷ regions (form_of t) (count t) p) → get_or (put_node p x t) i 0 ≡ get_or t i 0
    go (Apart-cons marked apart) = put_word_away t s p h x fits i apart

mark_outside :
    (t : List ℕ) (s : Sound t) (p : ℕ) (h : p < count t) (m i : ℕ) → Outside (form_of t) (count t) i → get_or (put_mark p m t) i 0 ≡ get_or t i 0
unfolding Outside
mark_outside t s p h m i out = go (out p h)
  where
    go : Apart i 1 (mark_of (form_of t) p ∷ regions (form_of t) (count t) p) → get_or (put_mark p m t) i 0 ≡ get_or t i 0
    go (Apart-cons marked apart) = mark_word_away t s p h m i (λ u v. marked u (omega arith))

acted_outside : (t : List ℕ) (x : Action) → refusal t x ≡ 0 → (i : ℕ) → Outside (form_of t) (count t) i → get_or (acted t x) i 0 ≡ get_or t i 0
unfolding acted
acted_outside t (Write p c b v) k i out =
    let m = may_write t p c b v k in
    put_outside t m.is_sound p m.here (wrote p c b v (node t p)) (write_shaped t p c b v m) i out
acted_outside t (Session a b ca cb o) k i out =
    let m = may_meet t a b ca cb o k in
    let e = halfway_count t a b ca cb o m in
    let e' = halfway_form t a b ca cb o m in
    put_outside (halfway t a b ca cb o m) (halfway_sound t a b ca cb o m) b (halfway_here t a b ca cb o m) (side_b t a b ca cb o)
    (halfway_shaped t a b ca cb o m) i (rw (e, e') out) ∙
    put_outside t m.is_sound a m.here_a (side_a t a b ca cb o) (side_a_shaped t a b ca cb o m) i out
acted_outside t (Purge p) k i out =
    let m = may_purge t p k in
    put_outside t m.is_sound p m.here (purged (leaving t p) (node t p)) (purge_shaped t p m) i out
acted_outside t (Deliver p) k i out =
    let m = may_deliver t p k in
    mark_outside t m.is_sound p m.here (raised (mark t p) (node t p)) i out

-- "Rows and entries at or beyond n take no part and are never changed by a step."
pub after_outside : (t : List ℕ) (x : Action) (i : ℕ) → Outside (form_of t) (count t) i → get_or (after t x) i 0 ≡ get_or t i 0
after_outside t x i out = go (refusal t x) refl
  where
    go : (k : ℕ) → refusal t x ≡ k → get_or (after t x) i 0 ≡ get_or t i 0
    go zero h = ap (λ (u : List ℕ). get_or u i 0) (after-accepted t x h) ∙ acted_outside t x h i out
    go (suc k) h = ap (λ (u : List ℕ). get_or u i 0) (after_refused t x k h)

-- A single line's refusal is one of its tests' numbers: 12, 18, 11, 19, 20, 13 or 15, and 0 is none
pub line_listed : (l : List ℕ) → listed (line_refusal l) (line_tests l) ≡ true
unfolding line_refusal
line_listed l = first_listed (line_tests l)
