-- Laws of one line by its six words: what its first word tells, and that the step of its words is the line's step.
use mathlib.Core.Path.{◌≡◌, refl, sym, ap, ◌∙◌}
use mathlib.Core.Bool.{Bool, true, false}
use mathlib.Core.List.{List, [], ◌∷◌}
use Prim.Native.Nat.{ℕ, zero, suc, ◌<◌}
use native.Mathlib.Omega.{arith}
use lib.ListN.{get_or, drop}
use lib.Dec.{eqb, ltb}
use borrow.Author.Tests.{eqb-true, eqb-false, eq-eqb, ne_eqb, ltb-true}
use Rattle.meaning.specs.declared.Action.{Action}
use Rattle.meaning.specs.declared.Action.TheVariants.{Write, Session, Purge, Deliver}
use Rattle.meaning.specs.declared.Step.{Step}
use Rattle.std.specs.Prelude.{Option, Some, None, Ok, Err}
use Rattle.meaning.specs.declared.Fault.{Fault}
use Rattle.meaning.specs.declared.Said.TheVariants.{Begin, Act}
use Rattle.meaning.specs.declared.Refusal.TheVariants.{StartWrong}
use Rattle.meaning.specs.Refusals.{answered_at, fault}
use Rattle.meaning.proofs.RefusalLaws.{fault_name}
use Rattle.meaning.specs.Table.{place}
use Rattle.meaning.specs.Steps.{Reply, reply, after}
use Rattle.meaning.specs.Frames.{
  bytes_of,
  journal_kinds,
  widths_in,
  kind_of,
  fields_of,
  fit,
  wide,
  line_kind,
  line_refusal,
  line_place,
  Line,
  meant,
  read_line,
  line_values,
  padded,
  six_values,
  ReadWords,
}
use Rattle.meaning.specs.Lines.{of_step, reply_to, left_by, line_reply, line_after}
use Rattle.meaning.proofs.RowLaws.{and_left, and_right}
use Rattle.meaning.proofs.FrameLaws.{words_refused, words_full, read_refused, read_none}
use Rattle.meaning.proofs.FrameTheorems.{step_framed}
use Rattle.looks.specs.Applied.{Applied}
use Rattle.oneline.specs.OneLine.{step_in, step_at, AppliedLine}

-- the words lent, and the six of a line put over them
abbrev zeros : List ℕ
zeros = 0 ∷ 0 ∷ 0 ∷ 0 ∷ 0 ∷ 0 ∷ []

abbrev six : Line → List ℕ
six x = place 0 (padded 6 (drop 2 (line_values x))) zeros

abbrev six_of : Action → List ℕ
six_of x = place 0 (padded 6 (kind_of x ∷ fields_of x)) zeros

-- the line's number is the step's only: what the line does to a table goes without it
unnumbered : (t l : List ℕ) → (reply_to t (read_line 0 l) ≡ line_reply t l) × (left_by t (read_line 0 l) ≡ line_after t l)
unfolding line_reply line_after read_line
unnumbered t l = go (line_refusal l) (eqb (line_kind (bytes_of l)) 0)
  where
    said : ℕ → ℕ → Bool → Line
    said line k b = answered_at k (line_place l) (meant line (bytes_of l) b)

    go : (k : ℕ) (b : Bool) → (reply_to t (said 0 k b) ≡ reply_to t (said 1 k b)) × (left_by t (said 0 k b) ≡ left_by t (said 1 k b))
    go zero true = (refl, refl)
    go zero false = (refl, refl)
    go (suc k) b = (refl, refl)

by_line : (t l : List ℕ) (x : Line) → read_line 0 l ≡ x → AppliedLine t l (reply_to t x) (left_by t x)
by_line t l x e = (ap (reply_to t) (sym e) ∙ (unnumbered t l).0, ap (left_by t) (sym e) ∙ (unnumbered t l).1)

-- the first word of a step is not 0
kind_some : (x : Action) → kind_of x ≡ 0 → ⊥
kind_some (Write p t b v) e = omega (arith, e)
kind_some (Session a b ca cb o) e = omega (arith, e)
kind_some (Purge p) e = omega (arith, e)
kind_some (Deliver p) e = omega (arith, e)

-- a line with no refusal is a start or a step
abbrev Accepted : Line → Type 0
Accepted (Ok x) = Unit
Accepted (Err f) = ⊥

not_refused : (l : List ℕ) → line_refusal l ≡ 0 → Accepted (read_line 0 l)
unfolding read_line
not_refused l z = rw z (go (eqb (line_kind (bytes_of l)) 0))
  where
    go : (b : Bool) → Accepted (Ok (meant 0 (bytes_of l) b))
    go b = tt

-- the first of a step's six words is its kind
kind_told : (x : Action) (v : List ℕ) → v ≡ six_of x → get_or v 0 0 ≡ kind_of x
unfolding place padded
kind_told x v e = ap (λ (w : List ℕ). get_or w 0 0) e

-- the step of six words, by their first
module _ (kind a b c d e : ℕ) where
  pub in_write : kind ≡ 1 → Write a b c d ≡ step_in kind a b c d e
  unfolding step_in
  in_write h = cc (eq-eqb kind 1 h)

  pub in_session : kind ≡ 2 → Session a b c d e ≡ step_in kind a b c d e
  unfolding step_in
  in_session h = cc (ne_eqb kind 1 (λ f. omega (arith, h, f)), eq-eqb kind 2 h)

  pub in_deliver : kind ≡ 5 → Deliver a ≡ step_in kind a b c d e
  unfolding step_in
  in_deliver h = cc (ne_eqb kind 1 (λ f. omega (arith, h, f)), ne_eqb kind 2 (λ f. omega (arith, h, f)), eq-eqb kind 5 h)

  pub in_purge : (kind ≡ 1 → ⊥) → (kind ≡ 2 → ⊥) → (kind ≡ 5 → ⊥) → Purge a ≡ step_in kind a b c d e
  unfolding step_in
  in_purge h k m = cc (ne_eqb kind 1 h, ne_eqb kind 2 k, ne_eqb kind 5 m)

  -- the words that are fields of one byte
  module _ (h : wide (step_in kind a b c d e) ≡ true) where
    pub first_byte : a < 256
    unfolding wide widths_in journal_kinds
    first_byte = go (eqb kind 1) (eqb kind 2) (eqb kind 5) refl refl refl
      where
        go : (x y z : Bool) → eqb kind 1 ≡ x → eqb kind 2 ≡ y → eqb kind 5 ≡ z → a < 256
        go true y z p q r = ltb-true a 256 (and_left _ _ (ap wide (in_write (eqb-true kind 1 p)) ∙ h))
        go false true z p q r = ltb-true a 256 (and_left _ _ (ap wide (in_session (eqb-true kind 2 q)) ∙ h))
        go false false true p q r = ltb-true a 256 (and_left _ _ (ap wide (in_deliver (eqb-true kind 5 r)) ∙ h))
        go false false false p q r =
            ltb-true a 256 (and_left _ _ (ap wide (in_purge (eqb-false kind 1 p) (eqb-false kind 2 q) (eqb-false kind 5 r)) ∙ h))

    pub verdict_byte : kind ≡ 1 → d < 256
    unfolding wide widths_in journal_kinds
    verdict_byte k =
        let from_t = and_right (ltb a 256) (fit (4 ∷ 4 ∷ 1 ∷ []) (b ∷ c ∷ d ∷ [])) (ap wide (in_write k) ∙ h) in
        let from_b = and_right (ltb b 4294967296) (fit (4 ∷ 1 ∷ []) (c ∷ d ∷ [])) from_t in
        let from_w = and_right (ltb c 4294967296) (fit (1 ∷ []) (d ∷ [])) from_b in
        ltb-true d 256 (and_left (ltb d 256) true from_w)

    pub session_bytes : kind ≡ 2 → (b < 256) × (e < 256)
    unfolding wide widths_in journal_kinds
    session_bytes k =
        let from_b = and_right (ltb a 256) (fit (1 ∷ 4 ∷ 4 ∷ 1 ∷ []) (b ∷ c ∷ d ∷ e ∷ [])) (ap wide (in_session k) ∙ h) in
        let from_ca = and_right (ltb b 256) (fit (4 ∷ 4 ∷ 1 ∷ []) (c ∷ d ∷ e ∷ [])) from_b in
        let from_cb = and_right (ltb c 4294967296) (fit (4 ∷ 1 ∷ []) (d ∷ e ∷ [])) from_ca in
        let from_o = and_right (ltb d 4294967296) (fit (1 ∷ []) (e ∷ [])) from_cb in
        (ltb-true b 256 (and_left (ltb b 256) (fit (4 ∷ 4 ∷ 1 ∷ []) (c ∷ d ∷ e ∷ [])) from_b), ltb-true e 256 (and_left (ltb e 256) true from_o))

-- the step of a step's six words is that step
step_told : (x : Action) (v : List ℕ) → v ≡ six_of x → step_at v ≡ x
unfolding step_in place padded
step_told (Write p t b w) v e = rw e refl
step_told (Session a b ca cb o) v e = rw e refl
step_told (Purge p) v e = rw e refl
step_told (Deliver p) v e = rw e refl

pub applied_as : (t : List ℕ) {a x : Action} {r : Reply} {t' : List ℕ} → a ≡ x → Applied t a r t' → Applied t x r t'
applied_as t e d = (d.0 ∙ ap (reply t) e, d.1 ∙ ap (after t) e)

-- A line that is a step, and its words
pub record Steps (l v : List ℕ) : Type 0 where
  pub step : Step
  pub says : read_line 0 l ≡ Ok (Act step)
  pub words : v ≡ six_of step.action

-- one line read into six words that were 0
module _ (t l v : List ℕ) (f : Option Fault) (read : ReadWords l zeros f v) where
  pub word_refused : (x : Fault) → f ≡ Some x → AppliedLine t l (Err x) t
  word_refused x is =
      let wrong : line_refusal l ≡ 0 → ⊥ = λ z. not_both x (sym is ∙ read.0 ∙ sym (words_full l zeros z (omega arith)).0) in
      let fault = (words_refused l zeros wrong).0 ∙ sym read.0 ∙ is in
      by_line t l (Err x) (sym (read_refused 0 l x fault))
    where
      not_both : (y : Fault) → Some y ≡ None → ⊥
      not_both y e = let z : ◌≡◌ {A = ℕ} 0 1 = cc in omega arith

  module _ (fine : f ≡ None) where
    clear : line_refusal l ≡ 0
    clear = go (eqb (line_refusal l) 0) refl
      where
        go : (b : Bool) → eqb (line_refusal l) 0 ≡ b → line_refusal l ≡ 0
        go true x = eqb-true (line_refusal l) 0 x
        go false x = read_none l ((words_refused l zeros (eqb-false (line_refusal l) 0 x)).0 ∙ sym read.0 ∙ fine)

    told : v ≡ six (read_line 0 l)
    unfolding six_values
    told = read.1 ∙ sym (words_full l zeros clear (omega arith)).1

    -- a start
    pub word_start : get_or v 0 0 ≡ 0 → AppliedLine t l (Err (record { refusal = StartWrong; place = 0 })) t
    unfolding place padded
    word_start z = rw (sym (fault_name StartWrong 15 0 refl)) (go (read_line 0 l) refl (not_refused l clear) told)
      where
        go : (x : Line) → read_line 0 l ≡ x → Accepted x → v ≡ six x → AppliedLine t l (Err (fault 15 0)) t
        go (Ok (Begin n)) e a w = by_line t l (Ok (Begin n)) e
        go (Ok (Act s)) e a w = absurd (kind_some s.action (sym (kind_told s.action v w) ∙ z))
        go (Err x) e a w = absurd a

    -- a step
    pub word_step : (get_or v 0 0 ≡ 0 → ⊥) → Steps l v
    unfolding place padded
    word_step h = go (read_line 0 l) refl (not_refused l clear) told
      where
        go : (x : Line) → read_line 0 l ≡ x → Accepted x → v ≡ six x → Steps l v
        go (Ok (Begin n)) e a w = absurd (h (ap (λ (y : List ℕ). get_or y 0 0) w))
        go (Ok (Act s)) e a w = record { step = s; says = e; words = w }
        go (Err x) e a w = absurd a

-- its fields fit, and what it does to a table
module _ (l v : List ℕ) (x : Steps l v) where
  pub fits : wide (step_at v) ≡ true
  fits = ap wide (step_told x.step.action v x.words) ∙ (step_framed 0 l x.step x.says).fits

  pub stepped : (t : List ℕ) {r : Reply} {t' : List ℕ} → Applied t (step_at v) r t' → AppliedLine t l (of_step r) t'
  stepped t d =
      let is = applied_as t (step_told x.step.action v x.words) d in
      let done = by_line t l (Ok (Act x.step)) x.says in
      (ap of_step is.0 ∙ done.0, is.1 ∙ done.1)
