-- Laws of what an accepted line says, by its kind.
use mathlib.Core.Path.{◌≡◌, refl, sym, ◌∙◌, ap}
use mathlib.Core.List.{List}
use Prim.Native.Nat.{ℕ}
use native.Mathlib.Omega.{arith}
use lib.ListN.{length, get_or}
use borrow.Author.Tests.{eq-eqb, ne_eqb}
use Rattle.meaning.specs.declared.Action.{Action}
use Rattle.meaning.specs.declared.Said.TheVariants.{Begin, Act}
use Rattle.meaning.specs.Frames.{bytes_of, journal_kinds, widths_in, digits_in, action_of, line_kind, line_fields}
use Rattle.numbers.specs.Numbers.{field_at, Within}
use Rattle.heads.specs.Heads.{Whole, write_at, session_at, purge_at, deliver_at}
use Rattle.heads.proofs.FieldLaws.{fields_from, line_fields_lem, whole_at, action_write, action_session, action_purge, action_deliver}
use Rattle.actions.specs.Actions.{said_of}

module _ (line : ℕ) (l : List ℕ) where
  pub said_start : (n : ℕ) → line_kind (bytes_of l) ≡ 0 → n ≡ field_at l 1 1 → Begin n ≡ said_of line l
  unfolding fields_from widths_in journal_kinds
  said_start n is e =
      let zeroth : get_or (line_fields (bytes_of l)) 0 0 ≡ field_at l 1 1 = ap (λ (f : List ℕ). get_or f 0 0) (line_fields_lem l 0 is) in
      ap Begin (e ∙ sym zeroth) ∙ cc (eq-eqb (line_kind (bytes_of l)) 0 is)

  pub said_act : (x : Action) → (line_kind (bytes_of l) ≡ 0 → ⊥) → x ≡ action_of (line_kind (bytes_of l)) (line_fields (bytes_of l))
      → Act (record { line = line; action = x }) ≡ said_of line l
  said_act x n e = ap (λ (y : Action). Act (record { line = line; action = y })) e ∙ cc (ne_eqb (line_kind (bytes_of l)) 0 n)

-- the bytes and the length of an accepted line of each kind
module _ {l : List ℕ} where
  pub start_in : Whole l 0 → Within l 1 1
  unfolding digits_in widths_in journal_kinds
  start_in w = record { digits = w.digits; room = omega (arith, whole_at 0 w refl) }

  pub write_long : Whole l 1 → length l ≡ 24
  unfolding digits_in widths_in journal_kinds
  write_long w = whole_at 1 w refl

  pub session_long : Whole l 2 → length l ≡ 26
  unfolding digits_in widths_in journal_kinds
  session_long w = whole_at 2 w refl

  pub purge_long : Whole l 3 → length l ≡ 6
  unfolding digits_in widths_in journal_kinds
  purge_long w = whole_at 3 w refl

  pub deliver_long : Whole l 5 → length l ≡ 6
  unfolding digits_in widths_in journal_kinds
  deliver_long w = whole_at 5 w refl

-- what such a line says
module _ (line : ℕ) (l : List ℕ) where
  pub whole_start : (n : ℕ) → Whole l 0 → n ≡ field_at l 1 1 → Begin n ≡ said_of line l
  whole_start n w e = said_start line l n w.is e

  pub whole_write : Whole l 1 → Act (record { line = line; action = write_at l }) ≡ said_of line l
  whole_write w = said_act line l (write_at l) (λ z. omega (arith, w.is)) (action_write l (line_kind (bytes_of l)) refl w.is)

  pub whole_session : Whole l 2 → Act (record { line = line; action = session_at l }) ≡ said_of line l
  whole_session w = said_act line l (session_at l) (λ z. omega (arith, w.is)) (action_session l (line_kind (bytes_of l)) refl w.is)

  pub whole_purge : Whole l 3 → Act (record { line = line; action = purge_at l }) ≡ said_of line l
  whole_purge w = said_act line l (purge_at l) (λ z. omega (arith, w.is)) (action_purge l (line_kind (bytes_of l)) refl w.is)

  pub whole_deliver : Whole l 5 → Act (record { line = line; action = deliver_at l }) ≡ said_of line l
  whole_deliver w = said_act line l (deliver_at l) (λ z. omega (arith, w.is)) (action_deliver l (line_kind (bytes_of l)) refl w.is)

pub ruleset lines = (start_in, write_long, session_long, purge_long, deliver_long, whole_start, whole_write, whole_session, whole_purge, whole_deliver)
