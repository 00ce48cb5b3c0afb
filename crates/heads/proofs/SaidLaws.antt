-- What a line says once the quick way is sure of it: a write, a session, a purge, a delivery or a start by its digits' numbers. For the reader of one
-- line and for a journal's loop.
use mathlib.Core.Path.{◌≡◌, refl, sym, ◌∙◌, ap}
use mathlib.Core.List.{List}
use Prim.Native.Nat.{ℕ, ◌+◌, ◌*◌, ◌≤◌}
use native.Mathlib.Omega.{arith}
use lib.ListN.{length, get_or, drop, length-drop}
use Rattle.meaning.specs.declared.Action.{Action}
use Rattle.meaning.specs.declared.Action.TheVariants.{Write, Session, Purge, Deliver}
use Rattle.meaning.specs.declared.Said.TheVariants.{Begin, Act}
use Rattle.meaning.specs.Frames.{bytes_of, journal_kinds, widths_in, action_of, line_kind, line_fields, read_line}
use Rattle.meaning.proofs.FrameLaws.{Good, clear, read_begin, read_act}
use Rattle.digits.specs.Digits.{sum_of, values_of}
use Rattle.numbers.specs.Numbers.{joined_at, field_at}
use Rattle.numbers.proofs.NumberLaws.{joined_field, field_after}
use Rattle.std.specs.Prelude.{Ok, Some}
use Rattle.heads.specs.declared.Short.{Short}
use Rattle.heads.specs.Heads.{short_of, write_at, session_at}
use Rattle.heads.proofs.FieldLaws.{fields_from, line_fields_lem, action_write, action_session, action_purge, action_deliver}
use Rattle.heads.proofs.QuickLaws.{write_is, write_good, session_is, session_good, short_tells}

-- the step of a line that is not refused
act : (line : ℕ) (l : List ℕ) (x : Action) → Good l → (line_kind (bytes_of l) ≡ 0 → ⊥) → x ≡ action_of (line_kind (bytes_of l)) (line_fields (bytes_of l))
    → Ok (Act (record { line = line; action = x })) ≡ read_line line l
act line l x g h e = ap (λ (y : Action). Ok (Act (record { line = line; action = y }))) e ∙ read_act line l (clear l g) h

-- a write of 24 characters, by its digits' numbers
abbrev pub write_of : List ℕ → Action
write_of v = Write (joined_at v 2 1) (joined_at v 4 4) (joined_at v 12 4) (joined_at v 20 1)

pub write_fields : (l : List ℕ) → length l ≡ 24 → write_of (values_of l) ≡ write_at l
write_fields l long =
    let node : joined_at (values_of l) 2 1 ≡ field_at l 1 1 = joined_field l 1 1 (omega arith) in
    let timestamp : joined_at (values_of l) 4 4 ≡ field_at l 2 4 = joined_field l 2 4 (omega arith) in
    let block : joined_at (values_of l) 12 4 ≡ field_at l 6 4 = joined_field l 6 4 (omega arith) in
    let verdict : joined_at (values_of l) 20 1 ≡ field_at l 10 1 = joined_field l 10 1 (omega arith) in
    λ i. Write (node i) (timestamp i) (block i) (verdict i)

pub write_line_lem : (line : ℕ) (l : List ℕ) → length l ≡ 24 → get_or l 0 0 ≡ 48 → get_or l 1 0 ≡ 49 → Some 0 ≡ sum_of l
    → Ok (Act (record { line = line; action = write_of (values_of l) })) ≡ read_line line l
write_line_lem line l long p q e =
    let is = write_is l long p q in
    act line l (write_of (values_of l)) (write_good l long p q e) (omega (arith, is))
    (write_fields l long ∙ action_write l (line_kind (bytes_of l)) refl is)

-- a session of 26 characters, by the numbers of the digits after its kind
abbrev pub session_of : List ℕ → Action
session_of v = Session (joined_at v 0 1) (joined_at v 2 1) (joined_at v 4 4) (joined_at v 12 4) (joined_at v 20 1)

module _ (l : List ℕ) (long : length l ≡ 26) where
  field_of : (at w : ℕ) → at + w ≤ 12 → joined_at (values_of (drop 2 l)) (2 * at) w ≡ field_at l (1 + at) w
  field_of at w h = joined_field (drop 2 l) at w (omega (arith, length-drop 2 l)) ∙ field_after l at w

  pub session_fields : session_of (values_of (drop 2 l)) ≡ session_at l
  session_fields =
      let a : joined_at (values_of (drop 2 l)) 0 1 ≡ field_at l 1 1 = field_of 0 1 (omega arith) in
      let b : joined_at (values_of (drop 2 l)) 2 1 ≡ field_at l 2 1 = field_of 1 1 (omega arith) in
      let ca : joined_at (values_of (drop 2 l)) 4 4 ≡ field_at l 3 4 = field_of 2 4 (omega arith) in
      let cb : joined_at (values_of (drop 2 l)) 12 4 ≡ field_at l 7 4 = field_of 6 4 (omega arith) in
      let outcome : joined_at (values_of (drop 2 l)) 20 1 ≡ field_at l 11 1 = field_of 10 1 (omega arith) in
      λ i. Session (a i) (b i) (ca i) (cb i) (outcome i)

  pub outcome_of : joined_at (values_of (drop 2 l)) 20 1 ≡ field_at l 11 1
  outcome_of = field_of 10 1 (omega arith)

  pub session_line_lem : (line : ℕ) → get_or l 0 0 ≡ 48 → get_or l 1 0 ≡ 50 → Some 254 ≡ sum_of (drop 2 l) → joined_at (values_of (drop 2 l)) 20 1 ≤ 3
      → Ok (Act (record { line = line; action = session_of (values_of (drop 2 l)) })) ≡ read_line line l
  session_line_lem line p q e o =
      let is = session_is l long p q in
      act line l (session_of (values_of (drop 2 l))) (session_good l long p q (omega (arith, outcome_of, o)) e) (omega (arith, is))
      (session_fields ∙ action_session l (line_kind (bytes_of l)) refl is)

-- a purge, a delivery and a start of six characters, by what they hold
module _ (l : List ℕ) (x : Short) (e : Some x ≡ short_of l) where
  kind_held : line_kind (bytes_of l) ≡ x.kind
  kind_held = ap (λ (y : Short). y.kind) (sym (short_tells l x e).1)

  field_held : x.field ≡ field_at l 1 1
  field_held = ap (λ (y : Short). y.field) (short_tells l x e).1

  pub purge_line : (line : ℕ) → x.kind ≡ 3 → Ok (Act (record { line = line; action = Purge x.field })) ≡ read_line line l
  purge_line line k =
      let is : line_kind (bytes_of l) ≡ 3 = kind_held ∙ k in
      act line l (Purge x.field) (short_tells l x e).0 (omega (arith, is)) (ap Purge field_held ∙ action_purge l (line_kind (bytes_of l)) refl is)

  pub deliver_line : (line : ℕ) → x.kind ≡ 5 → Ok (Act (record { line = line; action = Deliver x.field })) ≡ read_line line l
  deliver_line line k =
      let is : line_kind (bytes_of l) ≡ 5 = kind_held ∙ k in
      act line l (Deliver x.field) (short_tells l x e).0 (omega (arith, is)) (ap Deliver field_held ∙ action_deliver l (line_kind (bytes_of l)) refl is)

  pub start_line : (line : ℕ) → x.kind ≡ 0 → Ok (Begin x.field) ≡ read_line line l
  unfolding fields_from widths_in journal_kinds
  start_line line k =
      let is : line_kind (bytes_of l) ≡ 0 = kind_held ∙ k in
      let zeroth : get_or (line_fields (bytes_of l)) 0 0 ≡ field_at l 1 1 = ap (λ (f : List ℕ). get_or f 0 0) (line_fields_lem l 0 is) in
      ap (λ (n : ℕ). Ok (Begin n)) (field_held ∙ sym zeroth) ∙ read_begin line l (clear l (short_tells l x e).0) is
