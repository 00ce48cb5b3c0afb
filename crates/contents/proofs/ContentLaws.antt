-- Laws of what a line says once its refusal is known: its step, and its fields by their places.
use mathlib.Core.Path.{◌≡◌, refl, sym, ◌∙◌, ap}
use mathlib.Core.Bool.{Bool, true, false}
use mathlib.Core.List.{List, [], ◌∷◌}
use Prim.Native.Nat.{ℕ, zero, suc, ◌+◌, ◌≤◌, ◌<◌}
use native.Mathlib.Omega.{arith}
use lib.ListN.{length, get_or, get_or-eq_default}
use lib.Dec.{eqb}
use borrow.Author.Tests.{eqb-true, eqb-false}
use Rattle.meaning.specs.declared.Action.{Action}
use Rattle.std.specs.Prelude.{Ok, Err, Some, None}
use Rattle.meaning.specs.declared.Said.TheVariants.{Begin, Act}
use Rattle.meaning.specs.Refusals.{number_of, refusal_of, fault}
use Rattle.heads.specs.declared.Short.{Short}
use Rattle.meaning.specs.Frames.{
  Line,
  bytes_of,
  journal_kinds,
  widths_in,
  digits_in,
  digits_of,
  action_of,
  fields_of,
  kind_of,
  line_kind,
  line_fields,
  line_refusal,
  line_place,
  line_values,
  read_line,
}
use Rattle.meaning.proofs.FrameLaws.{Good, good, clear, read_wrong, read_begin, read_act}
use Rattle.numbers.specs.Numbers.{field_at}
use Rattle.heads.specs.Heads.{short_of, Whole, write_at, session_at, purge_at, deliver_at}
use Rattle.heads.proofs.FieldLaws.{rest_purge, fields_from, line_fields_lem, action_write, action_session, action_purge, action_deliver}
use Rattle.heads.proofs.QuickLaws.{kind_24, kind_26, short_tells, held_refused, held_not}

-- past the fields
pub past : (xs : List ℕ) (i : ℕ) → length xs ≤ i → 0 ≡ get_or xs i 0
past xs i h = sym (get_or-eq_default xs 0 h)

-- the value at a place
pub value_at : (xs : List ℕ) (i k r : ℕ) → i ≡ k → r ≡ get_or xs k 0 → r ≡ get_or xs i 0
value_at xs i k r e p = rw e p

-- the fields stand after the refusal, its place and the kind
after_three : (a b c : ℕ) (xs : List ℕ) (i : ℕ) → get_or xs i 0 ≡ get_or (a ∷ b ∷ c ∷ xs) (3 + i) 0
after_three a b c xs i = let e : 3 + i ≡ suc (suc (suc i)) = omega arith in rw e refl

module _ (l : List ℕ) where
  -- a refused line
  pub refused_at : (line n : ℕ) → line_refusal l ≡ n → (n ≡ 0 → ⊥) → Err (fault n (line_place l)) ≡ read_line line l
  refused_at line zero e h = absurd (h refl)
  refused_at line (suc k) e h = read_wrong line k l e

  pub refused_field : (i : ℕ) → (line_refusal l ≡ 0 → ⊥) → 0 ≡ get_or (line_values (read_line 0 l)) (3 + i) 0
  refused_field i h =
      past (number_of (refusal_of (line_refusal l)) ∷ line_place l ∷ []) (3 + i) (omega arith)
      ∙ ap (λ (x : Line). get_or (line_values x) (3 + i) 0) (refused_at 0 (line_refusal l) refl h)

  -- a line that is not refused, by its kind
  module _ (clear : line_refusal l ≡ 0) where
    right : Good l
    right = good l clear

    module _ (kind : ℕ) (is : line_kind (bytes_of l) ≡ kind) where
      pub line_whole : Whole l kind
      line_whole = record { digits = right.digits; is = is; long = right.long ∙ ap digits_of is; has_kind = rw is at right.has_kind }

      -- a start
      module _ (start : kind ≡ 0) where
        pub line_begin : (line n : ℕ) → n ≡ field_at l 1 1 → Ok (Begin n) ≡ read_line line l
        unfolding widths_in journal_kinds fields_from
        line_begin line n e =
            let zeroth : get_or (line_fields (bytes_of l)) 0 0 ≡ field_at l 1 1 = ap (λ (f : List ℕ). get_or f 0 0) (line_fields_lem l 0 (is ∙ start)) in
            ap (λ (m : ℕ). Ok (Begin m)) (e ∙ sym zeroth) ∙ read_begin line l clear (is ∙ start)

        start_field : (i r : ℕ) → r ≡ get_or (fields_of (purge_at l)) i 0 → r ≡ get_or (line_values (read_line 0 l)) (3 + i) 0
        start_field i r e =
            e ∙ after_three 0 0 0 (field_at l 1 1 ∷ []) i ∙ ap (λ (x : Line). get_or (line_values x) (3 + i) 0) (line_begin 0 (field_at l 1 1) refl)

      -- a step
      module _ (step : kind ≡ 0 → ⊥) where
        pub line_act : (line : ℕ) → Ok (Act (record { line = line; action = action_of kind (line_fields (bytes_of l)) })) ≡ read_line line l
        line_act line = rw is at (read_act line l clear (λ z. step (sym is ∙ z)))

        step_field : (x : Action) (i r : ℕ) → x ≡ action_of kind (line_fields (bytes_of l)) → r ≡ get_or (fields_of x) i 0
            → r ≡ get_or (line_values (read_line 0 l)) (3 + i) 0
        step_field x i r e p =
            let y = action_of kind (line_fields (bytes_of l)) in
            p ∙ ap (λ (z : Action). get_or (fields_of z) i 0) e ∙ after_three 0 0 (kind_of y) (fields_of y) i
            ∙ ap (λ (z : Line). get_or (line_values z) (3 + i) 0) (line_act 0)

      -- the field of a kind that has only one
      pub short_value : (i r : ℕ) → (kind ≡ 1 → ⊥) → (kind ≡ 2 → ⊥) → r ≡ get_or (fields_of (purge_at l)) i 0 →
          r ≡ get_or (line_values (read_line 0 l)) (3 + i) 0
      short_value i r p q e = go (eqb kind 0) (eqb kind 5) refl refl
        where
          go : (b d : Bool) → eqb kind 0 ≡ b → eqb kind 5 ≡ d → r ≡ get_or (line_values (read_line 0 l)) (3 + i) 0
          go true d z w = start_field (eqb-true kind 0 z) i r e
          go false true z w = step_field (eqb-false kind 0 z) (deliver_at l) i r (action_deliver l kind is (eqb-true kind 5 w)) e
          go false false z w =
              let three : kind ≡ 3 = rest_purge kind line_whole.has_kind (eqb-false kind 0 z) p q (eqb-false kind 5 w) in
              step_field (eqb-false kind 0 z) (purge_at l) i r (action_purge l kind is three) e

      pub write_value : (i r : ℕ) → kind ≡ 1 → r ≡ get_or (fields_of (write_at l)) i 0 → r ≡ get_or (line_values (read_line 0 l)) (3 + i) 0
      write_value i r p e = step_field (λ z. omega arith) (write_at l) i r (action_write l kind is p) e

      pub session_value : (i r : ℕ) → kind ≡ 2 → r ≡ get_or (fields_of (session_at l)) i 0 → r ≡ get_or (line_values (read_line 0 l)) (3 + i) 0
      session_value i r p e = step_field (λ z. omega arith) (session_at l) i r (action_session l kind is p) e

-- a line of 24 or 26 characters that is not refused
module _ (l : List ℕ) (z : line_refusal l ≡ 0) where
  pub field_write : (i r : ℕ) → length l ≡ 24 → r ≡ get_or (fields_of (write_at l)) i 0 → r ≡ get_or (line_values (read_line 0 l)) (3 + i) 0
  field_write i r long e = write_value l z 1 (kind_24 l (good l z) long) i r refl e

  pub field_session : (i r : ℕ) → length l ≡ 26 → r ≡ get_or (fields_of (session_at l)) i 0 → r ≡ get_or (line_values (read_line 0 l)) (3 + i) 0
  field_session i r long e = session_value l z 2 (kind_26 l (good l z) long) i r refl e

-- the field of a line shorter than a write's, by what it holds
module _ (l : List ℕ) (few : length l < 24) where
  module _ (x : Short) (e : Some x ≡ short_of l) where
    short_of_lem : (i r : ℕ) → r ≡ get_or (fields_of (purge_at l)) i 0 → r ≡ get_or (line_values (read_line 0 l)) (3 + i) 0
    unfolding digits_in widths_in journal_kinds
    short_of_lem i r =
        let no_write = held_not l x e few 1 (omega arith) in
        let no_session = held_not l x e few 2 (omega arith) in
        short_value l (clear l (short_tells l x e).0) (line_kind (bytes_of l)) refl i r no_write no_session

    pub field_held : (i : ℕ) → i ≡ 0 → x.field ≡ get_or (line_values (read_line 0 l)) (3 + i) 0
    field_held i z =
        let held_field : x.field ≡ field_at l 1 1 = ap (λ (y : Short). y.field) (short_tells l x e).1 in
        short_of_lem i x.field (value_at (field_at l 1 1 ∷ []) i 0 x.field z held_field)

    pub field_past : (i : ℕ) → (i ≡ 0 → ⊥) → 0 ≡ get_or (line_values (read_line 0 l)) (3 + i) 0
    field_past i n = short_of_lem i 0 (past (field_at l 1 1 ∷ []) i (omega arith))

  pub field_none : (i : ℕ) → None ≡ short_of l → 0 ≡ get_or (line_values (read_line 0 l)) (3 + i) 0
  field_none i e = refused_field l i (held_refused l e)
