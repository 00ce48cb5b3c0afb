-- Laws of a line's kind and fields, each by its place.
use mathlib.Core.Path.{◌≡◌, refl, ◌∙◌, ap}
use mathlib.Core.Bool.{true, false, not}
use mathlib.Core.List.{List, [], ◌∷◌}
use Prim.Native.Nat.{ℕ, ◌+◌}
use lib.ListN.{length, get_or, drop}
use lib.Seq.{drop-drop}
use lib.Dec.{ltb}
use borrow.Author.Tests.{ne_eqb}
use Rattle.meaning.specs.Table.{count_right}
use Rattle.meaning.specs.Frames.{
  bytes_of,
  journal_kinds,
  widths_in,
  widths,
  digits_in,
  digits_of,
  known,
  unpacked,
  action_of,
  line_kind,
  fields_in,
  line_fields,
  outcome_high,
  start_wrong,
}
use Rattle.meaning.proofs.FrameLaws.{kind_cases}
use Rattle.numbers.specs.Numbers.{field_at}
use Rattle.heads.specs.Heads.{Whole, write_at, session_at, purge_at, deliver_at}
use Rattle.numbers.proofs.NumberLaws.{first_byte}

-- the first byte is the kind
pub kind_field : (l : List ℕ) → field_at l 0 1 ≡ line_kind (bytes_of l)
unfolding field_at line_kind
kind_field l = first_byte (bytes_of l)

-- a line's fields, each by its place
unfoldable pub fields_from : List ℕ → ℕ → List ℕ → List ℕ
fields_from [] at l = []
fields_from (w ∷ ws) at l = field_at l at w ∷ fields_from ws (at + w) l

fields_from_lem : (ws : List ℕ) (at : ℕ) (l : List ℕ) → unpacked ws (drop at (bytes_of l)) ≡ fields_from ws at l
unfolding unpacked fields_from field_at
fields_from_lem [] at l = refl
fields_from_lem (w ∷ ws) at l = cc (drop-drop w at (bytes_of l), fields_from_lem ws (at + w) l)

pub line_fields_lem : (l : List ℕ) (k : ℕ) → line_kind (bytes_of l) ≡ k → line_fields (bytes_of l) ≡ fields_from (widths k) 1 l
unfolding fields_in
line_fields_lem l k e = rw e (fields_from_lem (widths k) 1 l)

pub action_write : (l : List ℕ) (kind : ℕ) → line_kind (bytes_of l) ≡ kind → kind ≡ 1 → write_at l ≡ action_of kind (line_fields (bytes_of l))
unfolding action_of fields_from widths_in journal_kinds
action_write l kind p q = rw (q, line_fields_lem l 1 (p ∙ q)) refl

pub action_session : (l : List ℕ) (kind : ℕ) → line_kind (bytes_of l) ≡ kind → kind ≡ 2 → session_at l ≡ action_of kind (line_fields (bytes_of l))
unfolding action_of fields_from widths_in journal_kinds
action_session l kind p q = rw (q, line_fields_lem l 2 (p ∙ q)) refl

pub action_purge : (l : List ℕ) (kind : ℕ) → line_kind (bytes_of l) ≡ kind → kind ≡ 3 → purge_at l ≡ action_of kind (line_fields (bytes_of l))
unfolding action_of fields_from widths_in journal_kinds
action_purge l kind p q = rw (q, line_fields_lem l 3 (p ∙ q)) refl

pub action_deliver : (l : List ℕ) (kind : ℕ) → line_kind (bytes_of l) ≡ kind → kind ≡ 5 → deliver_at l ≡ action_of kind (line_fields (bytes_of l))
unfolding action_of fields_from widths_in journal_kinds
action_deliver l kind p q = rw (q, line_fields_lem l 5 (p ∙ q)) refl

-- a journal's kinds, one by one, with their digits
pub kind_lengths : (P : ℕ → ℕ → Type 0) → P 0 6 → P 1 24 → P 2 26 → P 3 6 → P 5 6 → (k : ℕ) → known k ≡ true → P k (digits_of k)
unfolding digits_in widths_in journal_kinds
kind_lengths P a b c d e = kind_cases (λ (k : ℕ). P k (digits_of k)) a b c d e

-- of the known kinds only a purge is no start, write, session or delivery
pub rest_purge : (k : ℕ) → known k ≡ true → (k ≡ 0 → ⊥) → (k ≡ 1 → ⊥) → (k ≡ 2 → ⊥) → (k ≡ 5 → ⊥) → k ≡ 3
rest_purge =
    kind_cases (λ (k : ℕ). (k ≡ 0 → ⊥) → (k ≡ 1 → ⊥) → (k ≡ 2 → ⊥) → (k ≡ 5 → ⊥) → k ≡ 3) (λ p q r s. absurd (p refl)) (λ p q r s. absurd (q refl))
    (λ p q r s. absurd (r refl)) (λ p q r s. refl) (λ p q r s. absurd (s refl))

pub whole_at : {l : List ℕ} {kind : ℕ} (k : ℕ) → Whole l kind → kind ≡ k → length l ≡ digits_of k
whole_at k w e = w.long ∙ ap digits_of e

-- the two tests of fields: a start's n, and a session's outcome
module _ (l : List ℕ) (kind : ℕ) (is : line_kind (bytes_of l) ≡ kind) where
  pub start_test : kind ≡ 0 → start_wrong (bytes_of l) ≡ not (count_right (field_at l 1 1))
  unfolding fields_from widths_in journal_kinds
  start_test z =
      let zeroth : get_or (line_fields (bytes_of l)) 0 0 ≡ field_at l 1 1 = ap (λ (f : List ℕ). get_or f 0 0) (line_fields_lem l 0 (is ∙ z)) in
      rw (is ∙ z, zeroth) refl

  pub start_other : (kind ≡ 0 → ⊥) → start_wrong (bytes_of l) ≡ false
  start_other h = cc (is, ne_eqb kind 0 h)

  pub outcome_test : kind ≡ 2 → outcome_high (bytes_of l) ≡ ltb 3 (field_at l 11 1)
  unfolding fields_from widths_in journal_kinds
  outcome_test z =
      let fifth : get_or (line_fields (bytes_of l)) 4 0 ≡ field_at l 11 1 = ap (λ (f : List ℕ). get_or f 4 0) (line_fields_lem l 2 (is ∙ z)) in
      rw (is ∙ z, fifth) refl

  pub outcome_other : (kind ≡ 2 → ⊥) → outcome_high (bytes_of l) ≡ false
  outcome_other h = cc (is, ne_eqb kind 2 h)
