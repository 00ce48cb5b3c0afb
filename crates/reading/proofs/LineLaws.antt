-- Laws of what a line says once its refusal is known: a refusal, its kind, its first bytes.
use mathlib.Core.Path.{◌≡◌, refl, sym, ◌∙◌, ap}
use mathlib.Core.Bool.{Bool, true, false}
use mathlib.Core.List.{List}
use Prim.Native.Nat.{ℕ, ◌<◌}
use lib.ListN.{length, get_or}
use lib.Dec.{eqb}
use borrow.Author.Tests.{eqb-true, eqb-false}
use Rattle.std.specs.Prelude.{Ok, Err, Some, None}
use Rattle.meaning.specs.declared.Fault.{Fault}
use Rattle.heads.specs.declared.Short.{Short}
use Rattle.actions.specs.Actions.{said_of}
use Rattle.meaning.specs.Frames.{Line, bytes_of, known, action_of, kind_of, line_kind, line_fields, line_refusal, line_fault, line_values, read_line}
use Rattle.meaning.proofs.FrameLaws.{kind_cases, good, clear, read_none, read_refused}
use Rattle.contents.proofs.ContentLaws.{refused_at, line_whole, line_begin, line_act}
use Rattle.numbers.specs.Numbers.{field_at}
use Rattle.heads.specs.Heads.{short_of}
use Rattle.heads.proofs.QuickLaws.{kind_24, kind_26, short_tells, held_kind, held_refused}

module _ (l : List ℕ) where
  -- a refused line
  pub refused_kind : (line_refusal l ≡ 0 → ⊥) → 0 ≡ get_or (line_values (read_line 0 l)) 2 0
  refused_kind h = ap (λ (x : Line). get_or (line_values x) 2 0) (refused_at l 0 (line_refusal l) refl h)

  -- a line that is not refused, by its kind
  module _ (clear : line_refusal l ≡ 0) (kind : ℕ) (is : line_kind (bytes_of l) ≡ kind) where
    kind_of_lem : (f : List ℕ) (m : ℕ) → known m ≡ true → (m ≡ 0 → ⊥) → kind_of (action_of m f) ≡ m
    unfolding action_of
    kind_of_lem f = kind_cases (λ (m : ℕ). (m ≡ 0 → ⊥) → kind_of (action_of m f) ≡ m) (λ z. absurd (z refl)) (λ z. refl) (λ z. refl) (λ z. refl) (λ z. refl)

    pub line_kind_lem : kind ≡ get_or (line_values (read_line 0 l)) 2 0
    line_kind_lem = go (eqb kind 0) refl
      where
        go : (b : Bool) → eqb kind 0 ≡ b → kind ≡ get_or (line_values (read_line 0 l)) 2 0
        go true e = eqb-true kind 0 e ∙ ap (λ (x : Line). get_or (line_values x) 2 0) (line_begin l clear kind is (eqb-true kind 0 e) 0 (field_at l 1 1) refl)
        go false e =
            sym (kind_of_lem (line_fields (bytes_of l)) kind (line_whole l clear kind is).has_kind (eqb-false kind 0 e))
            ∙ ap (λ (x : Line). get_or (line_values x) 2 0) (line_act l clear kind is (eqb-false kind 0 e) 0)

-- a line of 24 or 26 characters that is not refused
module _ (l : List ℕ) (z : line_refusal l ≡ 0) where
  pub kind_write : length l ≡ 24 → 1 ≡ get_or (line_values (read_line 0 l)) 2 0
  kind_write long = line_kind_lem l z 1 (kind_24 l (good l z) long)

  pub kind_session : length l ≡ 26 → 2 ≡ get_or (line_values (read_line 0 l)) 2 0
  kind_session long = line_kind_lem l z 2 (kind_26 l (good l z) long)

-- the kind of a line shorter than a write's, by what it holds
pub kind_held : (l : List ℕ) (x : Short) → length l < 24 → Some x ≡ short_of l → x.kind ≡ get_or (line_values (read_line 0 l)) 2 0
kind_held l x few e = held_kind l x e few ∙ line_kind_lem l (clear l (short_tells l x e).0) (line_kind (bytes_of l)) refl

pub kind_none : (l : List ℕ) → None ≡ short_of l → 0 ≡ get_or (line_values (read_line 0 l)) 2 0
kind_none l e = refused_kind l (held_refused l e)

-- what a line says, by its settling
pub line_said : (line : ℕ) (l : List ℕ) → None ≡ line_fault l → Ok (said_of line l) ≡ read_line line l
unfolding read_line
line_said line l e = rw (read_none l (sym e)) refl

pub line_wrong : (line : ℕ) (l : List ℕ) (f : Fault) → Some f ≡ line_fault l → Err f ≡ read_line line l
line_wrong line l f e = read_refused line l f (sym e)
