-- The values of what the reader answers, by place and bytes.
use mathlib.Core.Path.{◌≡◌, refl, sym}
use mathlib.Core.Bool.{Bool, true, false, cond}
use mathlib.Core.List.{List, [], ◌∷◌, ◌++◌}
use Prim.Native.Nat.{ℕ, zero, suc}
use lib.ListN.{length, drop}
use lib.Dec.{leb, eqb}
use Rattle.meaning.specs.declared.Action.{Action}
use Rattle.meaning.specs.declared.Action.TheVariants.{Write, Session, Purge, Deliver}
use Rattle.std.specs.Prelude.{Ok, Err, None}
use Rattle.meaning.specs.declared.Said.TheVariants.{Begin, Act}
use Rattle.meaning.specs.Refusals.{number_of, refusal_of, fault}
use Rattle.meaning.specs.Frames.{Line, kind_of, fields_of, read_line, line_values}
use Rattle.meaning.specs.Journals.{unended, line_at, place_after, in_turn, next_in, next_at, next_values}
use Rattle.journal.specs.Read.{turn_values, read_values}

-- a step is no start
later_values : (next : ℕ) (x : Action) → turn_values false next (0 ∷ 0 ∷ kind_of x ∷ fields_of x) ≡ 0 ∷ 0 ∷ kind_of x ∷ (fields_of x ++ (next ∷ []))
later_values next (Write p t b v) = refl
later_values next (Session a b ca cb o) = refl
later_values next (Purge p) = refl
later_values next (Deliver p) = refl

first_values : (next : ℕ) (x : Action) → turn_values true next (0 ∷ 0 ∷ kind_of x ∷ fields_of x) ≡ 15 ∷ 0 ∷ []
first_values next (Write p t b v) = refl
first_values next (Session a b ca cb o) = refl
first_values next (Purge p) = refl
first_values next (Deliver p) = refl

-- what is wrong with a line is told as it is
fault_values : (first : Bool) (next k p : ℕ) → k ∷ p ∷ [] ≡ turn_values first next (k ∷ p ∷ [])
fault_values first next zero p = refl
fault_values first next (suc k) p = refl

turn_values_lem : (first : Bool) (next : ℕ) (x : Line) → next_values (in_turn first next x) ≡ turn_values first next (line_values x)
unfolding refusal_of
turn_values_lem true next (Ok (Begin n)) = refl
turn_values_lem true next (Ok (Act s)) = sym (first_values next s.action)
turn_values_lem true next (Err f) = fault_values true next (number_of f.refusal) f.place
turn_values_lem false next (Ok (Begin n)) = refl
turn_values_lem false next (Ok (Act s)) = sym (later_values next s.action)
turn_values_lem false next (Err f) = fault_values false next (number_of f.refusal) f.place

pub next_values_lem : (s : List ℕ) (at line : ℕ) → next_values (next_at s at line) ≡ read_values s at line
unfolding next_in refusal_of
next_values_lem s at line = go (leb (length s) at) (unended s at)
  where
    go : (a b : Bool)
        → next_values (cond a (Ok None) (cond b (Err (fault 14 (length (drop at s)))) (in_turn (eqb at 0) (place_after s at) (read_line line (line_at s at)))))
        ≡ cond a (0 ∷ 0 ∷ []) (cond b (14 ∷ length (drop at s) ∷ []) (turn_values (eqb at 0) (place_after s at) (line_values (read_line line (line_at s at)))))
    go true b = refl
    go false true = refl
    go false false = turn_values_lem (eqb at 0) (place_after s at) (read_line line (line_at s at))
