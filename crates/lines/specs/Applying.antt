-- What each function that applies lines answers and leaves: the definitions of `Lines`, and what the loop over the lines counts and keeps.
use Rattle.std.specs.Prelude.{◌≡◌, ◌≢◌, List, ℕ, ◌+◌, length, Option, Some, None}
use Rattle.meaning.specs.declared.Action.{Action}
use Rattle.meaning.specs.declared.Fault.{Fault}
use Rattle.meaning.specs.declared.Progress.{Progress}
use Rattle.meaning.specs.Steps.{reply, after}
use Rattle.meaning.specs.Journals.{steps_from, after_all}
use Rattle.meaning.specs.Lines.{progress, lines_reply, lines_after}
use Rattle.steplines.specs.declared.Turn.{Turn}
use Rattle.steplines.specs.declared.Turn.TheVariants.{Done, Refused, Unsure}
use Rattle.steplines.specs.StepLines.{turn_of, Turned}
use Rattle.turns.specs.Turns.{due_at, said_at}
use Rattle.lines.specs.declared.Taken.{Taken}

-- How far lines were read: so many steps, those refused, where the reading stopped, and what is wrong with the line there
abbrev pub halted_at : ℕ → ℕ → ℕ → Option Fault → Progress
halted_at steps refused stop fault = record { steps = steps; refused = refused; stop = stop; fault = fault }

-- "a refused step is counted and passed over"
abbrev pub one_of : Turn → ℕ
one_of Done = 0
one_of Refused = 1
one_of Unsure = 0

-- One step on a sound table: whether it was refused, and the table
pub record Stepped (t : List ℕ) (x : Action) (told : Turn) (t' : List ℕ) : Type 0 where
  pub tells : told ≡ turn_of (reply t x)
  pub leaves : t' ≡ after t x

-- A line that is taken in one turn, and the place after it
pub record TakenAt (s : List ℕ) (at : ℕ) (t : List ℕ) (x : Taken) (t' : List ℕ) : Type 0 where
  pub turned : Turned t (said_at s at) x.told t'
  pub sure : x.told ≢ Unsure
  pub passes : x.next ≡ at + (due_at s at + 1)

abbrev pub Takes : List ℕ → ℕ → List ℕ → Option Taken → List ℕ → Type 0
Takes s at t None t' = t' ≡ t
Takes s at t (Some x) t' = TakenAt s at t x t'

-- The steps from a place on, applied to a table; the line there has the number `first`
pub record AppliedFrom (s : List ℕ) (from first : ℕ) (t : List ℕ) (r : Progress) (t' : List ℕ) : Type 0 where
  pub answer : r ≡ progress t (steps_from (length s) s from first)
  pub table : t' ≡ after_all t (steps_from (length s) s from first).steps

-- Many lines
abbrev pub AppliedLines : List ℕ → List ℕ → Progress → List ℕ → Type 0
AppliedLines t s r t' = (r ≡ lines_reply t s) × (t' ≡ lines_after t s)
