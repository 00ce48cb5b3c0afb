-- Lines on a table that is there already: what one line does to it, and what many do, one after another. The composition of what a line says
-- (`read_line`, `steps_from`) and of what a step does (`reply`, `after`), and nothing new.
use Rattle.std.specs.Prelude.{cond, List, [], ◌∷◌, ◌++◌, ℕ, length, get_or, Result, Ok, Err, Some}
use Rattle.meaning.specs.declared.Said.TheVariants.{Begin, Act}
use Rattle.meaning.specs.declared.Report.{Report}
use Rattle.meaning.specs.declared.Fault.{Fault}
use Rattle.meaning.specs.declared.Progress.{Progress}
use Rattle.meaning.specs.Refusals.{fault, fault_at, fault_values}
use Rattle.meaning.specs.Table.{sound}
use Rattle.meaning.specs.Steps.{Reply, reply, after, reply_values}
use Rattle.meaning.specs.Frames.{Line, read_line}
use Rattle.meaning.specs.Journals.{Steps, steps_from, after_all, refused_of}

-- What one line answers: the report of its step, or what is wrong, with the place in the line
abbrev pub Answer : Type 0
Answer = Result Report Fault

-- a step's reply, as its line's: no character is at fault, and the place is 0
abbrev pub of_step : Reply → Answer
of_step (Ok x) = Ok x
of_step (Err r) = Err (record { refusal = r; place = 0 })

-- One line: a refused one gives its number and place, whatever the table; a start is no step of a table, 15 at place 0; a step gives its reply
abbrev pub reply_to : List ℕ → Line → Answer
reply_to t (Ok (Begin n)) = Err (fault 15 0)
reply_to t (Ok (Act s)) = of_step (reply t s.action)
reply_to t (Err f) = Err f

abbrev pub left_by : List ℕ → Line → List ℕ
left_by t (Ok (Begin n)) = t
left_by t (Ok (Act s)) = after t s.action
left_by t (Err f) = t

unfoldable pub line_reply : List ℕ → List ℕ → Answer
line_reply t l = reply_to t (read_line 1 l)

unfoldable pub line_after : List ℕ → List ℕ → List ℕ
line_after t l = left_by t (read_line 1 l)

-- How far steps come on a table: how many they are, how many of them are refused, where the reading stopped, and the refused line's number and
-- place
abbrev pub progress : List ℕ → Steps → Progress
progress t x =
    record { steps = length x.steps; refused = refused_of t x.steps; stop = x.stop; fault = fault_at x.bad_number x.bad_place }

-- Many lines, each ended by an LF, from the first on: none of them is a journal's first, so a start is 15
abbrev pub steps_of : List ℕ → Steps
steps_of s = steps_from (length s) s 0 1

-- A table that is not sound is refused with 1 before any line is read
abbrev pub unread : Progress
unread = record { steps = 0; refused = 0; stop = 0; fault = Some (fault 1 0) }

unfoldable pub lines_reply : List ℕ → List ℕ → Progress
lines_reply t s = cond (sound t) (progress t (steps_of s)) unread

unfoldable pub lines_after : List ℕ → List ℕ → List ℕ
lines_after t s = cond (sound t) (after_all t (steps_of s).steps) t

-- The values of each answer. Of one line: the number (0 for none), the two counts and the place in the line
abbrev pub answer_values : Answer → List ℕ
answer_values (Ok x) = reply_values (Ok x) ++ (0 ∷ [])
answer_values (Err f) = reply_values (Err f.refusal) ++ (f.place ∷ [])

-- Of many: the number, the steps, those refused, where the reading stopped and the place in the refused line
abbrev pub progress_values : Progress → List ℕ
progress_values x = get_or (fault_values x.fault) 0 0 ∷ x.steps ∷ x.refused ∷ x.stop ∷ get_or (fault_values x.fault) 1 0 ∷ []
