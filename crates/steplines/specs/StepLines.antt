-- What a turn makes of one line on a sound table, and what it does to the table. A turn is sure of a step, and of nothing else; the reader of lines
-- answers for the rest.
use Rattle.std.specs.Prelude.{◌≡◌, List, ℕ, length, get_or, Ok, Err}
use Rattle.meaning.specs.declared.Said.TheVariants.{Begin, Act}
use Rattle.meaning.specs.Steps.{Reply, reply}
use Rattle.meaning.specs.Frames.{Line}
use Rattle.meaning.specs.Lines.{left_by}
use Rattle.steplines.specs.declared.Turn.{Turn}
use Rattle.steplines.specs.declared.Turn.TheVariants.{Done, Refused, Unsure}

-- "a refused step is counted and passed over"
abbrev pub turn_of : Reply → Turn
turn_of (Ok x) = Done
turn_of (Err r) = Refused

-- what is told of a line: of a step its reply tells, and any other is none
abbrev pub told_of : List ℕ → Line → Turn
told_of t (Ok (Begin n)) = Unsure
told_of t (Ok (Act s)) = turn_of (reply t s.action)
told_of t (Err f) = Unsure

-- One line on a sound table, which is as it was for a line that is no step
pub record Turned (t : List ℕ) (x : Line) (told : Turn) (t' : List ℕ) : Type 0 where
  pub tells : told ≡ told_of t x
  pub leaves : t' ≡ left_by t x

-- a line of so many characters that begins with a kind's two
pub record Begins (l : List ℕ) (long low : ℕ) : Type 0 where
  pub is_long : length l ≡ long
  pub has_high : get_or l 0 0 ≡ 48
  pub has_low : get_or l 1 0 ≡ low
