-- What a read's answer makes of an input, and what an answer may claim of the lent bytes. The contract of a read bounds its answer; which bytes a
-- system's stream stores it does not say, so nothing here says which they are.
use Rattle.std.specs.Prelude.{Bool, true, false, cond, ℕ, zero, suc, ◌+◌, ◌<◌, ltb, ◌≡◌, Result, Ok, Err}
use Rattle.std.specs.declared.io.Error.{Error}
use Rattle.std.specs.declared.io.ErrorKind.{ErrorKind}
use Rattle.std.specs.declared.io.ErrorKind.TheVariants.{Interrupted}
use Rattle.std.specs.IoError.{error_kind}
use Rattle.input.specs.declared.Input.{Input}
use Rattle.input.specs.declared.Input.TheVariants.{More, End, Full}

-- A signal interrupted the read before it moved a byte.
abbrev pub is_interruption : ErrorKind → Bool
is_interruption Interrupted = true
is_interruption _ = false

abbrev pub interrupted : Error → Bool
interrupted e = is_interruption (error_kind e)

-- So many bytes are lent, the first `at` of them have come, and one more read answered: 0 is the end and nothing else is; a count is so many bytes
-- more, up to the last that is lent; an error is a failure, unless a signal interrupted the read before it moved a byte.
unfoldable pub read_to : ℕ → ℕ → Result ℕ Error → Result Input Error
read_to lent at (Ok zero) = Ok (End at)
read_to lent at (Ok (suc k)) = cond (ltb (at + suc k) lent) (Ok (More (at + suc k))) (Ok Full)
read_to lent at (Err e) = cond (interrupted e) (Ok (More at)) (Err e)

-- Bytes that have come are within the lent ones, and leave room unless these are full.
abbrev pub Within : ℕ → Result Input Error → Type 0
Within lent (Ok (More at)) = at < lent
Within lent (Ok (End n)) = n < lent
Within lent (Ok Full) = Unit {0}
Within lent (Err e) = Unit {0}

-- What is told of a failure is the error that says why it failed: an interrupted read is none.
abbrev pub Told : Result Input Error → Type 0
Told (Ok x) = Unit {0}
Told (Err e) = interrupted e ≡ false
