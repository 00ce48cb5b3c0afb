-- The kinds of a journal's lines as code tells them: the number of each, and what a number names.
use Rattle.std.specs.Prelude.{◌≡◌, false, ℕ, Result, MatchResult}
use Rattle.meaning.specs.declared.Refusal.{Refusal}
use Rattle.meaning.specs.declared.Refusal.TheVariants.{KindUnknown}
use Rattle.meaning.specs.Frames.{known}
use Rattle.heads.specs.declared.kinds.Kind.{Kind}
use Rattle.heads.specs.declared.kinds.Kind.TheVariants.{Start, Write, Session, Purge, Deliver}

-- the number of a kind, a line's first byte
abbrev pub kind_number : Kind → ℕ
kind_number Start = 0
kind_number Write = 1
kind_number Session = 2
kind_number Purge = 3
kind_number Deliver = 5

-- a number names the kind whose number it is, or no kind has it
abbrev pub Names : ℕ → Result Kind Refusal → Type 0
Names n r = MatchResult r (λ kind. kind_number kind ≡ n) (λ e. (e ≡ KindUnknown) × (known n ≡ false))
