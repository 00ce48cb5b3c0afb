-- What the settling of a line tells.
use Rattle.std.specs.Prelude.{◌≡◌, List, ℕ, Some, None, Result, MatchResult}
use Rattle.meaning.specs.declared.Fault.{Fault}
use Rattle.meaning.specs.Frames.{line_fault}
use Rattle.heads.specs.declared.kinds.Kind.{Kind}
use Rattle.heads.specs.Heads.{Whole}
use Rattle.heads.specs.Kinds.{kind_number}

-- nothing is wrong with the line and it has the length of this kind, or this is what is wrong with it
abbrev pub Settles : List ℕ → Result Kind Fault → Type 0
Settles l r = MatchResult r (λ kind. (None ≡ line_fault l) × Whole l (kind_number kind)) (λ f. Some f ≡ line_fault l)
