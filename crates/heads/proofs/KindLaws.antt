-- Laws of the kinds that code tells: each is known, and its number is no other's.
use mathlib.Core.Path.{◌≡◌, refl, sym, ◌∙◌, ap}
use mathlib.Core.Bool.{true, cond}
use Prim.Native.Nat.{ℕ}
use lib.Dec.{eqb}
use Rattle.meaning.specs.Frames.{journal_kinds, known_in, known}
use Rattle.heads.specs.declared.kinds.Kind.{Kind}
use Rattle.heads.specs.declared.kinds.Kind.TheVariants.{Start, Write, Session, Purge, Deliver}
use Rattle.heads.specs.Kinds.{kind_number}

pub known_kind : (kind : Kind) → known (kind_number kind) ≡ true
unfolding known_in journal_kinds
known_kind Start = refl
known_kind Write = refl
known_kind Session = refl
known_kind Purge = refl
known_kind Deliver = refl

-- two kinds of one number
kind_named : ℕ → Kind
kind_named n = cond (eqb n 0) Start (cond (eqb n 1) Write (cond (eqb n 2) Session (cond (eqb n 3) Purge Deliver)))

named_back : (kind : Kind) → kind_named (kind_number kind) ≡ kind
unfolding kind_named
named_back Start = refl
named_back Write = refl
named_back Session = refl
named_back Purge = refl
named_back Deliver = refl

pub one_kind : (a b : Kind) → kind_number a ≡ kind_number b → a ≡ b
one_kind a b e = sym (named_back a) ∙ ap kind_named e ∙ named_back b
