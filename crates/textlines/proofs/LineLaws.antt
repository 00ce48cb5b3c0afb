-- Laws of the lines of a replay's text that are not a node's, by their parts.
use mathlib.Core.Path.{◌≡◌, refl}
use mathlib.Core.List.{[], ◌∷◌, ◌++◌, append_assoc}
use Prim.Native.Nat.{ℕ}
use Rattle.meaning.specs.Rows.{ascii}
use Rattle.meaning.specs.Journals.{spaced, said}
use Rattle.printing.proofs.Writing.{spaced_more}
use Rattle.textlines.specs.TextLines.{bad_line, unread_line, first_line}

-- a line is its parts, one after the other
pub bad_is : (line k p : ℕ) → (ascii "BAD" ++ spaced (line ∷ [])) ++ (spaced (k ∷ []) ++ (spaced (p ∷ []) ++ (10 ∷ []))) ≡ bad_line line k p
unfolding said
bad_is line k p = simp (spaced_more (line ∷ k ∷ []) p, spaced_more (line ∷ []) k, append_assoc)

pub unread_is : (k : ℕ) → (ascii "BAD" ++ spaced (0 ∷ [])) ++ (spaced (k ∷ []) ++ (10 ∷ [])) ≡ unread_line k
unfolding said
unread_is k = simp (spaced_more (0 ∷ []) k, append_assoc)

pub first_is : (n steps refused : ℕ)
    → (ascii "N" ++ spaced (n ∷ [])) ++ ((ascii " STEPS" ++ spaced (steps ∷ [])) ++ ((ascii " REFUSED" ++ spaced (refused ∷ [])) ++ (10 ∷ []))) ≡
    first_line n steps refused
unfolding said
first_is n steps refused = refl
