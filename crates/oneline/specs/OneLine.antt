-- What each function that applies one line answers and leaves: the definitions of `Lines`, and the step that six words say.
use Rattle.std.specs.Prelude.{◌≡◌, cond, List, ℕ, eqb, get_or}
use Rattle.meaning.specs.declared.Action.{Action}
use Rattle.meaning.specs.declared.Action.TheVariants.{Write, Session, Purge, Deliver}
use Rattle.meaning.specs.Lines.{Answer, line_reply, line_after}

-- The step of six words: the kind, and after it the kind's fields
unfoldable pub step_in : (kind a b c d e : ℕ) → Action
step_in kind a b c d e = cond (eqb kind 1) (Write a b c d) (cond (eqb kind 2) (Session a b c d e) (cond (eqb kind 5) (Deliver a) (Purge a)))

abbrev pub step_at : List ℕ → Action
step_at v = step_in (get_or v 0 0) (get_or v 1 0) (get_or v 2 0) (get_or v 3 0) (get_or v 4 0) (get_or v 5 0)

-- One line
abbrev pub AppliedLine : List ℕ → List ℕ → Answer → List ℕ → Type 0
AppliedLine t l r t' = (r ≡ line_reply t l) × (t' ≡ line_after t l)
