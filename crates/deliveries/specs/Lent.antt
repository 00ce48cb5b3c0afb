-- What a delivery into a lent list settles: the reply, the table's words and the list's at exit, all those of `Steps`.
use Rattle.std.specs.Prelude.{◌≡◌, List, ℕ, length}
use Rattle.meaning.specs.declared.Action.TheVariants.{Deliver}
use Rattle.meaning.specs.Steps.{Reply, lent_reply, lent_after, list_after}

abbrev pub Lent : List ℕ → List ℕ → ℕ → Reply → List ℕ → List ℕ → Type 0
Lent t list p r u out = (r ≡ lent_reply t (length list) (Deliver p)) × (u ≡ lent_after t (length list) (Deliver p)) × (out ≡ list_after t list p)
