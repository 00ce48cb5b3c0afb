-- What each function that applies an action settles: the reply and the words at exit, both those of `Steps`.
use Rattle.std.specs.Prelude.{◌≡◌, List, ℕ}
use Rattle.meaning.specs.declared.Action.{Action}
use Rattle.meaning.specs.Steps.{Reply, reply, after}

abbrev pub Applied : List ℕ → Action → Reply → List ℕ → Type 0
Applied t action r u = (r ≡ reply t action) × (u ≡ after t action)
