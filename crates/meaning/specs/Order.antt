-- The same order everywhere: each node's delivered list beside a run, "all its deliveries one after the other". Document 02, T-04.
use Rattle.std.specs.Prelude.{List, [], ◌∷◌, ℕ, zero, suc}
use Rattle.meaning.specs.declared.Record.{Record}
use Rattle.meaning.specs.declared.Action.{Action}
use Rattle.meaning.specs.declared.Action.TheVariants.{Write, Session, Purge, Deliver}
use Rattle.meaning.specs.Table.{Vectors, mark, node}
use Rattle.meaning.specs.Node.{given}
use Rattle.meaning.specs.Steps.{refusal}
use Rattle.meaning.specs.Account.{gains, Run, Event, AStep, befell, begun}

-- what an accepted action does to the lists: a delivery of p puts what it writes after the list of p
unfoldable pub told : List ℕ → Action → (ℕ → List Record) → ℕ → List Record
told t (Write p c b v) lists = lists
told t (Session a b ca cb o) lists = lists
told t (Purge p) lists = lists
told t (Deliver p) lists = gains p (given (mark t p) (node t p)) lists

abbrev pub told_if : ℕ → List ℕ → Action → (ℕ → List Record) → ℕ → List Record
told_if zero t a lists = told t a lists
told_if (suc k) t a lists = lists

-- what an event does to them, from the run before it
unfoldable pub heard : Run → Event → (ℕ → List Record) → ℕ → List Record
heard x (AStep s) lists = told_if (refusal x.table s.action) x.table s.action lists

unfoldable pub hears : Run → (ℕ → List Record) → List Event → ℕ → List Record
hears x lists [] = lists
hears x lists (e ∷ es) = hears (befell x e) (heard x e lists) es

-- the list of each node after these events on a fresh table of n with vectors: on columns "there is no delivery"
unfoldable pub order_of : ℕ → List Event → ℕ → List Record
order_of n es = hears (begun Vectors n) (λ p. []) es
