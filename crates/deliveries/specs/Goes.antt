-- What a delivery goes by, as code has read it from a sound table: none of the refusals that come before 7, and the node's own numbers.
use Rattle.std.specs.Prelude.{◌≡◌, List, ℕ, Result, Ok, Err}
use Rattle.meaning.specs.declared.Action.TheVariants.{Deliver}
use Rattle.meaning.specs.declared.Record.{Record}
use Rattle.meaning.specs.declared.Refusal.{Refusal}
use Rattle.meaning.specs.Refusals.{number_of}
use Rattle.meaning.specs.Rows.{due, least}
use Rattle.meaning.specs.Table.{held, mark, node}
use Rattle.meaning.specs.Steps.{refusal}
use Rattle.deliveries.specs.declared.Delivery.{Delivery}

pub record Goes (t : List ℕ) (d : Delivery) : Type 0 where
  pub passed : refusal t (Deliver d.p) ≡ 0
  pub many : d.held ≡ held t d.p
  pub from : d.which.mark ≡ mark t d.p
  pub upto : d.which.limit ≡ least (node t d.p).summary

-- what is due by it
abbrev pub due_by : List ℕ → Delivery → List Record
due_by t d = due d.which.mark d.which.limit (node t d.p).log

-- what the look at node p before anything is written answers
abbrev pub Looked : List ℕ → ℕ → Result Delivery Refusal → Type 0
Looked t p (Ok d) = (d.p ≡ p) × Goes t d
Looked t p (Err r) = refusal t (Deliver p) ≡ number_of r
