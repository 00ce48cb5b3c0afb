-- Two nodes that meet: what their session requires, and what it comes to.
use Rattle.std.specs.Prelude.{◌≡◌, Bool, true, false, ◌||◌, List, ℕ, Ok, Err}
use Rattle.meaning.specs.declared.Refusal.TheVariants.{LogFull}
use Rattle.meaning.specs.declared.Report.TheVariants.{Carried}
use Rattle.meaning.specs.Table.{Node, held, Sound}
use Rattle.meaning.specs.Steps.{Reply, finishes_a, finishes_b, overfull, carried}
use Rattle.openings.specs.declared.Start.{Start}
use Rattle.openings.specs.declared.Party.{Party}
use Rattle.openings.specs.Begun.{begins_whole, Fits, Opens}
use Rattle.sides.specs.Ended.{sided}

-- Two nodes of a sound table, with their starting rows, the table's but for the own entries
pub record Meets (t : List ℕ) (a b : Start) : Type 0 where
  pub is_sound : Sound t
  pub fits_a : Fits t a
  pub fits_b : Fits t b
  pub apart : a.node ≡ b.node → ⊥
  pub opens_a : Opens t a
  pub opens_b : Opens t b

-- one of two sides that begin as x and y would hold too many
abbrev pub crowded : ℕ → Node → Node → Bool
crowded o x y = overfull (finishes_a o) x y || overfull (finishes_b o) y x

-- both sides ended, of which f and g say whether they finish
abbrev pub Done : List ℕ → Bool → Bool → ℕ → ℕ → Node → Node → Reply → List ℕ → Type 0
Done t f g a b x y r u = (r ≡ Ok (Carried (carried f x y) (carried g y x))) × (u ≡ sided g b y x (sided f a x y t))

-- What a session between nodes a and b comes to, that begin as x and y: refused for a full log and nothing changed, or both sides ended
pub record Traded (t : List ℕ) (o a b : ℕ) (x y : Node) (r : Reply) (u : List ℕ) : Type 0 where
  pub full : crowded o x y ≡ true → (r ≡ Err LogFull) × (u ≡ t)
  pub done :
      crowded o x y ≡ false → Done t (finishes_a o) (finishes_b o) a b x y r u

-- the same, from the starting rows
abbrev pub Exchanged : List ℕ → ℕ → Start → Start → Reply → List ℕ → Type 0
Exchanged t o a b r u = Traded t o a.node b.node (begins_whole t a) (begins_whole t b) r u

-- Two sides that meet: how many records each has, and room at each
pub record Trades (t : List ℕ) (a b : Party) : Type 0 where
  pub meets : Meets t a.start b.start
  pub has_a : a.held ≡ held t a.start.node
  pub has_b : b.held ≡ held t b.start.node
  pub room_a : overfull a.finishes (begins_whole t a.start) (begins_whole t b.start) ≡ false
  pub room_b : overfull b.finishes (begins_whole t b.start) (begins_whole t a.start) ≡ false

-- and both ended, from the starting rows
abbrev pub TradeDone : List ℕ → Party → Party → Reply → List ℕ → Type 0
TradeDone t a b r u =
    Done t a.finishes b.finishes a.start.node b.start.node (begins_whole t a.start) (begins_whole t b.start) r u
