-- What dropping records of a node requires and settles, on either form: how many are left, and the words at exit; and what a purge settles whose counts
-- nobody reads.
use Rattle.std.specs.Prelude.{◌≡◌, Bool, List, ℕ, ◌*◌, ◌≤◌, ◌<◌, length, Result, Ok, Err}
use Rattle.meaning.specs.declared.Action.{Action}
use Rattle.meaning.specs.declared.Record.{Record}
use Rattle.meaning.specs.declared.Refusal.{Refusal}
use Rattle.meaning.specs.Table.{form_of, log_at, log_most, count, held, node, part, put_node, Sound}
use Rattle.meaning.specs.Node.{purged}
use Rattle.meaning.specs.Steps.{Reply, reply, leaving, lagging, after}
use Rattle.records.specs.Tests.{Askable, Follows}
use Rattle.logs.specs.Carry.{Puts, stay}

-- where node p's log begins, and its words
abbrev pub log_from : ℕ → List ℕ → ℕ
log_from p t = log_at (form_of t) p

abbrev pub log_of : ℕ → List ℕ → List ℕ
log_of p t = part (log_from p t) (4 * log_most) t

-- the words of its first k records
abbrev pub held_rows : ℕ → ℕ → List ℕ → List ℕ
held_rows p k t = part (log_from p t) (4 * k) t

-- A node of a sound table, how many records it holds, and a test that may be asked of each and tells which of them a purge lets go
pub record Drops (t : List ℕ) (p k : ℕ) (pre : Record → Type 0) (post : Record → Bool → Type 0) : Type 0 where
  pub is_sound : Sound t
  pub there : p < count t
  pub many : k ≡ held t p
  pub room : k ≤ log_most
  pub askable : Askable pre (held_rows p k t)
  pub follows : Follows post (leaving t p) (held_rows p k t)

-- the records that stay, put where the log begins
abbrev pub Closed : List ℕ → ℕ → (Record → Bool) → ℕ → List ℕ → Type 0
Closed t p leaves r u = Puts (log_from p t) (stay leaves (node t p).log) t r u

-- what is then left
pub record Dropped (t : List ℕ) (p : ℕ) (leaves : Record → Bool) (r : ℕ) (u : List ℕ) : Type 0 where
  pub many : r ≡ length (purged leaves (node t p)).log
  pub puts : u ≡ put_node p (purged leaves (node t p)) t

-- A node of a table, n its count, and how many records it holds
pub record Cuts (t : List ℕ) (p n k : ℕ) : Type 0 where
  pub nodes : n ≡ count t
  pub there : p < n
  pub many : k ≡ held t p

-- what a purge makes of it: those records have left that are to leave, and it is told who holds it up
pub record CutDone (t : List ℕ) (p n k left at : ℕ) (u : List ℕ) : Type 0 where
  pub dropped : Dropped t p (leaving t p) left u
  pub few : left ≤ k
  pub lags : at ≡ lagging t p
  pub below : at < n

-- what is told of a step of which only its refusal is, and the words at exit
abbrev pub passed : Reply → Result (Unit {0}) Refusal
passed (Ok report) = Ok tt
passed (Err r) = Err r

abbrev pub Passed : List ℕ → Action → Result (Unit {0}) Refusal → List ℕ → Type 0
Passed t x r u = (r ≡ passed (reply t x)) × (u ≡ after t x)
