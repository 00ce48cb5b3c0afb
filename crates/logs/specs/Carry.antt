-- Records within a table: those of a log that stands at a place, what putting some of them elsewhere settles, which of them a purge lets go, which row of
-- a log is the first to go and which are stored, and what carrying them requires.
use Rattle.std.specs.Prelude.{◌≡◌, Bool, true, false, not, List, [], ◌∷◌, ℕ, suc, ◌+◌, ◌*◌, ◌≤◌, ◌<◌, length, Option, Some, None}
use Rattle.meaning.specs.declared.Record.{Record}
use Rattle.meaning.specs.Rows.{newer, keep, record_at, records, words, all}
use Rattle.meaning.specs.Table.{log_most, part, place, record_sound}

-- the first `held` records of the log at `from`, and one of its records
abbrev pub log_records : ℕ → ℕ → List ℕ → List Record
log_records from held t = records held (part from (4 * log_most) t)

abbrev pub log_record : ℕ → ℕ → List ℕ → Record
log_record from row t = record_at (part from (4 * log_most) t) row

-- Records put at a place: how many they are, and the words at exit
pub record Puts (at : ℕ) (rs : List Record) (t : List ℕ) (n : ℕ) (u : List ℕ) : Type 0 where
  pub many : n ≡ length rs
  pub leaves : u ≡ place at (words rs) t

-- the records that stay where those leave for which a test says so, in their order
abbrev pub stay : (Record → Bool) → List Record → List Record
stay leaves = keep (λ r. not (leaves r))

-- The row of the first of `held` records that leaves: it leaves, and all before it stay. `held` where none leaves
pub record FirstLeaving (leaves : Record → Bool) (held : ℕ) (w : List ℕ) (r : ℕ) : Type 0 where
  pub within : r ≤ held
  pub before : stay leaves (records r w) ≡ records r w
  pub first : r < held → leaves (record_at w r) ≡ true

-- The same as it is told: a row below `held`, or nothing where none leaves
abbrev pub FirstTold : (Record → Bool) → ℕ → List ℕ → Option ℕ → Type 0
FirstTold leaves held w None = FirstLeaving leaves held w held
FirstTold leaves held w (Some r) = (r < held) × FirstLeaving leaves held w r

-- The first so many of the rows that are lent: a test may be asked of the record of each, and it answers there what a rule says
abbrev pub AskableIn : ℕ → (Record → Type 0) → List ℕ → Type 0
AskableIn held pre w = (i : ℕ) → i < held → pre (record_at w i)

abbrev pub FollowsIn : ℕ → (Record → Bool → Type 0) → (Record → Bool) → List ℕ → Type 0
FollowsIn held post rule w = (i : ℕ) (b : Bool) → i < held → post (record_at w i) b → b ≡ rule (record_at w i)

-- So many rows of a log, of which the first is of a record that leaves
pub record Closes (leaves : Record → Bool) (held : ℕ) (w : List ℕ) : Type 0 where
  pub some : 0 < held
  pub first : leaves (record_at w 0) ≡ true

-- The rows that closing up stores, in order, `k` being the next one free: a record that leaves stores none, one that stays goes to that row
abbrev pub stored_or : Bool → ℕ → List ℕ → List ℕ → List ℕ
stored_or true k none more = none
stored_or false k none more = k ∷ more

unfoldable pub stored_rows : (Record → Bool) → ℕ → List Record → List ℕ
stored_rows leaves k [] = []
stored_rows leaves k (r ∷ rs) = stored_or (leaves r) k (stored_rows leaves k rs) (stored_rows leaves (suc k) rs)

-- The log read and the row written lie in the table, and the record's origin has an entry in the summary
pub record Carries (t : List ℕ) (from row to : ℕ) (summary : List ℕ) : Type 0 where
  pub inside : from + 4 * log_most ≤ length t
  pub below : row < log_most
  pub known : (log_record from row t).origin < length summary
  pub fits : to + 4 * length (newer summary (log_record from row t ∷ [])) ≤ length t

-- The same of the first `held` records, and what is written lies apart from the log
pub record CarriesAll (t : List ℕ) (from held to : ℕ) (summary : List ℕ) : Type 0 where
  pub inside : from + 4 * log_most ≤ length t
  pub below : held ≤ log_most
  pub known : all (record_sound (length summary)) (log_records from held t) ≡ true
  pub fits : to + 4 * length (newer summary (log_records from held t)) ≤ length t
  pub apart : from < to + 4 * length (newer summary (log_records from held t)) → to < from + 4 * log_most → ⊥
