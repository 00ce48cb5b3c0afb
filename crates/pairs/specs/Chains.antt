-- The different pairs of a list of records as the code keeps them: 64 slots, each with a chain of records that stand for their pairs. A head is 1 and
-- the record's row, or 0 for none; a link is the same of the next record of the chain.
use Rattle.std.specs.Prelude.{◌≡◌, Bool, true, false, not, ◌&&◌, List, map, ℕ, ◌+◌, ◌-◌, ◌*◌, ◌/◌, ◌%◌, ◌<◌, ◌≤◌, length, get_or, drop, ltb}
use Rattle.meaning.specs.declared.Record.{Record}
use Rattle.meaning.specs.Rows.{record_at, records}
use Rattle.meaning.specs.Table.{log_most}
use Rattle.meaning.specs.Verdicts.{class_of, is_scrubbed, is_touched, Pair, pair_of, same_pair, among, pairs_of, scrubbed, touched}

-- A pair by its two numbers, and its slot
abbrev pub a_pair : ℕ → ℕ → Pair
a_pair origin block = record { origin = origin; block = block }

unfoldable pub slot_of : Pair → ℕ
slot_of x = (67915001 * x.block + 2522691884 * x.origin) / 67108864 % 64

-- is there a record that has another pair?
abbrev pub goes_on : List ℕ → Pair → ℕ → Bool
goes_on w x k = ltb 0 k && not (same_pair x (pair_of (record_at w (k - 1))))

-- the search for a pair along a chain, and where it ends: at a record of that pair, or at 0
pub data Seeks (w links : List ℕ) (x : Pair) : ℕ → ℕ → Type 0 where
  ends : {k : ℕ} → goes_on w x k ≡ false → Seeks w links x k k
  goes : {k n : ℕ} → goes_on w x k ≡ true → Seeks w links x (get_or links (k - 1) 0) n → Seeks w links x k n

-- a record as the code classes it, by its verdict's low byte
abbrev pub low_byte : Record → Record
low_byte r = record { origin = r.origin; timestamp = r.timestamp; block = r.block; verdict = r.verdict % 256 }

-- the records from row `at` on, so classed
abbrev pub since : List ℕ → ℕ → List Record
since w at = map low_byte (drop at (records (length w / 4) w))

-- is the record before row k touched?
abbrev pub touched_at : List ℕ → ℕ → Bool
touched_at w k = is_touched (class_of ((record_at w (k - 1)).verdict % 256))

-- Links lead to later records only, so that a chain ends
pub record Rising (w links : List ℕ) : Type 0 where
  pub room : length w ≤ 4 * log_most
  pub rows : length links ≡ log_most
  pub link : (k : ℕ) → 0 < get_or links k 0 → (k + 1 < get_or links k 0) × (4 * get_or links k 0 ≤ length w)

-- Heads and links know the pairs of the records from row `at` on: the search from its slot finds a pair if it is scrubbed, and at a touched record if
-- it is touched.
pub record Kept (w : List ℕ) (at : ℕ) (heads links : List ℕ) : Type 0 where
  pub rising : Rising w links
  pub slots : length heads ≡ 64
  pub head : (h : ℕ) → 0 < get_or heads h 0 → (at < get_or heads h 0) × (4 * get_or heads h 0 ≤ length w)
  pub knows : (x : Pair) (k : ℕ) → Seeks w links x (get_or heads (slot_of x) 0) k
      → (ltb 0 k ≡ among x (pairs_of is_scrubbed (since w at))) × (0 < k → touched_at w k ≡ among x (pairs_of is_touched (since w at)))

-- They are kept, and both counts are theirs.
pub record Noted (w : List ℕ) (at : ℕ) (heads links : List ℕ) (s t : ℕ) : Type 0 where
  pub kept : Kept w at heads links
  pub scrubs : s ≡ scrubbed (since w at)
  pub touches : t ≡ touched (since w at)
