-- The records of a log that is lent without the rows that hold none, and tests of them: a test may be asked of each, and it answers there what a rule
-- says.
use Rattle.std.specs.Prelude.{◌≡◌, Bool, List, ℕ, ◌/◌, ◌<◌, length}
use Rattle.meaning.specs.declared.Record.{Record}
use Rattle.meaning.specs.Rows.{record_at, records}

abbrev pub rows : List ℕ → ℕ
rows w = length w / 4

abbrev pub all_records : List ℕ → List Record
all_records w = records (rows w) w

abbrev pub Askable : (Record → Type 0) → List ℕ → Type 0
Askable pre w = (i : ℕ) → i < rows w → pre (record_at w i)

abbrev pub Follows : (Record → Bool → Type 0) → (Record → Bool) → List ℕ → Type 0
Follows post rule w = (i : ℕ) (b : Bool) → i < rows w → post (record_at w i) b → b ≡ rule (record_at w i)
