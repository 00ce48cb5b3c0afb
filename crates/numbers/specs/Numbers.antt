-- What the functions over a number's digits answer: the number of so many bytes, by the digits' numbers and by the characters.
use Rattle.std.specs.Prelude.{◌≡◌, true, List, ℕ, zero, suc, ◌+◌, ◌*◌, ◌≤◌, ◌<◌, length, get_or, take, drop}
use Rattle.meaning.specs.Frames.{bytes_of, all_digits, number}

-- the number of this many bytes, two digits' numbers each, from a digit's place
unfoldable pub joined_at : List ℕ → ℕ → ℕ → ℕ
joined_at v at zero = 0
joined_at v at (suc k) = 256 * joined_at v at k + (16 * get_or v (at + 2 * k) 0 + get_or v (at + 2 * k + 1) 0)

-- numbers below 16 that have the digits from a place
pub record Joins (v : List ℕ) (at width : ℕ) : Type 0 where
  pub small : (i : ℕ) → i < length v → get_or v i 0 < 16
  pub room : at + 2 * width ≤ length v

-- the number of this many bytes from a byte's place
unfoldable pub field_at : List ℕ → ℕ → ℕ → ℕ
field_at l at width = number (take width (drop at (bytes_of l)))

-- a line of digits that has the bytes from a place
pub record Within (l : List ℕ) (at width : ℕ) : Type 0 where
  pub digits : all_digits l ≡ true
  pub room : 2 * (at + width) ≤ length l
