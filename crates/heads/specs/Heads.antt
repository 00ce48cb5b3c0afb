-- What the functions over a line answer: whether it is accepted, what a short line holds, its check byte, and the actions by the places of their fields.
use Rattle.std.specs.Prelude.{◌≡◌, Bool, true, ◌&&◌, ◌||◌, cond, List, Option, Some, None, ℕ, ◌+◌, ◌*◌, ◌%◌, length, leb, ltb, eqb}
use Rattle.meaning.specs.declared.Action.{Action}
use Rattle.meaning.specs.declared.Action.TheVariants.{Write, Session, Purge, Deliver}
use Rattle.meaning.specs.Table.{count_right}
use Rattle.meaning.specs.Frames.{digit_value, bytes_of, all_digits, known, digits_of, line_kind, line_refusal}
use Rattle.numbers.specs.Numbers.{field_at}
use Rattle.heads.specs.declared.Short.{Short}

-- whether a line is accepted
unfoldable pub accepted : List ℕ → Bool
accepted l = eqb (line_refusal l) 0

-- what an accepted line of six characters holds, its kind and its field; none where it is refused
abbrev pub held : List ℕ → Short
held l = record { kind = line_kind (bytes_of l); field = field_at l 1 1 }

unfoldable pub short_of : List ℕ → Option Short
short_of l = cond (accepted l) (Some (held l)) None

-- two characters are digits, and their byte brings this sum to zero
unfoldable pub is_check : ℕ → ℕ → ℕ → Bool
is_check sum high low =
    ltb (digit_value high) 16 && (ltb (digit_value low) 16 && eqb ((sum + (16 * digit_value high + digit_value low)) % 256) 0)

-- a purge and a delivery, told by their kind's second character, may have any field, a start 2 to 16
unfoldable pub may_hold : ℕ → ℕ → Bool
may_hold c n = eqb c 51 || (eqb c 53 || (eqb c 48 && count_right n))

-- two characters are an outcome's, 0 to 3
unfoldable pub is_outcome : ℕ → ℕ → Bool
is_outcome high low = eqb high 48 && (leb 48 low && leb low 51)

-- a line of digits with the length of this kind
pub record Whole (l : List ℕ) (kind : ℕ) : Type 0 where
  pub digits : all_digits l ≡ true
  pub is : line_kind (bytes_of l) ≡ kind
  pub long : length l ≡ digits_of kind
  pub has_kind : known kind ≡ true

-- the actions by the places of their fields
abbrev pub write_at : List ℕ → Action
write_at l = Write (field_at l 1 1) (field_at l 2 4) (field_at l 6 4) (field_at l 10 1)

abbrev pub session_at : List ℕ → Action
session_at l = Session (field_at l 1 1) (field_at l 2 1) (field_at l 3 4) (field_at l 7 4) (field_at l 11 1)

abbrev pub purge_at : List ℕ → Action
purge_at l = Purge (field_at l 1 1)

abbrev pub deliver_at : List ℕ → Action
deliver_at l = Deliver (field_at l 1 1)
