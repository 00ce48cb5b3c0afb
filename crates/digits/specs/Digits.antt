-- What the functions over a line's digits answer: a letter's number, a digit's share of the sum, the sum, the digits' numbers.
use Rattle.std.specs.Prelude.{ℕ, ◌-◌, ◌*◌, ◌%◌, cond, ◌&&◌, List, [], ◌∷◌, Option, Some, None, ◌==◌, nat_le, nat_lt, position}
use Rattle.meaning.specs.Frames.{digit_value, bytes_of, all_digits, total}

-- the number of a letter A to F, 16 for any other character
unfoldable pub letter_value : ℕ → ℕ
letter_value c = cond (nat_le 65 c && nat_le c 70) (c - 55) 16

-- what a digit's number adds to the sum, by its place: the first of a byte's two counts 16 times
unfoldable pub weigh : ℕ → ℕ → ℕ
weigh place v = cond (place % 2 == 0) (16 * v % 256) v

-- the sum of the line's bytes, none where a character is no digit
unfoldable pub sum_of : List ℕ → Option ℕ
sum_of l = cond (all_digits l) (Some (total (bytes_of l))) None

-- the place of the first character that is no digit, none where all are
abbrev pub stray_of : List ℕ → Option ℕ
stray_of l = position (λ c. nat_lt 15 (digit_value c)) l

-- the characters' numbers
unfoldable pub values_of : List ℕ → List ℕ
values_of [] = []
values_of (c ∷ cs) = digit_value c ∷ values_of cs
