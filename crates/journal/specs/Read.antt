-- The values of the reader's answers, by place and bytes.
-- Document 01, "Frames and journals".
use Rattle.std.specs.Prelude.{Bool, true, false, cond, List, [], ◌∷◌, ◌++◌, ℕ, zero, suc, length, drop, leb, eqb}
use Rattle.meaning.specs.Frames.{read_line, line_values}
use Rattle.meaning.specs.Journals.{unended, line_at, place_after}

-- "the first line is no start, a later line is one": whether a line of this kind comes in its turn
abbrev pub is_turn : Bool → Bool → Bool
is_turn true start = start
is_turn false true = false
is_turn false false = true

-- the values of a line in its turn, with the place after it; 15 at place 0 out of turn; a refused line's own number and place
abbrev pub turn_values : Bool → ℕ → List ℕ → List ℕ
turn_values first next [] = []
turn_values first next (suc k ∷ vs) = suc k ∷ vs
turn_values first next (zero ∷ []) = 0 ∷ []
turn_values first next (zero ∷ (p ∷ [])) = 0 ∷ p ∷ []
turn_values first next (zero ∷ (p ∷ (kind ∷ fields))) = cond (is_turn first (eqb kind 0)) (0 ∷ p ∷ kind ∷ (fields ++ (next ∷ []))) (15 ∷ 0 ∷ [])

-- the values of what the reader finds, by place and bytes: none at the end or beyond, 14 with the length of what is left, else those of the line
-- there
abbrev pub read_values : List ℕ → ℕ → ℕ → List ℕ
read_values s at line =
    cond (leb (length s) at) (0 ∷ 0 ∷ [])
    (cond (unended s at) (14 ∷ length (drop at s) ∷ []) (turn_values (eqb at 0) (place_after s at) (line_values (read_line line (line_at s at)))))
