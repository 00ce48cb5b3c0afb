-- What the quick way leaves in six lent words: an accepted line's kind and fields, and for any other line what was there.
use Rattle.std.specs.Prelude.{◌≡◌, Bool, cond, List, [], ◌∷◌, ℕ, leb}
use Rattle.meaning.specs.Frames.{six_values}
use Rattle.numbers.specs.Numbers.{joined_at}
use Rattle.heads.specs.Heads.{accepted}

-- a write's six words by its digits' numbers, and a session's by the numbers of the digits after its kind
abbrev pub write_words : List ℕ → List ℕ
write_words v = 1 ∷ joined_at v 2 1 ∷ joined_at v 4 4 ∷ joined_at v 12 4 ∷ joined_at v 20 1 ∷ 0 ∷ []

abbrev pub session_words : List ℕ → List ℕ
session_words v = 2 ∷ joined_at v 0 1 ∷ joined_at v 2 1 ∷ joined_at v 4 4 ∷ joined_at v 12 4 ∷ joined_at v 20 1 ∷ []

-- a session's where its outcome is at most 3, else what was there
abbrev pub met_words : List ℕ → List ℕ → List ℕ
met_words v words = cond (leb (joined_at v 20 1) 3) (session_words v) words

-- the answer, and the words at exit
abbrev pub Puts : List ℕ → List ℕ → Bool → List ℕ → Type 0
Puts l words r words' = (r ≡ accepted l) × (words' ≡ cond (accepted l) (six_values l) words)
