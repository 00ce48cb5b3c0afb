-- What a run of a journal over a lent table answers and leaves, for every list of words. Document 01, "Frames and journals".
use Rattle.std.specs.Prelude.{◌≡◌, Bool, ◌&&◌, cond, List, [], ◌∷◌, ℕ, zero, suc, length, leb, eqb, Err}
use Rattle.meaning.specs.declared.Refusal.TheVariants.{Unsound}
use Rattle.meaning.specs.declared.Stopped.TheVariants.{Unread}
use Rattle.meaning.specs.Table.{Vectors, form_words, fresh}
use Rattle.meaning.specs.Journals.{Outcome, Journal, steps_from, after_all, refused_of, outcome_of, replayed, replay_after, printed, replay_text}
use Rattle.text.specs.Text.{Shown, text_most}

-- A table of the wrong length has no room for a fresh one: refusal 1, of no line and at no place, and no word is changed.
unfoldable pub run_outcome : List ℕ → List ℕ → Outcome
run_outcome t s = cond (eqb (length t) (form_words Vectors)) (replayed s) (Err (Unread Unsound))

unfoldable pub run_after : List ℕ → List ℕ → List ℕ
run_after t s = cond (eqb (length t) (form_words Vectors)) (replay_after t s) t

-- Document 01's values of a journal's replay, where b is the refused line's number: that line, number and place, or two zeros and the three
-- counts
abbrev pub journal_values : ℕ → Journal → List ℕ
journal_values zero j = 0 ∷ 0 ∷ j.n ∷ length j.rest.steps ∷ refused_of (fresh Vectors j.n) j.rest.steps ∷ []
journal_values (suc b) j = j.rest.bad_line ∷ suc b ∷ j.rest.bad_place ∷ []

-- "Number 16, only from the program: the journal exceeds 65,536 bytes."
abbrev pub journal_most : ℕ
journal_most = 65536

-- The lent words and bytes have room: those of a table, and those of every text
abbrev pub roomy : List ℕ → List ℕ → Bool
roomy t out = eqb (length t) (form_words Vectors) && leb text_most (length out)

-- What the program prints, from place 0 of the lent bytes; nothing where they or the table are of the wrong length
unfoldable pub text_written : List ℕ → List ℕ → List ℕ → List ℕ
text_written s t out = cond (roomy t out) (replay_text s) []

-- The table afterwards: as it was where nothing is written or the journal is too long
unfoldable pub table_left : List ℕ → List ℕ → List ℕ → List ℕ
table_left s t out = cond (roomy t out && leb (length s) journal_most) (replay_after t s) t

-- What each function answers and leaves.
-- A start of n nodes, read up to a place, and the steps from there on
abbrev pub begun_at : ℕ → List ℕ → ℕ → Journal
begun_at n s from = record { n = n; rest = steps_from (length s) s from 2 }

-- A journal from there on: the outcome, and a fresh table after its steps
pub record RanFrom (s : List ℕ) (from n : ℕ) (r : Outcome) (t' : List ℕ) : Type 0 where
  pub outcome : r ≡ outcome_of (begun_at n s from).rest.bad_number (begun_at n s from)
  pub table : t' ≡ after_all (fresh Vectors n) (begun_at n s from).rest.steps

-- A whole journal over a lent table
pub record Ran (s t : List ℕ) (r : Outcome) (t' : List ℕ) : Type 0 where
  pub outcome : r ≡ run_outcome t s
  pub table : t' ≡ run_after t s

-- A text of length r is written into the lent bytes, and a table is left
pub record Told (text left out : List ℕ) (r : ℕ) (t' out' : List ℕ) : Type 0 where
  pub shown : Shown out text r out'
  pub table : t' ≡ left

abbrev pub RunTold : (s t out : List ℕ) (r : ℕ) (t' out' : List ℕ) → Type 0
RunTold s t out = Told (printed (replayed s) (replay_after [] s)) (replay_after t s) out

abbrev pub Replayed : (s t out : List ℕ) (r : ℕ) (t' out' : List ℕ) → Type 0
Replayed s t out = Told (text_written s t out) (table_left s t out) out
