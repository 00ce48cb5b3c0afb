-- Journals: the line at a position, the reader's answer, the steps of a journal, its replay and what is printed.
-- Document 01, "Frames and journals".
use Rattle.std.specs.Prelude.{
  Bool,
  true,
  false,
  not,
  ◌&&◌,
  ◌||◌,
  cond,
  List,
  [],
  ◌∷◌,
  ◌++◌,
  ℕ,
  zero,
  suc,
  ◌+◌,
  ◌/◌,
  ◌%◌,
  length,
  drop,
  leb,
  ltb,
  eqb,
  Result,
  Ok,
  Err,
  Option,
  Some,
  None,
}
use Prim.Native.String.{String}
use Rattle.meaning.specs.declared.Step.{Step}
use Rattle.meaning.specs.declared.Said.TheVariants.{Begin, Act}
use Rattle.meaning.specs.declared.NextLine.{NextLine}
use Rattle.meaning.specs.declared.NextLine.TheVariants.{Begin as BeginAt, Act as ActAt}
use Rattle.meaning.specs.declared.Done.{Done}
use Rattle.meaning.specs.declared.Fault.{Fault}
use Rattle.meaning.specs.declared.Refusal.TheVariants.{JournalLong}
use Rattle.meaning.specs.declared.Stopped.{Stopped}
use Rattle.meaning.specs.declared.Stopped.TheVariants.{Bad, Unread}
use Rattle.meaning.specs.Rows.{ascii}
use Rattle.meaning.specs.Refusals.{number_of, fault}
use Rattle.meaning.specs.Table.{Vectors, Node, fresh, node}
use Rattle.meaning.specs.Steps.{refusal, after}
use Rattle.meaning.specs.Frames.{kind_of, fields_of, Line, read_line}

-- "The next line runs from the position to the next LF": what stands before the first LF, and whether there is one
abbrev pub unless_lf : Bool → ℕ → List ℕ → List ℕ
unless_lf true c cs = []
unless_lf false c cs = c ∷ cs

unfoldable pub until_lf : List ℕ → List ℕ
until_lf [] = []
until_lf (c ∷ cs) = unless_lf (eqb c 10) c (until_lf cs)

unfoldable pub has_lf : List ℕ → Bool
has_lf [] = false
has_lf (c ∷ cs) = eqb c 10 || has_lf cs

-- 14: "bytes are left but no LF follows"
unfoldable pub unended : List ℕ → ℕ → Bool
unended s at = ltb at (length s) && not (has_lf (drop at s))

-- "hands back each line as the part of the caller's journal": empty with no LF, and at the end or beyond
unfoldable pub line_at : List ℕ → ℕ → List ℕ
line_at s at = cond (has_lf (drop at s)) (until_lf (drop at s)) []

unfoldable pub place_after : List ℕ → ℕ → ℕ
place_after s at = at + (length (line_at s at) + 1)

-- What the reader finds: a line that stands in its turn, with the place after it; none at the end; or what is wrong with the line
abbrev pub Next : Type 0
Next = Result (Option NextLine) Fault

-- 15: "the first line is no start, a later line is one"
abbrev pub in_turn : Bool → ℕ → Line → Next
in_turn true next (Ok (Begin n)) = Ok (Some (BeginAt n next))
in_turn true next (Ok (Act s)) = Err (fault 15 0)
in_turn true next (Err f) = Err f
in_turn false next (Ok (Begin n)) = Err (fault 15 0)
in_turn false next (Ok (Act s)) = Ok (Some (ActAt s next))
in_turn false next (Err f) = Err f

-- What the reader finds at a place, told whether the line there is the first, and the line number. "At the end or beyond it says so." What
-- lacks at 14 is the LF, after all that is left.
unfoldable pub next_in : Bool → List ℕ → ℕ → ℕ → Next
next_in first s at line =
    cond (leb (length s) at) (Ok None)
    (cond (unended s at) (Err (fault 14 (length (drop at s)))) (in_turn first (place_after s at) (read_line line (line_at s at))))

-- In a journal "the line read at place 0 is the first, and no other is"
abbrev pub next_at : List ℕ → ℕ → ℕ → Next
next_at s at line = next_in (eqb at 0) s at line

-- Document 01's values of each answer: the refusal and its place (0 and 0 for none), then the kind, the fields and the next place of a start or a
-- step
abbrev pub next_values : Next → List ℕ
next_values (Ok (Some (BeginAt n next))) = 0 ∷ 0 ∷ 0 ∷ n ∷ next ∷ []
next_values (Ok (Some (ActAt s next))) = 0 ∷ 0 ∷ kind_of s.action ∷ (fields_of s.action ++ (next ∷ []))
next_values (Ok None) = 0 ∷ 0 ∷ []
next_values (Err f) = number_of f.refusal ∷ f.place ∷ []

-- "hands back each line ..; with a refusal the part is empty"
abbrev pub handed_back : Next → List ℕ → List ℕ
handed_back (Ok (Some x)) l = l
handed_back (Ok None) l = []
handed_back (Err f) l = []

-- The position afterwards: "A refused line .. leaves the position at that line's start."
abbrev pub position : ℕ → Next → ℕ
position at (Ok (Some (BeginAt n next))) = next
position at (Ok (Some (ActAt s next))) = next
position at (Ok None) = at
position at (Err f) = at

-- The steps from a place on, up to the end or the first refused line: its line, number and place in it, zeros where there is none; and
-- where the reading stopped, at the refused line's start or where the end was found. No line among them is a first one.
-- The first argument bounds the lines still to come.
pub record Steps : Type 0 where
  pub steps : List Step
  pub bad_line : ℕ
  pub bad_number : ℕ
  pub bad_place : ℕ
  pub stop : ℕ

abbrev pub none : ℕ → Steps
none at = record { steps = []; bad_line = 0; bad_number = 0; bad_place = 0; stop = at }

abbrev pub broken : ℕ → ℕ → ℕ → ℕ → Steps
broken at line k p = record { steps = []; bad_line = line; bad_number = k; bad_place = p; stop = at }

abbrev pub step∷ : Step → Steps → Steps
step∷ s x = record { steps = s ∷ x.steps; bad_line = x.bad_line; bad_number = x.bad_number; bad_place = x.bad_place; stop = x.stop }

unfoldable pub steps_from : ℕ → List ℕ → ℕ → ℕ → Steps
steps_from zero s at line = none at
steps_from (suc k) s at line =
    elim (next_in false s at line) [
      | Ok (Some (BeginAt n next)) ↦ broken at line 15 0
      | Ok (Some (ActAt x next)) ↦ step∷ x (steps_from k s next (line + 1))
      | Ok None ↦ none at
      | Err f ↦ broken at line (number_of f.refusal) f.place
    ]

-- A journal: its start's n (0 without one) and its steps. "An empty journal gives BAD 1 15", place 0.
pub record Journal : Type 0 where
  pub n : ℕ
  pub rest : Steps

unfoldable pub journal : List ℕ → Journal
journal s =
    elim (next_at s 0 1) [
      | Ok (Some (BeginAt n next)) ↦ record { n = n; rest = steps_from (length s) s next 2 }
      | Ok (Some (ActAt x next)) ↦ record { n = 0; rest = broken 0 1 15 0 }
      | Ok None ↦ record { n = 0; rest = broken 0 1 15 0 }
      | Err f ↦ record { n = 0; rest = broken 0 1 (number_of f.refusal) f.place }
    ]

-- "applies its steps to a fresh table; a refused step is counted and passed over"
unfoldable pub after_all : List ℕ → List Step → List ℕ
after_all t [] = t
after_all t (s ∷ ss) = after_all (after t s.action) ss

abbrev pub one_if : ℕ → ℕ
one_if zero = 0
one_if (suc k) = 1

unfoldable pub refused_of : List ℕ → List Step → ℕ
refused_of t [] = 0
refused_of t (s ∷ ss) = one_if (refusal t s.action) + refused_of (after t s.action) ss

-- The replay's outcome, and the table: the caller's own where the first line is refused, else a fresh one after the steps before the refused line
abbrev pub Outcome : Type 0
Outcome = Result Done Stopped

abbrev pub outcome_of : ℕ → Journal → Outcome
outcome_of zero j = Ok (record { n = j.n; steps = length j.rest.steps; refused = refused_of (fresh Vectors j.n) j.rest.steps })
outcome_of (suc k) j = Err (Bad j.rest.bad_line (fault (suc k) j.rest.bad_place))

-- document 01's values: the refused line, its number and place; no line and the number alone; or no refusal and the three counts
abbrev pub outcome_values : Outcome → List ℕ
outcome_values (Err (Bad line f)) = line ∷ number_of f.refusal ∷ f.place ∷ []
outcome_values (Err (Unread r)) = 0 ∷ number_of r ∷ []
outcome_values (Ok x) = 0 ∷ 0 ∷ x.n ∷ x.steps ∷ x.refused ∷ []

unfoldable pub replayed : List ℕ → Outcome
replayed s = outcome_of (journal s).rest.bad_number (journal s)

abbrev pub started_from : ℕ → List ℕ → List ℕ
started_from zero t = t
started_from (suc n) t = fresh Vectors (suc n)

unfoldable pub replay_after : List ℕ → List ℕ → List ℕ
replay_after t s = after_all (started_from (journal s).n t) (journal s).rest.steps

-- What is printed. A number in decimal, of at most 20 digits
unfoldable pub decimal_in : ℕ → ℕ → List ℕ
decimal_in zero v = []
decimal_in (suc k) v = cond (ltb v 10) ((48 + v) ∷ []) (decimal_in k (v / 10) ++ ((48 + v % 10) ∷ []))

unfoldable pub decimal : ℕ → List ℕ
decimal v = decimal_in 20 v

-- each number with a space before it
unfoldable pub spaced : List ℕ → List ℕ
spaced [] = []
spaced (v ∷ vs) = 32 ∷ (decimal v ++ spaced vs)

-- a word, and its numbers after it
unfoldable pub said : String → List ℕ → List ℕ
said word vs = ascii word ++ spaced vs

-- "one line a node: its number, `S` and n summary entries, `K` and n acknowledgements, `L` and the held number, all decimal"
unfoldable pub node_line : ℕ → Node → List ℕ
node_line p x = decimal p ++ (said " S" x.summary ++ (said " K" x.acks ++ (said " L" (length x.log ∷ []) ++ ascii "\n")))

unfoldable pub node_lines : ℕ → List ℕ → List ℕ
node_lines zero t = []
node_lines (suc p) t = node_lines p t ++ node_line p (node t p)

-- "`BAD line number`", and the place "as a third number after `BAD`; 16 has none"; otherwise "`N`, the count, `STEPS`, all step lines, `REFUSED`,
-- those refused. Then one line a node"
unfoldable pub printed : Outcome → List ℕ → List ℕ
printed (Err (Bad line f)) t = said "BAD" (line ∷ number_of f.refusal ∷ f.place ∷ []) ++ ascii "\n"
printed (Err (Unread r)) t = said "BAD" (0 ∷ number_of r ∷ []) ++ ascii "\n"
printed (Ok x) t =
    said "N" (x.n ∷ []) ++ (said " STEPS" (x.steps ∷ []) ++ (said " REFUSED" (x.refused ∷ []) ++ (ascii "\n" ++ node_lines x.n t)))

-- What the program prints. "Number 16, only from the program: the journal exceeds 65,536 bytes."
unfoldable pub replay_text : List ℕ → List ℕ
replay_text s = cond (ltb 65536 (length s)) (printed (Err (Unread JournalLong)) []) (printed (replayed s) (replay_after [] s))
