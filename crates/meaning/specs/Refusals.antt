-- Refusals: tests in order, each with its number and place. Document 01, "Refusal numbers and their order"; document 02, T-01.
use Rattle.std.specs.Prelude.{Bool, cond, List, [], ◌∷◌, ℕ, zero, suc, eqb, Result, Ok, Err, Option, Some, None}
use Rattle.meaning.specs.declared.Refusal.{Refusal}
use Rattle.meaning.specs.declared.Refusal.TheVariants.{
  Unsound,
  SessionOutcome,
  NodeAbsent,
  NodeTwice,
  TimeBehind,
  LogFull,
  ListShort,
  KindUnknown,
  DigitStray,
  SumWrong,
  LineUnended,
  StartWrong,
  JournalLong,
  RoomShort,
  DigitsOdd,
  LengthWrong,
  LineOutcome,
  OnColumns,
}
use Rattle.meaning.specs.declared.Fault.{Fault}

-- the number of each refusal, and the refusal that has a number: what the lists of tests give by its number, code tells by its name
abbrev pub number_of : Refusal → ℕ
number_of Unsound = 1
number_of SessionOutcome = 2
number_of NodeAbsent = 3
number_of NodeTwice = 4
number_of TimeBehind = 5
number_of LogFull = 6
number_of ListShort = 7
number_of KindUnknown = 11
number_of DigitStray = 12
number_of SumWrong = 13
number_of LineUnended = 14
number_of StartWrong = 15
number_of JournalLong = 16
number_of RoomShort = 17
number_of DigitsOdd = 18
number_of LengthWrong = 19
number_of LineOutcome = 20
number_of OnColumns = 26

unfoldable pub refusal_of : ℕ → Refusal
refusal_of k =
    cond (eqb k 1) Unsound
    (cond (eqb k 2) SessionOutcome
    (cond (eqb k 3) NodeAbsent
    (cond (eqb k 4) NodeTwice
    (cond (eqb k 5) TimeBehind
    (cond (eqb k 6) LogFull
    (cond (eqb k 7) ListShort
    (cond (eqb k 11) KindUnknown
    (cond (eqb k 12) DigitStray
    (cond (eqb k 13) SumWrong
    (cond (eqb k 14) LineUnended
    (cond (eqb k 15) StartWrong
    (cond (eqb k 16) JournalLong
    (cond (eqb k 17) RoomShort
    (cond (eqb k 18) DigitsOdd
    (cond (eqb k 19) LengthWrong
    (cond (eqb k 20) LineOutcome OnColumns))))))))))))))))

-- a row of document 01's tables: its number, the place that it tells, 0 where it tells none, and whether it is to be given
pub record Test : Type 0 where
  pub number : ℕ
  pub place : ℕ
  pub applies : Bool

abbrev pub test_at : ℕ → ℕ → Bool → Test
test_at k p b = record { number = k; place = p; applies = b }

abbrev pub test : ℕ → Bool → Test
test k b = test_at k 0 b

-- "the first that applies is given, and none is given otherwise": 0 for none
unfoldable pub first : List Test → ℕ
first [] = 0
first (x ∷ xs) = cond x.applies x.number (first xs)

-- and the place that it tells, 0 for none
unfoldable pub first_place : List Test → ℕ
first_place [] = 0
first_place (x ∷ xs) = cond x.applies x.place (first_place xs)

-- What a call answers whose number this is: at 0 what it did, else its refusal
abbrev pub answered : {A : Type 0} → ℕ → A → Result A Refusal
answered zero x = Ok x
answered (suc k) x = Err (refusal_of (suc k))

-- the same of a line, whose refusal has a place: what it says, or what is wrong with it
abbrev pub fault : ℕ → ℕ → Fault
fault k p = record { refusal = refusal_of k; place = p }

abbrev pub fault_at : ℕ → ℕ → Option Fault
fault_at zero p = None
fault_at (suc k) p = Some (fault (suc k) p)

abbrev pub answered_at : {A : Type 0} → ℕ → ℕ → A → Result A Fault
answered_at zero p x = Ok x
answered_at (suc k) p x = Err (fault (suc k) p)

-- number and place of what is wrong with a line, 0 and 0 for nothing
abbrev pub fault_values : Option Fault → List ℕ
fault_values None = 0 ∷ 0 ∷ []
fault_values (Some f) = number_of f.refusal ∷ f.place ∷ []
