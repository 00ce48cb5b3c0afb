-- Frames: digits, the check, the frame of a step and of a start, and what a line means. Document 01, "Frames and journals"; document 02, T-04.
use Rattle.std.specs.Prelude.{
  ◌≡◌,
  Bool,
  true,
  false,
  not,
  ◌&&◌,
  ◌||◌,
  cond,
  List,
  [],
  ◌∷◌,
  ◌++◌,
  ℕ,
  zero,
  suc,
  ◌+◌,
  ◌-◌,
  ◌*◌,
  ◌/◌,
  ◌%◌,
  ◌^◌,
  min,
  length,
  get_or,
  take,
  drop,
  leb,
  ltb,
  eqb,
  Result,
  Ok,
  Err,
  Option,
}
use Rattle.meaning.specs.declared.Action.{Action}
use Rattle.meaning.specs.declared.Action.TheVariants.{Write, Session, Purge, Deliver}
use Rattle.meaning.specs.declared.Fault.{Fault}
use Rattle.meaning.specs.declared.Refusal.{Refusal}
use Rattle.meaning.specs.declared.Said.{Said}
use Rattle.meaning.specs.declared.Said.TheVariants.{Begin, Act}
use Rattle.meaning.specs.Refusals.{number_of, answered, fault_at, answered_at, Test, test, test_at, first, first_place}
use Rattle.meaning.specs.Rows.{unless}
use Rattle.meaning.specs.Table.{count_right, place}
use Rattle.meaning.specs.Steps.{outcome_above}

-- "uppercase hexadecimal": the digit of a number below 16, and the number of a character, 16 where it is no digit
unfoldable pub digit : ℕ → ℕ
digit v = cond (ltb v 10) (48 + v) (55 + v)

unfoldable pub digit_value : ℕ → ℕ
digit_value c = cond (leb 48 c && leb c 57) (c - 48) (cond (leb 65 c && leb c 70) (c - 55) 16)

-- "two digits a byte"
unfoldable pub spelled : List ℕ → List ℕ
spelled [] = []
spelled (b ∷ bs) = digit (b / 16) ∷ digit (b % 16) ∷ spelled bs

unfoldable pub bytes_of : List ℕ → List ℕ
bytes_of [] = []
bytes_of (h ∷ []) = []
bytes_of (h ∷ (l ∷ cs)) = (16 * digit_value h + digit_value l) ∷ bytes_of cs

unfoldable pub all_digits : List ℕ → Bool
all_digits [] = true
all_digits (c ∷ cs) = ltb (digit_value c) 16 && all_digits cs

-- the place of the first character that is no digit, the length where all are
unfoldable pub stray_at : List ℕ → ℕ
stray_at [] = 0
stray_at (c ∷ cs) = cond (ltb (digit_value c) 16) (suc (stray_at cs)) 0

-- "the sum wrapping at 256"; the check byte is its wrapped negation
unfoldable pub total : List ℕ → ℕ
total [] = 0
total (b ∷ bs) = (b + total bs) % 256

unfoldable pub check : List ℕ → ℕ
check bs = (256 - total bs) % 256

-- A kind of line: its number, and the widths of its fields in bytes
pub record Kind : Type 0 where
  pub kind : ℕ
  pub fields : List ℕ

abbrev pub row : ℕ → List ℕ → Kind
row k ws = record { kind = k; fields = ws }

-- The kinds of a journal's lines: 00 start, 01 write, 02 session, 03 purge, 05 delivery. A row is found by its number, so their order is free,
-- and a reader of other lines has rows of its own.
unfoldable pub journal_kinds : List Kind
journal_kinds = row 0 (1 ∷ []) ∷ row 1 (1 ∷ 4 ∷ 4 ∷ 1 ∷ []) ∷ row 2 (1 ∷ 1 ∷ 4 ∷ 4 ∷ 1 ∷ []) ∷ row 3 (1 ∷ []) ∷ row 5 (1 ∷ []) ∷ []

-- whether a kind is one of these, and the widths of its fields
unfoldable pub known_in : List Kind → ℕ → Bool
known_in [] k = false
known_in (x ∷ xs) k = eqb k x.kind || known_in xs k

unfoldable pub widths_in : List Kind → ℕ → List ℕ
widths_in [] k = []
widths_in (x ∷ xs) k = cond (eqb k x.kind) x.fields (widths_in xs k)

abbrev pub summed : List ℕ → ℕ
summed [] = 0
summed (x ∷ xs) = x + summed xs

-- the digits of a line of this kind: two for the kind, each byte of its fields and the check
unfoldable pub digits_in : List Kind → ℕ → ℕ
digits_in ks k = 2 * (summed (widths_in ks k) + 2)

-- the place of a field's first digit, by its place among the fields: after the kind's two digits and those of the fields before
unfoldable pub field_place_in : List Kind → ℕ → ℕ → ℕ
field_place_in ks k i = 2 * (1 + summed (take i (widths_in ks k)))

-- the same of a journal's lines
abbrev pub known : ℕ → Bool
known k = known_in journal_kinds k

abbrev pub widths : ℕ → List ℕ
widths k = widths_in journal_kinds k

abbrev pub digits_of : ℕ → ℕ
digits_of k = digits_in journal_kinds k

abbrev pub field_place : ℕ → ℕ → ℕ
field_place k i = field_place_in journal_kinds k i

-- "Numbers are high byte first."
unfoldable pub high_first : ℕ → ℕ → List ℕ
high_first zero v = []
high_first (suc k) v = high_first k (v / 256) ++ (v % 256 ∷ [])

unfoldable pub number : List ℕ → ℕ
number [] = 0
number (b ∷ bs) = b * 256 ^ length bs + number bs

unfoldable pub packed : List ℕ → List ℕ → List ℕ
packed [] vs = []
packed (w ∷ ws) [] = []
packed (w ∷ ws) (v ∷ vs) = high_first w v ++ packed ws vs

unfoldable pub unpacked : List ℕ → List ℕ → List ℕ
unpacked [] bs = []
unpacked (w ∷ ws) bs = number (take w bs) ∷ unpacked ws (drop w bs)

-- A step's kind and fields, and the step of a kind and its fields
abbrev pub kind_of : Action → ℕ
kind_of (Write p t b v) = 1
kind_of (Session a b ca cb o) = 2
kind_of (Purge p) = 3
kind_of (Deliver p) = 5

abbrev pub fields_of : Action → List ℕ
fields_of (Write p t b v) = p ∷ t ∷ b ∷ v ∷ []
fields_of (Session a b ca cb o) = a ∷ b ∷ ca ∷ cb ∷ o ∷ []
fields_of (Purge p) = p ∷ []
fields_of (Deliver p) = p ∷ []

unfoldable pub action_of : ℕ → List ℕ → Action
action_of kind f =
    cond (eqb kind 1) (Write (get_or f 0 0) (get_or f 1 0) (get_or f 2 0) (get_or f 3 0))
    (cond (eqb kind 2) (Session (get_or f 0 0) (get_or f 1 0) (get_or f 2 0) (get_or f 3 0) (get_or f 4 0))
    (cond (eqb kind 5) (Deliver (get_or f 0 0)) (Purge (get_or f 0 0))))

-- "A frame is one line of uppercase hexadecimal, two digits a byte, ended by LF (byte 0A)." Its bytes, the check last
unfoldable pub sealed : List ℕ → List ℕ
sealed bs = bs ++ (check bs ∷ [])

unfoldable pub frame_in : List Kind → ℕ → List ℕ → List ℕ
frame_in ks k fields = spelled (sealed (k ∷ packed (widths_in ks k) fields)) ++ (10 ∷ [])

abbrev pub frame_of : ℕ → List ℕ → List ℕ
frame_of k fields = frame_in journal_kinds k fields

unfoldable pub frame : Action → List ℕ
frame x = frame_of (kind_of x) (fields_of x)

unfoldable pub start_frame : ℕ → List ℕ
start_frame n = frame_of 0 (n ∷ [])

-- "[The fields] are as wide as in the frame."
abbrev pub fit : List ℕ → List ℕ → Bool
fit [] vs = true
fit (w ∷ ws) [] = true
fit (w ∷ ws) (v ∷ vs) = ltb v (256 ^ w) && fit ws vs

unfoldable pub wide : Action → Bool
wide x = fit (widths (kind_of x)) (fields_of x)

-- The writer "refuses with 2 as above, then with 17 if the lent bytes are too few; it then writes nothing."
unfoldable pub writer_tests : List ℕ → Action → List Test
writer_tests out x = test 2 (outcome_above x) ∷ test 17 (ltb (length out) (length (frame x))) ∷ []

unfoldable pub writer_refusal : List ℕ → Action → ℕ
writer_refusal out x = first (writer_tests out x)

-- A start is refused with 15 for its n, as by the reader, then with 17.
unfoldable pub starter_tests : List ℕ → ℕ → List Test
starter_tests out n = test 15 (not (count_right n)) ∷ test 17 (ltb (length out) (length (start_frame n))) ∷ []

unfoldable pub starter_refusal : List ℕ → ℕ → ℕ
starter_refusal out n = first (starter_tests out n)

-- "Otherwise it writes the frame from place 0, reports its length (0 if refused) and changes nothing else."
abbrev pub Framed : Type 0
Framed = Result ℕ Refusal

unfoldable pub frame_reply : List ℕ → Action → Framed
frame_reply out x = answered (writer_refusal out x) (length (frame x))

unfoldable pub frame_after : List ℕ → Action → List ℕ
frame_after out x = unless (writer_refusal out x) (place 0 (frame x) out) out

unfoldable pub start_reply : List ℕ → ℕ → Framed
start_reply out n = answered (starter_refusal out n) (length (start_frame n))

unfoldable pub start_after : List ℕ → ℕ → List ℕ
start_after out n = unless (starter_refusal out n) (place 0 (start_frame n) out) out

-- a writer's answer and the lent bytes at its exit, for a step and for a start
abbrev pub Wrote : List ℕ → Action → Framed → List ℕ → Type 0
Wrote out x r out' = (r ≡ frame_reply out x) × (out' ≡ frame_after out x)

abbrev pub Began : List ℕ → ℕ → Framed → List ℕ → Type 0
Began out n r out' = (r ≡ start_reply out n) × (out' ≡ start_after out n)

abbrev pub framed_values : Framed → List ℕ
framed_values (Ok k) = 0 ∷ k ∷ []
framed_values (Err r) = number_of r ∷ 0 ∷ []

-- A line's kind and fields, whatever its bytes
unfoldable pub line_kind : List ℕ → ℕ
line_kind bs = get_or bs 0 0

unfoldable pub fields_in : List Kind → List ℕ → List ℕ
fields_in ks bs = unpacked (widths_in ks (line_kind bs)) (drop 1 bs)

abbrev pub line_fields : List ℕ → List ℕ
line_fields bs = fields_in journal_kinds bs

-- Line refusals, the first that applies, each with "the place in the line, from 0, of the first character at fault (the line's length where
-- something is lacking; for 11, 13 (the check byte) and 20 the byte's first digit; for 15 place 0)". What any reader of lines asks, whatever its
-- kinds: 12, "18 no digits or odd, 11 [the kind is unknown], 19 wrong length"; of a line too long the first character too many is at fault
abbrev pub shape_tests : List Kind → List ℕ → List Test → List Test
shape_tests ks l more =
    test_at 12 (stray_at l) (not (all_digits l))
    ∷ test_at 18 (length l) (eqb (length l % 2) 1 || eqb (length l) 0)
    ∷ test_at 11 0 (not (known_in ks (line_kind (bytes_of l))))
    ∷ test_at 19 (min (length l) (digits_in ks (line_kind (bytes_of l)))) (not (eqb (length l) (digits_in ks (line_kind (bytes_of l)))))
    ∷ more

-- and of a journal's line: "20 outcome above 3, then 13 and 15", of 15 only "a start's n is not 2 to 16"
abbrev pub outcome_high : List ℕ → Bool
outcome_high bs = eqb (line_kind bs) 2 && ltb 3 (get_or (line_fields bs) 4 0)

abbrev pub start_wrong : List ℕ → Bool
start_wrong bs = eqb (line_kind bs) 0 && not (count_right (get_or (line_fields bs) 0 0))

unfoldable pub field_tests : List ℕ → List Test
field_tests l =
    test_at 20 (field_place 2 4) (outcome_high (bytes_of l))
    ∷ test_at 13 (length l - 2) (not (eqb (total (bytes_of l)) 0))
    ∷ test_at 15 0 (start_wrong (bytes_of l))
    ∷ []

unfoldable pub line_tests : List ℕ → List Test
line_tests l = shape_tests journal_kinds l (field_tests l)

-- what a list of tests gives, with its place
abbrev pub fault_of : List Test → Option Fault
fault_of xs = fault_at (first xs) (first_place xs)

-- a line's refusal and its place, 0 and 0 for none
unfoldable pub line_refusal : List ℕ → ℕ
line_refusal l = first (line_tests l)

unfoldable pub line_place : List ℕ → ℕ
line_place l = first_place (line_tests l)

unfoldable pub line_fault : List ℕ → Option Fault
line_fault l = fault_at (line_refusal l) (line_place l)

-- What a line of these bytes says, where it is not refused; the step takes the line number that the reader is told
abbrev pub meant : ℕ → List ℕ → Bool → Said
meant line bs true = Begin (get_or (line_fields bs) 0 0)
meant line bs false = Act (record { line = line; action = action_of (line_kind bs) (line_fields bs) })

-- What a line says, or what is wrong with it
abbrev pub Line : Type 0
Line = Result Said Fault

unfoldable pub read_line : ℕ → List ℕ → Line
read_line line l = answered_at (line_refusal l) (line_place l) (meant line (bytes_of l) (eqb (line_kind (bytes_of l)) 0))

-- Document 01's values of each answer: the refusal and its place (0 and 0 for none), then the kind and the fields
abbrev pub line_values : Line → List ℕ
line_values (Ok (Begin n)) = 0 ∷ 0 ∷ 0 ∷ n ∷ []
line_values (Ok (Act s)) = 0 ∷ 0 ∷ kind_of s.action ∷ fields_of s.action
line_values (Err f) = number_of f.refusal ∷ f.place ∷ []

-- A line read in one call, its kind and fields into lent words (T-01): the line's refusals in their order, then 17 where fewer than six words are
-- lent, with place 0
unfoldable pub words_tests : List ℕ → List ℕ → List Test
words_tests l words = line_tests l ++ (test 17 (ltb (length words) 6) ∷ [])

unfoldable pub words_fault : List ℕ → List ℕ → Option Fault
words_fault l words = fault_of (words_tests l words)

-- as many values as are asked for: the list's, and 0 after them
unfoldable pub padded : ℕ → List ℕ → List ℕ
padded zero xs = []
padded (suc k) [] = 0 ∷ padded k []
padded (suc k) (x ∷ xs) = x ∷ padded k xs

-- the six values of a line: its kind and fields, 0 where the kind has no such field
unfoldable pub six_values : List ℕ → List ℕ
six_values l = padded 6 (drop 2 (line_values (read_line 0 l)))

-- the words at exit: those six over the first six, and with a refusal what was there
unfoldable pub words_after : List ℕ → List ℕ → List ℕ
words_after l words = unless (first (words_tests l words)) (place 0 (six_values l) words) words

abbrev pub ReadWords : List ℕ → List ℕ → Option Fault → List ℕ → Type 0
ReadWords l words r words' = (r ≡ words_fault l words) × (words' ≡ words_after l words)
