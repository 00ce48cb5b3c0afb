-- What is said of a row of numbers or a list of records. Document 01, "The three actions"; document 02, T-02, T-04 and T-06.
use Rattle.std.specs.Prelude.{Bool, true, false, not, ◌&&◌, ◌||◌, cond, List, [], ◌∷◌, ◌++◌, ℕ, zero, suc, ◌+◌, ◌*◌, min, max, get_or, leb, ltb, eqb}
use Prim.Native.Char.{code}
use Prim.Native.String.{String, len, char_at}
use Rattle.meaning.specs.declared.Record.{Record}

-- A refusal changes nothing: what is new at 0, what was there at any other number
abbrev pub unless : {A : Type 0} → ℕ → A → A → A
unless zero new old = new
unless (suc k) new old = old

-- a text's characters, as bytes
abbrev pub chars_from : ℕ → ℕ → String → List ℕ
chars_from zero i s = []
chars_from (suc k) i s = code (char_at s i) ∷ chars_from k (suc i) s

abbrev pub ascii : String → List ℕ
ascii s = chars_from (len s) 0 s

-- the test f passes at each number below n
unfoldable pub every : ℕ → (ℕ → Bool) → Bool
every zero f = true
every (suc n) f = every n f && f n

-- the test f passes at each element of a list
unfoldable pub all : {A : Type 0} → (A → Bool) → List A → Bool
all f [] = true
all f (x ∷ xs) = f x && all f xs

abbrev pub keep_if : {A : Type 0} → Bool → A → List A → List A
keep_if true x xs = x ∷ xs
keep_if false x xs = xs

-- the elements at which f passes, in their order
unfoldable pub keep : {A : Type 0} → (A → Bool) → List A → List A
keep f [] = []
keep f (x ∷ xs) = keep_if (f x) x (keep f xs)

-- the smallest entry of a row
unfoldable pub least : List ℕ → ℕ
least [] = 0
least (x ∷ []) = x
least (x ∷ (y ∷ ys)) = min x (least (y ∷ ys))

-- where it stands: "the lowest among equals"
unfoldable pub least_at : List ℕ → ℕ
least_at [] = 0
least_at (x ∷ []) = 0
least_at (x ∷ (y ∷ ys)) = cond (leb x (least (y ∷ ys))) 0 (suc (least_at (y ∷ ys)))

-- "entry by entry, the greater of both"
unfoldable pub raise : List ℕ → List ℕ → List ℕ
raise [] ys = []
raise (x ∷ xs) [] = []
raise (x ∷ xs) (y ∷ ys) = max x y ∷ raise xs ys

-- T-06. The same of columns, one after the other
unfoldable pub raise_each : List (List ℕ) → List (List ℕ) → List (List ℕ)
raise_each [] ds = []
raise_each (c ∷ cs) [] = []
raise_each (c ∷ cs) (d ∷ ds) = raise c d ∷ raise_each cs ds

-- entry by entry, the smaller of both
unfoldable pub lower : List ℕ → List ℕ → List ℕ
lower [] ys = []
lower (x ∷ xs) [] = []
lower (x ∷ xs) (y ∷ ys) = min x y ∷ lower xs ys

-- and the smallest of all columns: it covers the records that every column covers (PurgeLaws), so a purge may ask each record once
unfoldable pub lowest : List (List ℕ) → List ℕ
lowest [] = []
lowest (c ∷ []) = c
lowest (c ∷ (d ∷ ds)) = lower c (lowest (d ∷ ds))

-- "A summary covers a record when the record's timestamp is at most the entry for its origin."
unfoldable pub covers : List ℕ → Record → Bool
covers summary r = leb r.timestamp (get_or summary r.origin 0)

-- the records "whose timestamp is greater than [the] summary entry for their origin", in their order
unfoldable pub newer : List ℕ → List Record → List Record
newer summary = keep (λ r. not (covers summary r))

-- the records that a purge leaves: those not at most the limit
unfoldable pub above : ℕ → List Record → List Record
above limit = keep (λ r. not (leb r.timestamp limit))

-- T-04. The records "above the mark and not above the smallest summary entry", in their order
unfoldable pub due : ℕ → ℕ → List Record → List Record
due mark limit = keep (λ r. ltb mark r.timestamp && leb r.timestamp limit)

-- "by timestamp and then origin": the first is not after the second
unfoldable pub earlier : Record → Record → Bool
earlier r s = ltb r.timestamp s.timestamp || (eqb r.timestamp s.timestamp && leb r.origin s.origin)

-- a list in that order; those that neither part tells apart keep the order they had
unfoldable pub inserted : Record → List Record → List Record
inserted r [] = r ∷ []
inserted r (s ∷ ss) = cond (earlier r s) (r ∷ (s ∷ ss)) (s ∷ inserted r ss)

unfoldable pub in_order : List Record → List Record
in_order [] = []
in_order (r ∷ rs) = inserted r (in_order rs)

-- a log's words: "rows of 4: origin, timestamp, block, verdict"
unfoldable pub record_at : List ℕ → ℕ → Record
record_at w i = record { origin = get_or w (4 * i) 0; timestamp = get_or w (4 * i + 1) 0; block = get_or w (4 * i + 2) 0; verdict = get_or w (4 * i + 3) 0 }

unfoldable pub records : ℕ → List ℕ → List Record
records zero w = []
records (suc k) w = records k w ++ (record_at w k ∷ [])

unfoldable pub words : List Record → List ℕ
words [] = []
words (r ∷ rs) = r.origin ∷ r.timestamp ∷ r.block ∷ r.verdict ∷ words rs
