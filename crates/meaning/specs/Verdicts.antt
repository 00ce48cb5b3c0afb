-- The verdict count. Document 01, "Verdict count"; document 02, T-05.
use Rattle.std.specs.Prelude.{Bool, true, false, not, ◌&&◌, ◌||◌, cond, List, [], ◌∷◌, map, ℕ, ◌-◌, ◌*◌, ◌/◌, ◌%◌, length, leb, ltb, eqb, Result, Ok, Err}
use Rattle.meaning.specs.declared.Record.{Record}
use Rattle.meaning.specs.declared.Class.{Class}
use Rattle.meaning.specs.declared.Class.TheVariants.{NotRead, PageCache, PlatterGood, PlatterBad, Repaired, Reserved}
use Rattle.meaning.specs.declared.Refusal.{Refusal}
use Rattle.meaning.specs.declared.Tally.{Tally}
use Rattle.meaning.specs.Rows.{every, keep, record_at, records}
use Rattle.meaning.specs.Refusals.{number_of, answered, test, first}
use Rattle.meaning.specs.Table.{log_most, absent, node, sound}

-- "00–0F not read; 10–1F answered from page cache; 20–2F read from platter, good; 30–3F read from platter, bad;
-- 40–4F repaired and read back; 50–FF reserved"
unfoldable pub class_of : ℕ → Class
class_of v =
    cond (leb v 0x0f) NotRead
    (cond (leb v 0x1f) PageCache
    (cond (leb v 0x2f) PlatterGood
    (cond (leb v 0x3f) PlatterBad
    (cond (leb v 0x4f) Repaired Reserved))))

-- "Scrubbed" is 10–4F, "touched" 20–4F
abbrev pub is_scrubbed : Class → Bool
is_scrubbed NotRead = false
is_scrubbed PageCache = true
is_scrubbed PlatterGood = true
is_scrubbed PlatterBad = true
is_scrubbed Repaired = true
is_scrubbed Reserved = false

abbrev pub is_touched : Class → Bool
is_touched NotRead = false
is_touched PageCache = false
is_touched PlatterGood = true
is_touched PlatterBad = true
is_touched Repaired = true
is_touched Reserved = false

-- T-05: "different pairs of origin and block". A record's pair, and whether a pair stands in a list
pub record Pair : Type 0 where
  pub origin : ℕ
  pub block : ℕ

abbrev pub pair_of : Record → Pair
pair_of r = record { origin = r.origin; block = r.block }

abbrev pub same_pair : Pair → Pair → Bool
same_pair x y = eqb x.origin y.origin && eqb x.block y.block

unfoldable pub among : Pair → List Pair → Bool
among x [] = false
among x (y ∷ ys) = same_pair x y || among x ys

-- pairs without repetition
unfoldable pub different : List Pair → List Pair
different [] = []
different (x ∷ xs) = cond (among x xs) (different xs) (x ∷ different xs)

-- the different pairs "with at least one record of that class"
unfoldable pub pairs_of : (Class → Bool) → List Record → List Pair
pairs_of f rs = different (map pair_of (keep (λ r. f (class_of r.verdict)) rs))

-- how many there are
unfoldable pub scrubbed : List Record → ℕ
scrubbed rs = length (pairs_of is_scrubbed rs)

unfoldable pub touched : List Record → ℕ
touched rs = length (pairs_of is_touched rs)

-- "The gap is the difference."
unfoldable pub gap : List Record → ℕ
gap rs = scrubbed rs - touched rs

unfoldable pub counted : List Record → Tally
counted rs = record { scrubbed = scrubbed rs; touched = touched rs; gap = gap rs }

-- "Over a lent list of 0 to 64 records of four words (else, or with a verdict above 255, refusal 1 and zero counts)"
unfoldable pub count_refusal : List ℕ → ℕ
count_refusal w =
    first
    (test 1 (not (eqb (length w % 4) 0)) ∷
    test 1 (ltb (4 * log_most) (length w)) ∷
    test 1 (not (every (length w / 4) (λ i. leb (record_at w i).verdict 255))) ∷
    [])

-- What a count answers
abbrev pub Count : Type 0
Count = Result Tally Refusal

unfoldable pub verdict_count : List ℕ → Count
verdict_count w = answered (count_refusal w) (counted (records (length w / 4) w))

-- The count over a node's log: 1 for a table that is not sound, then 3 for a node out of range
unfoldable pub node_count : List ℕ → ℕ → Count
node_count t p = answered (first (test 1 (not (sound t)) ∷ test 3 (absent t p) ∷ [])) (counted (node t p).log)

abbrev pub count_values : Count → List ℕ
count_values (Ok x) = 0 ∷ x.scrubbed ∷ x.touched ∷ x.gap ∷ []
count_values (Err r) = number_of r ∷ 0 ∷ 0 ∷ 0 ∷ []

-- Document 01's values of each class: its first and its last verdict byte
abbrev pub class_range : Class → List ℕ
class_range NotRead = 0x00 ∷ 0x0f ∷ []
class_range PageCache = 0x10 ∷ 0x1f ∷ []
class_range PlatterGood = 0x20 ∷ 0x2f ∷ []
class_range PlatterBad = 0x30 ∷ 0x3f ∷ []
class_range Repaired = 0x40 ∷ 0x4f ∷ []
class_range Reserved = 0x50 ∷ 0xff ∷ []
