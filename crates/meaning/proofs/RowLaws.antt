-- Laws of records and their words, of `keep`, and of tests over a whole list.
use mathlib.Core.Path.{◌≡◌, refl, sym, ap, ◌∙◌}
use mathlib.Core.Bool.{Bool, true, false, not, ◌&&◌, false≢true, and-true}
use mathlib.Core.List.{List, [], ◌∷◌, ◌++◌}
use Prim.Native.Nat.{ℕ, zero, suc, ◌+◌, ◌-◌, ◌*◌, ◌≤◌, ◌<◌, min, max}
use native.Mathlib.Nat.{add-zero}
use native.Mathlib.Numerals.{add-one}
use native.Mathlib.Omega.{arith}
use native.Mathlib.Decide.{dec_le, dec_lt}
use borrow.Author.Tests.{le-ltb, lt-ltb, le-leb, lt-leb}
use lib.ListN.{length, get_or, take, length-append, get_or-append}
use lib.Seq.{ext_get_or, get_or-take, get_or_at, length-take-le}
use lib.Dec.{leb, ltb}
use Rattle.meaning.specs.declared.Record.{Record}
use Rattle.meaning.specs.Rows.{every, all, keep, keep_if, least, least_at, raise, covers, newer, above, record_at, records, words}

abbrev pub no_record : Record
no_record = record { origin = 0; timestamp = 0; block = 0; verdict = 0 }

pub and_assoc' : (a b c : Bool) → (a && (b && c)) ≡ ((a && b) && c)
and_assoc' true b c = refl
and_assoc' false b c = refl

pub and_left : (a b : Bool) → (a && b) ≡ true → a ≡ true
and_left true b h = refl
and_left false b h = h

pub and_right : (a b : Bool) → (a && b) ≡ true → b ≡ true
and_right true b h = h
and_right false b h = absurd (false≢true h)

pub and_both : (a b : Bool) → a ≡ true → b ≡ true → (a && b) ≡ true
and_both a b p q = rw (p, q)

module _ {A : Type 0} where
  pub all_append : (f : A → Bool) (xs ys : List A) → all f (xs ++ ys) ≡ (all f xs && all f ys)
  unfolding all
  all_append f [] ys = refl
  all_append f (x ∷ xs) ys = rw (all_append f xs ys) (and_assoc' (f x) (all f xs) (all f ys))

  pub all_keep : (f g : A → Bool) (xs : List A) → all f xs ≡ true → all f (keep g xs) ≡ true
  unfolding all keep
  all_keep f g [] h = refl
  all_keep f g (x ∷ xs) h = go (g x) (and_left (f x) (all f xs) h) (all_keep f g xs (and_right (f x) (all f xs) h))
    where
      go : (b : Bool) → f x ≡ true → all f (keep g xs) ≡ true → all f (keep_if b x (keep g xs)) ≡ true
      go true p q = and_both (f x) (all f (keep g xs)) p q
      go false p q = q

  -- what passes at each element passes at each of them, and where it does not there is one at which it fails
  pub all_at : (f : A → Bool) (xs : List A) (d : A) → all f xs ≡ true → (i : ℕ) → i < length xs → f (get_or xs i d) ≡ true
  unfolding all
  all_at f [] d h i b = absurd (omega arith)
  all_at f (x ∷ xs) d h zero b = and_left (f x) (all f xs) h
  all_at f (x ∷ xs) d h (suc i) b = all_at f xs d (and_right (f x) (all f xs) h) i (omega arith)

  pub all_not : (f : A → Bool) (xs : List A) (d : A) → all f xs ≡ false → (i : ℕ) × ((i < length xs) × (f (get_or xs i d) ≡ false))
  unfolding all
  all_not f [] d h = absurd (false≢true (sym h))
  all_not f (x ∷ xs) d h = go (f x) refl (all_not f xs d)
    where
      go : (b : Bool) → f x ≡ b → (all f xs ≡ false → (i : ℕ) × ((i < length xs) × (f (get_or xs i d) ≡ false)))
          → (i : ℕ) × ((i < length (x ∷ xs)) × (f (get_or (x ∷ xs) i d) ≡ false))
      go true e ih =
          let rest : all f xs ≡ false = cc in
          let r = ih rest in (
            suc r.0,
            (omega (arith, r.1.0), r.1.1),
          )
      go false e ih = (0, (omega arith, e))

  pub length-keep : (f : A → Bool) (xs : List A) → length (keep f xs) ≤ length xs
  unfolding keep
  length-keep f [] = omega arith
  length-keep f (x ∷ xs) = go (f x) (length-keep f xs)
    where
      go : (b : Bool) → length (keep f xs) ≤ length xs → length (keep_if b x (keep f xs)) ≤ suc (length xs)
      go true h = omega arith
      go false h = omega arith

  pub keep_append : (f : A → Bool) (xs ys : List A) → keep f (xs ++ ys) ≡ keep f xs ++ keep f ys
  unfolding keep
  keep_append f [] ys = refl
  keep_append f (x ∷ xs) ys = rw (keep_append f xs ys) (go (f x))
    where
      go : (b : Bool) → keep_if b x (keep f xs ++ keep f ys) ≡ keep_if b x (keep f xs) ++ keep f ys
      go true = refl
      go false = refl

  pub keep_one : (f : A → Bool) (x : A) → keep f (x ∷ []) ≡ keep_if (f x) x []
  unfolding keep
  keep_one f x = refl

-- the words of records
pub length-words : (rs : List Record) → length (words rs) ≡ 4 * length rs
unfolding words
length-words [] = refl
length-words (r ∷ rs) =
    let h = length-words rs in
    omega arith

pub words_append : (xs ys : List Record) → words (xs ++ ys) ≡ words xs ++ words ys
unfolding words
words_append [] ys = refl
words_append (r ∷ rs) ys = rw (words_append rs ys)

pub length-records : (k : ℕ) (w : List ℕ) → length (records k w) ≡ k
unfolding records
length-records zero w = refl
length-records (suc k) w =
    let h = length-records k w in
    let a = length-append (records k w) (record_at w k ∷ []) in
    omega arith

pub get_or-records : (k : ℕ) (w : List ℕ) (i : ℕ) → i < k → get_or (records k w) i no_record ≡ record_at w i
unfolding records
get_or-records zero w i h = absurd (omega arith)
get_or-records (suc k) w i h = go (get_or-records k w i) (dec_lt i k)
  where
    go : (i < k → get_or (records k w) i no_record ≡ record_at w i) → Dec (i < k) → get_or (records k w ++ (record_at w k ∷ [])) i no_record ≡ record_at w i
    go ih (yes b) =
        let l = length-records k w in
        get_or-append (records k w) (record_at w k ∷ []) no_record i (omega arith) ∙ ih b
    go ih (no b) =
        let e : k ≡ i = omega arith in
        let l = length-records k w in
        get_or_at (records k w) (record_at w k) [] no_record i (omega arith) ∙ ap (record_at w) e

-- a record is told by its four words
pub record_at_agree : (w v : List ℕ) (i j : ℕ) → ((m : ℕ) → m < 4 → get_or w (4 * i + m) 0 ≡ get_or v (4 * j + m) 0) → record_at w i ≡ record_at v j
unfolding record_at
record_at_agree w v i j same =
    let e₀ : get_or w (4 * i) 0 ≡ get_or v (4 * j) 0 = simp add-zero at (same 0 (omega arith)) in
    let e₁ = same 1 (omega arith) in
    let e₂ = same 2 (omega arith) in
    let e₃ = same 3 (omega arith) in
    λ d. record { origin = e₀ d; timestamp = e₁ d; block = e₂ d; verdict = e₃ d }

pub records_agree : (k : ℕ) (w v : List ℕ) → ((m : ℕ) → m < 4 * k → get_or w m 0 ≡ get_or v m 0) → records k w ≡ records k v
unfolding records
records_agree zero w v same = refl
records_agree (suc k) w v same =
    let e = records_agree k w v (λ m h. same m (omega arith)) in
    let e' = record_at_agree w v k k (λ m h. same (4 * k + m) (omega arith)) in
    cc

-- what was written as words is read as records
record_at-words : (rs : List Record) (w : List ℕ) (i : ℕ) → i < length rs → record_at (words rs ++ w) i ≡ get_or rs i no_record
unfolding words record_at
record_at-words [] w i h = absurd (omega arith)
record_at-words (r ∷ rs) w zero h = refl
record_at-words (r ∷ rs) w (suc i) h =
    record_at_agree (words (r ∷ rs) ++ w) (words rs ++ w) (suc i) i
    (λ m b.
    ap (λ (k : ℕ). get_or (words (r ∷ rs) ++ w) k 0) (next i m) ∙ refl) ∙
    record_at-words rs w i (omega arith)
  where
    next : (i m : ℕ) → 4 * suc i + m ≡ suc (suc (suc (suc (4 * i + m))))
    next i m = omega arith

pub records-words : (rs : List Record) (w : List ℕ) → records (length rs) (words rs ++ w) ≡ rs
records-words rs w =
    let l = length-records (length rs) (words rs ++ w) in
    ext_get_or no_record (records (length rs) (words rs ++ w)) rs l
    (λ i h. get_or-records (length rs) (words rs ++ w) i (omega arith) ∙ record_at-words rs w i (omega arith))

-- a test at each row is a test of each record
all_one : (f : Record → Bool) (r : Record) → all f (r ∷ []) ≡ f r
unfolding all
all_one f r = and-true (f r)

pub every-records : (k : ℕ) (f : Record → Bool) (w : List ℕ) → every k (λ i. f (record_at w i)) ≡ all f (records k w)
unfolding every records all
every-records zero f w = refl
every-records (suc k) f w =
    ap (λ (b : Bool). b && f (record_at w k)) (every-records k f w) ∙
    sym (all_append f (records k w) (record_at w k ∷ []) ∙ ap (λ (b : Bool). all f (records k w) && b) (all_one f (record_at w k)))

-- what passes at each number below n passes at each of them, and the other way round
pub every_at : (n : ℕ) (f : ℕ → Bool) → every n f ≡ true → (i : ℕ) → i < n → f i ≡ true
unfolding every
every_at zero f h i b = absurd (omega arith)
every_at (suc n) f h i b = go (every_at n f (and_left (every n f) (f n) h) i) (dec_lt i n)
  where
    go : (i < n → f i ≡ true) → Dec (i < n) → f i ≡ true
    go ih (yes c) = ih c
    go ih (no c) =
        let e : n ≡ i = omega arith in
        rw e at (and_right (every n f) (f n) h)

pub every-all : (n : ℕ) (f : ℕ → Bool) → ((i : ℕ) → i < n → f i ≡ true) → every n f ≡ true
unfolding every
every-all zero f h = refl
every-all (suc n) f h = and_both (every n f) (f n) (every-all n f (λ i b. h i (omega arith))) (h n (omega arith))

-- the smallest entry is at most each
pub least_at_lem : (xs : List ℕ) (i : ℕ) → i < length xs → least xs ≤ get_or xs i 0
unfolding least
least_at_lem [] i h = absurd (omega arith)
least_at_lem (x ∷ []) zero h = omega arith
least_at_lem (x ∷ []) (suc i) h = absurd (omega arith)
least_at_lem (x ∷ (y ∷ ys)) zero h = omega arith
least_at_lem (x ∷ (y ∷ ys)) (suc i) h =
    let below = least_at_lem (y ∷ ys) i (omega arith) in
    omega arith

least_two : (x y : ℕ) (ys : List ℕ) → least (x ∷ (y ∷ ys)) ≡ min x (least (y ∷ ys))
unfolding least
least_two x y ys = refl

least_one : (x : ℕ) → least (x ∷ []) ≡ x
unfolding least
least_one x = refl

least_at-none : least_at [] ≡ 0
unfolding least_at
least_at-none = refl

least_at_one : (x : ℕ) → least_at (x ∷ []) ≡ 0
unfolding least_at
least_at_one x = refl

least_at_here : (x y : ℕ) (ys : List ℕ) → x ≤ least (y ∷ ys) → least_at (x ∷ (y ∷ ys)) ≡ 0
unfolding least_at
least_at_here x y ys h = rw (le-leb x (least (y ∷ ys)) h)

least_at_later : (x y : ℕ) (ys : List ℕ) → least (y ∷ ys) < x → least_at (x ∷ (y ∷ ys)) ≡ suc (least_at (y ∷ ys))
unfolding least_at
least_at_later x y ys h = rw (lt-leb x (least (y ∷ ys)) h)

-- Where the smallest entry stands: within the row, its entry is the smallest, and every entry before it is greater
pub least_at_below : (xs : List ℕ) → 0 < length xs → least_at xs < length xs
least_at_below [] h = absurd (omega arith)
least_at_below (x ∷ []) h = let e = least_at_one x in omega arith
least_at_below (x ∷ (y ∷ ys)) h = go (least_at_below (y ∷ ys) (omega arith)) (dec_le x (least (y ∷ ys)))
  where
    go : least_at (y ∷ ys) < length (y ∷ ys) → Dec (x ≤ least (y ∷ ys)) → least_at (x ∷ (y ∷ ys)) < length (x ∷ (y ∷ ys))
    go rest (yes g) = let e = least_at_here x y ys g in omega arith
    go rest (no g) = let e = least_at_later x y ys (omega arith) in omega arith

pub least_at_entry : (xs : List ℕ) → 0 < length xs → get_or xs (least_at xs) 0 ≡ least xs
least_at_entry [] h = absurd (omega arith)
least_at_entry (x ∷ []) h = ap (λ (i : ℕ). get_or (x ∷ []) i 0) (least_at_one x) ∙ sym (least_one x)
least_at_entry (x ∷ (y ∷ ys)) h = go (least_at_entry (y ∷ ys) (omega arith)) (dec_le x (least (y ∷ ys)))
  where
    go :
        get_or (y ∷ ys) (least_at (y ∷ ys)) 0 ≡ least (y ∷ ys) → Dec (x ≤ least (y ∷ ys)) →
        get_or (x ∷ (y ∷ ys)) (least_at (x ∷ (y ∷ ys))) 0 ≡ least (x ∷ (y ∷ ys))
    go rest (yes g) =
        let low : x ≡ min x (least (y ∷ ys)) = omega arith in
        ap (λ (i : ℕ). get_or (x ∷ (y ∷ ys)) i 0) (least_at_here x y ys g) ∙ low ∙ sym (least_two x y ys)
    go rest (no g) =
        let low : least (y ∷ ys) ≡ min x (least (y ∷ ys)) = omega arith in
        ap (λ (i : ℕ). get_or (x ∷ (y ∷ ys)) i 0) (least_at_later x y ys (omega arith)) ∙ rest ∙ low ∙
        sym (least_two x y ys)

pub least_at-first : (xs : List ℕ) (i : ℕ) → i < least_at xs → least xs < get_or xs i 0
least_at-first [] i h = let e = least_at-none in absurd (omega arith)
least_at-first (x ∷ []) i h = let e = least_at_one x in absurd (omega arith)
least_at-first (x ∷ (y ∷ ys)) i h = go (λ j g. least_at-first (y ∷ ys) j g) (dec_le x (least (y ∷ ys))) i h
  where
    go :
        ((j : ℕ) → j < least_at (y ∷ ys) → least (y ∷ ys) < get_or (y ∷ ys) j 0) → Dec (x ≤ least (y ∷ ys)) → (j : ℕ) → j < least_at (x ∷ (y ∷ ys)) →
        least (x ∷ (y ∷ ys)) < get_or (x ∷ (y ∷ ys)) j 0
    go rest (yes g) j k = let e = least_at_here x y ys g in absurd (omega arith)
    go rest (no g) zero k = let s = least_two x y ys in omega arith
    go rest (no g) (suc j) k =
        let e = least_at_later x y ys (omega arith) in
        let greater = rest j (omega arith) in
        let s = least_two x y ys in
        omega arith

-- and no other place has these three
pub least_at_is :
    (xs : List ℕ) (i : ℕ) → i < length xs → ((j : ℕ) → j < length xs → get_or xs i 0 ≤ get_or xs j 0) → ((j : ℕ) → j < i → get_or xs i 0 < get_or xs j 0) →
    (get_or xs i 0 ≡ least xs) × (i ≡ least_at xs)
least_at_is xs i h low first =
    let here = least_at_below xs (omega arith) in
    let entry = least_at_entry xs (omega arith) in
    let most = least_at_lem xs i h in
    let few = low (least_at xs) here in
    let same : get_or xs i 0 ≡ least xs = omega arith in
    (same, go same (dec_lt i (least_at xs)) (dec_lt (least_at xs) i))
  where
    go : get_or xs i 0 ≡ least xs → Dec (i < least_at xs) → Dec (least_at xs < i) → i ≡ least_at xs
    go same (yes a) b = let greater = least_at-first xs i a in absurd (omega arith)
    go same (no a) (yes b) =
        let entry = least_at_entry xs (omega arith) in
        let greater = first (least_at xs) b in
        absurd (omega arith)
    go same (no a) (no b) = omega arith

-- the raised row, one entry more
pub raise-take :
    (xs ys : List ℕ) (i : ℕ) → i < length xs → i < length ys →
    raise (take (suc i) xs) (take (suc i) ys) ≡ raise (take i xs) (take i ys) ++ (max (get_or xs i 0) (get_or ys i 0) ∷ [])
unfolding raise
raise-take [] ys i h g = absurd (omega arith)
raise-take (x ∷ xs) [] i h g = absurd (omega arith)
raise-take (x ∷ xs) (y ∷ ys) zero h g = refl
raise-take (x ∷ xs) (y ∷ ys) (suc i) h g = ap (λ (r : List ℕ). max x y ∷ r) (raise-take xs ys i (omega arith) (omega arith))

pub length-raise : (xs ys : List ℕ) (n : ℕ) → length xs ≡ n → length ys ≡ n → length (raise xs ys) ≡ n
unfolding raise
length-raise [] ys n p q = p
length-raise (x ∷ xs) [] n p q = absurd (omega arith)
length-raise (x ∷ xs) (y ∷ ys) zero p q = absurd (omega arith)
length-raise (x ∷ xs) (y ∷ ys) (suc n) p q = ap suc (length-raise xs ys n (omega arith) (omega arith))

-- what passes at each record passes at each row
pub all_row : (f : Record → Bool) (k : ℕ) (w : List ℕ) → all f (records k w) ≡ true → (i : ℕ) → i < k → f (record_at w i) ≡ true
all_row f k w h i b = every_at k (λ j. f (record_at w j)) (every-records k f w ∙ h) i b

-- the kept records, one row more
pub keep_row : (f : Record → Bool) (k : ℕ) (w : List ℕ) → keep f (records (k + 1) w) ≡ keep f (records k w) ++ keep f (record_at w k ∷ [])
unfolding records
keep_row f k w = rw (add-one k) (keep_append f (records k w) (record_at w k ∷ []))

pub newer-row : (s : List ℕ) (k : ℕ) (w : List ℕ) → newer s (records (k + 1) w) ≡ newer s (records k w) ++ newer s (record_at w k ∷ [])
unfolding newer
newer-row s k w = keep_row (λ (r : Record). not (covers s r)) k w

pub above-row : (limit k : ℕ) (w : List ℕ) → above limit (records (k + 1) w) ≡ above limit (records k w) ++ above limit (record_at w k ∷ [])
unfolding above
above-row limit k w = keep_row (λ (r : Record). not (leb r.timestamp limit)) k w

pub length-newer : (s : List ℕ) (rs : List Record) → length (newer s rs) ≤ length rs
unfolding newer
length-newer s rs = length-keep (λ (r : Record). not (covers s r)) rs

pub length_above : (limit : ℕ) (rs : List Record) → length (above limit rs) ≤ length rs
unfolding above
length_above limit rs = length-keep (λ (r : Record). not (leb r.timestamp limit)) rs

-- one order is the other's contrary
pub ltb_not_leb : (a b : ℕ) → ltb a b ≡ not (leb b a)
ltb_not_leb a b = go (dec_le b a)
  where
    go : Dec (b ≤ a) → ltb a b ≡ not (leb b a)
    go (yes h) = le-ltb a b h ∙ sym (ap not (le-leb b a h))
    go (no h) = lt-ltb a b (omega arith) ∙ sym (ap not (lt-leb b a (omega arith)))

-- more rows, no fewer kept
newer_grows_by : (s : List ℕ) (w : List ℕ) (i d : ℕ) → length (newer s (records i w)) ≤ length (newer s (records (i + d) w))
newer_grows_by s w i zero = rw (add-zero i) (omega arith)
newer_grows_by s w i (suc d) =
    let h = newer_grows_by s w i d in
    let e : i + suc d ≡ (i + d) + 1 = omega arith in
    let l = ap length (newer-row s (i + d) w) ∙ length-append (newer s (records (i + d) w)) (newer s (record_at w (i + d) ∷ [])) in
    rw e (omega arith)

pub newer_grows : (s w : List ℕ) (i j : ℕ) → i ≤ j → length (newer s (records i w)) ≤ length (newer s (records j w))
newer_grows s w i j h =
    let e : i + (j - i) ≡ j = omega arith in
    rw e at (newer_grows_by s w i (j - i))

pub no_records : (w : List ℕ) → records 0 w ≡ []
unfolding records
no_records w = refl

pub newer-none : (s w : List ℕ) → newer s (records 0 w) ≡ []
unfolding newer keep records
newer-none s w = refl

pub above-none : (limit : ℕ) (w : List ℕ) → above limit (records 0 w) ≡ []
unfolding above keep records
above-none limit w = refl

pub words-none : words [] ≡ []
unfolding words
words-none = refl

-- at most one record comes of one
pub newer_one_is : (s : List ℕ) (r : Record) (b : Bool) → not (covers s r) ≡ b → newer s (r ∷ []) ≡ keep_if b r []
unfolding newer keep
newer_one_is s r b e = rw e

pub above_one_is : (limit : ℕ) (r : Record) (b : Bool) → not (leb r.timestamp limit) ≡ b → above limit (r ∷ []) ≡ keep_if b r []
unfolding above keep
above_one_is limit r b e = rw e

-- the first rows of a log
pub records-take : (i k : ℕ) (w : List ℕ) → i ≤ k → take i (records k w) ≡ records i w
records-take i k w h =
    let a = length-records k w in
    let b = length-records i w in
    let l = length-take-le i (records k w) (omega arith) in
    ext_get_or no_record (take i (records k w)) (records i w) (omega arith)
    (λ j g.
    get_or-take i (records k w) j no_record (omega arith) ∙ get_or-records k w j (omega arith) ∙ sym (get_or-records i w j (omega arith)))
