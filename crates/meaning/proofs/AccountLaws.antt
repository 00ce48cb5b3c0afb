-- Laws of what the account and the rows of a node are made of: tests, membership, keeping, the smallest entry, the greater of two rows.
-- They speak of lists alone; no table and no step stands here.
use mathlib.Core.Path.{◌≡◌, refl, sym, ap, subst, ◌∙◌}
use mathlib.Core.Bool.{Bool, true, false, not, ◌&&◌, ◌||◌, Bool-set}
use mathlib.Core.Logic.{∥∥₁_elim}
use mathlib.Core.List.Nodup
use mathlib.Core.List.Sublist
use mathlib.Core.List.{
  List,
  [],
  ◌∷◌,
  ◌++◌,
  Mem,
  Memᴰ,
  Nodup,
  Sublistᴰ,
  Nodup-append,
}
use Prim.Native.Nat.{ℕ, zero, suc, ◌≤◌, ◌<◌, max}
use native.Mathlib.Omega.{arith}
use lib.ListN.{length, get_or}
use lib.Dec.{eqb}
use borrow.Author.Tests.{leb-true, leb-false, le-leb, lt-leb, eqb-true, eq-eqb, not-true, not-false}
use Rattle.meaning.specs.declared.Record.{Record}
use Rattle.meaning.specs.Rows.{keep_if, keep, least, raise, covers, newer}
use Rattle.meaning.specs.Account.{same_record, has, lacking}
use Rattle.meaning.proofs.RowLaws.{and_left, and_right, and_both}

-- Tests ---------------------------------------------------------------------------------------------------------------------------------

-- a test passes or fails
pub by_test : {C : Type 0} (b : Bool) → (b ≡ true → C) → (b ≡ false → C) → C
by_test true f g = f refl
by_test false f g = g refl

pub not_both : {C : Type 0} (b : Bool) → b ≡ true → b ≡ false → C
not_both b p q = absurd (let z : ◌≡◌ {A = ℕ} 0 1 = cc in omega arith)

-- Membership ----------------------------------------------------------------------------------------------------------------------------

-- a record that passes the test word for word is that record
pub same_eq : (r s : Record) → same_record r s ≡ true → r ≡ s
unfolding same_record
same_eq r s h =
    let o = eqb r.origin s.origin in
    let t = eqb r.timestamp s.timestamp in
    let b = eqb r.block s.block in
    let v = eqb r.verdict s.verdict in
    let h1 = and_right o (t && (b && v)) h in
    let h2 = and_right t (b && v) h1 in
    let eo = eqb-true r.origin s.origin (and_left o (t && (b && v)) h) in
    let et = eqb-true r.timestamp s.timestamp (and_left t (b && v) h1) in
    let eb = eqb-true r.block s.block (and_left b v h2) in
    let ev = eqb-true r.verdict s.verdict (and_right b v h2) in
    λ i. record { origin = eo i; timestamp = et i; block = eb i; verdict = ev i }

pub same_refl : (r : Record) → same_record r r ≡ true
unfolding same_record
same_refl r =
    and_both (eqb r.origin r.origin) _ (eq-eqb r.origin r.origin refl)
    (and_both (eqb r.timestamp r.timestamp) _ (eq-eqb r.timestamp r.timestamp refl)
    (and_both (eqb r.block r.block) _ (eq-eqb r.block r.block refl) (eq-eqb r.verdict r.verdict refl)))

-- Membership as it is tested is membership, both ways.
pub has_mem : (r : Record) (l : List Record) → has r l ≡ true → Memᴰ r l
unfolding has
has_mem r [] h = not_both true refl (sym h)
has_mem r (s ∷ ss) h =
    by_test (same_record r s) (λ e. Memᴰ.head (same_eq r s e)) (λ e. Memᴰ.tail (has_mem r ss (cc)))

pub mem_has : (r : Record) (l : List Record) → Memᴰ r l → has r l ≡ true
unfolding has
mem_has r (s ∷ ss) (Memᴰ.head e) =
    let k : same_record r s ≡ true = subst (λ (x : Record). same_record r x ≡ true) e (same_refl r) in
    cc
mem_has r (s ∷ ss) (Memᴰ.tail m) =
    let k = mem_has r ss m in
    by_test (same_record r s) (λ e. cc) (λ e. cc)
mem_has r [] x' = elim x' [ ]

pub mem_has_any : (r : Record) (l : List Record) → Mem r l → has r l ≡ true
mem_has_any r l m = ∥∥₁_elim m (Bool-set (has r l) true) (mem_has r l)

pub has-append : (r : Record) (xs ys : List Record) → has r (xs ++ ys) ≡ has r xs || has r ys
unfolding has
has-append r [] ys = refl
has-append r (x ∷ xs) ys =
    let ih = has-append r xs ys in
    by_test (same_record r x) (λ e. cc) (λ e. cc)

-- a list of one
pub has_one : (r x : Record) → has r (x ∷ []) ≡ same_record r x
unfolding has
has_one r x = by_test (same_record r x) (λ e. cc) (λ e. cc)

-- what a list less some elements has, the list has
pub sublist_has : (xs ys : List Record) (r : Record) → Sublistᴰ xs ys → has r xs ≡ true → has r ys ≡ true
sublist_has xs ys r s h = mem_has_any r ys (Sublist.subset ∣ s ∣₁ r ∣ has_mem r xs h ∣₁)

-- Keeping -------------------------------------------------------------------------------------------------------------------------------

pub has-keep : (f : Record → Bool) (r : Record) (xs : List Record) → has r (keep f xs) ≡ has r xs && f r
unfolding has keep
has-keep f r [] = refl
has-keep f r (x ∷ xs) =
    let ih = has-keep f r xs in
    by_test (same_record r x)
    (λ e.
    let q : f r ≡ f x = ap f (same_eq r x e) in
    by_test (f x) (λ k. cc) (λ k. by_test (has r xs) (λ h. cc) (λ h. cc)))
    (λ e. by_test (f x) (λ k. cc) (λ k. cc))

-- two tests that agree on a list keep the same of it
pub keep_same : (f g : Record → Bool) (xs : List Record) → ((r : Record) → has r xs ≡ true → f r ≡ g r) → keep f xs ≡ keep g xs
unfolding has keep
keep_same f g [] h = refl
keep_same f g (x ∷ xs) h =
    let e = same_refl x in
    let k : f x ≡ g x = h x (cc) in
    let ih = keep_same f g xs (λ r m. h r (by_test (same_record r x) (λ p. cc) (λ p. cc))) in
    cc

pub keep_sub : {A : Type 0} (f : A → Bool) (xs : List A) → Sublistᴰ (keep f xs) xs
unfolding keep
keep_sub f [] = Sublistᴰ.slnil
keep_sub {A} f (x ∷ xs) = go (f x) (keep_sub f xs)
  where
    go : (b : Bool) → Sublistᴰ (keep f xs) xs → Sublistᴰ (keep_if b x (keep f xs)) (x ∷ xs)
    go true s = Sublistᴰ.cons-cons refl s
    go false s = Sublistᴰ.cons s

pub keep_sublist : (f : Record → Bool) {xs ys : List Record} → Sublistᴰ xs ys → Sublistᴰ (keep f xs) (keep f ys)
unfolding keep
keep_sublist f Sublistᴰ.slnil = Sublistᴰ.slnil
keep_sublist f (Sublistᴰ.cons {a = a} {l₁ = xs} {l₂ = ys} s) = go (f a) (keep_sublist f s)
  where
    go : (b : Bool) → Sublistᴰ (keep f xs) (keep f ys) → Sublistᴰ (keep f xs) (keep_if b a (keep f ys))
    go true k = Sublistᴰ.cons k
    go false k = k
keep_sublist f (Sublistᴰ.cons-cons {a = a} {b = b} {l₁ = xs} {l₂ = ys} e s) = go (f a) (f b) (ap f e) (keep_sublist f s)
  where
    go : (p q : Bool) → p ≡ q → Sublistᴰ (keep f xs) (keep f ys) → Sublistᴰ (keep_if p a (keep f xs)) (keep_if q b (keep f ys))
    go true true h k = Sublistᴰ.cons-cons e k
    go true false h k = not_both true refl h
    go false true h k = not_both true refl (sym h)
    go false false h k = k

-- No record twice -----------------------------------------------------------------------------------------------------------------------

pub once_append : (xs ys : List Record) → Nodup xs → Nodup ys → ((r : Record) → has r xs ≡ true → has r ys ≡ false) → Nodup (xs ++ ys)
unfolding Nodup-append
once_append xs ys p q apart =
    (Nodup-append {l₁ = xs} {l₂ = ys}).1 (p, q, λ r m k. not_both (has r ys) (mem_has_any r ys k) (apart r (mem_has_any r xs m)))

pub once_keep : (f : Record → Bool) (xs : List Record) → Nodup xs → Nodup (keep f xs)
once_keep f xs p = Nodup.sublist ∣ keep_sub f xs ∣₁ p

-- What an account lacks, and what is newer --------------------------------------------------------------------------------------------------

pub has-lacking : (r : Record) (mine theirs : List Record) → has r (lacking mine theirs) ≡ has r theirs && not (has r mine)
unfolding lacking
has-lacking r mine theirs = has-keep (λ x. not (has x mine)) r theirs

pub once_lacking : (mine theirs : List Record) → Nodup theirs → Nodup (lacking mine theirs)
unfolding lacking
once_lacking mine theirs p = once_keep (λ x. not (has x mine)) theirs p

pub has-newer : (r : Record) (s : List ℕ) (xs : List Record) → has r (newer s xs) ≡ has r xs && not (covers s r)
unfolding newer
has-newer r s xs = has-keep (λ x. not (covers s x)) r xs

pub newer_sublist : (s : List ℕ) {xs ys : List Record} → Sublistᴰ xs ys → Sublistᴰ (newer s xs) (newer s ys)
unfolding newer
newer_sublist s d = keep_sublist (λ x. not (covers s x)) d

-- What a purge leaves ---------------------------------------------------------------------------------------------------------------------------

-- what is gone passed the test of what leaves, and what is left did not
pub keep_gone : (leaves : Record → Bool) (xs : List Record) (r : Record) → has r xs ≡ true → has r (keep (λ x. not (leaves x)) xs) ≡ false → leaves r ≡ true
keep_gone leaves xs r h gone =
    let a = has-keep (λ y. not (leaves y)) r xs in
    let f : not (leaves r) ≡ false = cc in
    not-false (leaves r) f

pub keep_left : (leaves : Record → Bool) (xs : List Record) (r : Record) → has r (keep (λ x. not (leaves x)) xs) ≡ true → leaves r ≡ false
keep_left leaves xs r h =
    let a = has-keep (λ y. not (leaves y)) r xs in
    not-true (leaves r) (and_right (has r xs) (not (leaves r)) (sym a ∙ h))

-- Rows ----------------------------------------------------------------------------------------------------------------------------------

-- an entry of a row
abbrev pub entry : List ℕ → ℕ → ℕ
entry row i = get_or row i 0

pub least_le : (row : List ℕ) (i : ℕ) → i < length row → least row ≤ entry row i
unfolding least
least_le [] i h = absurd (omega arith)
least_le (x ∷ []) zero h = omega arith
least_le (x ∷ []) (suc i) h = absurd (omega arith)
least_le (x ∷ (y ∷ ys)) zero h = omega arith
least_le (x ∷ (y ∷ ys)) (suc i) h = omega (arith, least_le (y ∷ ys) i (omega arith))

-- what is at most every entry is at most the smallest
pub le_least : (row : List ℕ) (a : ℕ) → 0 < length row → ((i : ℕ) → i < length row → a ≤ entry row i) → a ≤ least row
unfolding least
le_least [] a h under = absurd (omega arith)
le_least (x ∷ []) a h under = under 0 (omega arith)
le_least (x ∷ (y ∷ ys)) a h under =
    let first = under 0 (omega arith) in
    let rest = le_least (y ∷ ys) a (omega arith) (λ i j. under (suc i) (omega arith)) in
    omega arith

pub raise_entry : (s t : List ℕ) (i : ℕ) → length s ≡ length t → entry (raise s t) i ≡ max (entry s i) (entry t i)
unfolding raise
raise_entry [] [] i h = omega arith
raise_entry [] (y ∷ ys) i h = absurd (omega arith)
raise_entry (x ∷ xs) [] i h = absurd (omega arith)
raise_entry (x ∷ xs) (y ∷ ys) zero h = refl
raise_entry (x ∷ xs) (y ∷ ys) (suc i) h = raise_entry xs ys i (omega arith)

pub covers_le : (s : List ℕ) (r : Record) → covers s r ≡ true → r.timestamp ≤ entry s r.origin
unfolding covers
covers_le s r h = leb-true r.timestamp (entry s r.origin) h

pub le_covers : (s : List ℕ) (r : Record) → r.timestamp ≤ entry s r.origin → covers s r ≡ true
unfolding covers
le_covers s r h = le-leb r.timestamp (entry s r.origin) h

pub lt_covers : (s : List ℕ) (r : Record) → entry s r.origin < r.timestamp → covers s r ≡ false
unfolding covers
lt_covers s r h = lt-leb r.timestamp (entry s r.origin) h

pub not_covers_lt : (s : List ℕ) (r : Record) → covers s r ≡ false → entry s r.origin < r.timestamp
unfolding covers
not_covers_lt s r h = leb-false r.timestamp (entry s r.origin) h

-- rows with the same entry for a record's origin cover it alike
pub covers_same : (s t : List ℕ) (r : Record) → entry s r.origin ≡ entry t r.origin → covers s r ≡ covers t r
unfolding covers
covers_same s t r e = cc

-- a row whose entry for a record's origin is the greater of two covers what either of the two covers
pub covers-max : (s t u : List ℕ) (r : Record) → entry u r.origin ≡ max (entry s r.origin) (entry t r.origin) → covers u r ≡ covers s r || covers t r
covers-max s t u r e =
    by_test (covers s r)
    (λ p.
    let k : covers u r ≡ true = le_covers u r (omega (arith, covers_le s r p)) in
    cc)
    (λ p.
    by_test (covers t r)
    (λ q.
    let k : covers u r ≡ true = le_covers u r (omega (arith, covers_le t r q)) in
    cc)
    (λ q.
    let k : covers u r ≡ false = lt_covers u r (omega (arith, not_covers_lt s r p, not_covers_lt t r q)) in
    cc))
