-- Laws of a log from its first record that leaves on: what stays of the whole is what is before that row and what stays of the rest; and the theorem
-- about the rows that closing up stores: one after the other from the first, so that none is stored twice and none before it.
use mathlib.Core.Path.{◌≡◌, refl, sym, ap, ap₂, ◌∙◌}
use mathlib.Core.Bool.{Bool, true, false, not}
use mathlib.Core.List.{List, [], ◌∷◌, ◌++◌, append-nil, append_assoc}
use Prim.Native.Nat.{ℕ, zero, suc, ◌+◌, ◌*◌, ◌<◌}
use native.Mathlib.Nat.{add-zero}
use native.Mathlib.Numerals.{add-one}
use native.Mathlib.Omega.{arith}
use lib.ListN.{length, get_or}
use Rattle.meaning.specs.declared.Record.{Record}
use Rattle.meaning.specs.Rows.{keep, keep_if, record_at, records}
use Rattle.meaning.proofs.RowLaws.{keep_append, keep_row, no_records, record_at_agree}
use Rattle.logs.specs.Carry.{stay, stored_or, stored_rows}

pub records_next : (i : ℕ) (w : List ℕ) → records (i + 1) w ≡ records i w ++ (record_at w i ∷ [])
unfolding records
records_next i w = rw (add-one i) refl

-- what stays of one record
pub stay_one : (leaves : Record → Bool) (r : Record) (b : Bool) → leaves r ≡ b → stay leaves (r ∷ []) ≡ keep_if (not b) r []
unfolding keep
stay_one leaves r b e = rw e

-- all of the first rows stay, so far and one row further
pub none_stays : (leaves : Record → Bool) (w : List ℕ) → stay leaves (records 0 w) ≡ []
unfolding keep records
none_stays leaves w = refl

pub stay_none : (leaves : Record → Bool) (w : List ℕ) → stay leaves (records 0 w) ≡ records 0 w
stay_none leaves w = none_stays leaves w ∙ sym (no_records w)

pub stay-row :
    (leaves : Record → Bool) (i : ℕ) (w : List ℕ) → stay leaves (records (i + 1) w) ≡ stay leaves (records i w) ++ stay leaves (record_at w i ∷ [])
stay-row leaves i w = keep_row (λ (r : Record). not (leaves r)) i w

pub stay_next :
    (leaves : Record → Bool) (i : ℕ) (w : List ℕ) → stay leaves (records i w) ≡ records i w → leaves (record_at w i) ≡ false →
    stay leaves (records (i + 1) w) ≡ records (i + 1) w
stay_next leaves i w h b =
    let one = stay_one leaves (record_at w i) false b in
    stay-row leaves i w ∙ ap₂ (λ (x y : List Record). x ++ y) h one ∙ sym (records_next i w)

-- the rows of a log from row f on, in a list of their own
pub records_from :
    (f m : ℕ) (w v : List ℕ) → ((j : ℕ) → j < 4 * m → get_or v j 0 ≡ get_or w (4 * f + j) 0) → records (f + m) w ≡ records f w ++ records m v
unfolding records
records_from f zero w v same = ap (λ (k : ℕ). records k w) (add-zero f) ∙ sym (append-nil (records f w))
records_from f (suc m) w v same =
    let e : f + suc m ≡ suc (f + m) = omega arith in
    let before = records_from f m w v (λ j h. same j (omega arith)) in
    let last : record_at w (f + m) ≡ record_at v m = record_at_agree w v (f + m) m (λ j h. sym (row j h)) in
    ap (λ (k : ℕ). records k w) e ∙
    ap₂ (λ (x : List Record) (r : Record). x ++ (r ∷ [])) before last ∙
    append_assoc (records f w) (records m v) (record_at v m ∷ [])
  where
    row : (j : ℕ) → j < 4 → get_or v (4 * m + j) 0 ≡ get_or w (4 * (f + m) + j) 0
    row j h =
        let q : 4 * f + (4 * m + j) ≡ 4 * (f + m) + j = omega arith in
        same (4 * m + j) (omega arith) ∙ ap (λ (k : ℕ). get_or w k 0) q

pub stay_from :
    (leaves : Record → Bool) (f m : ℕ) (w v : List ℕ) → stay leaves (records f w) ≡ records f w →
    ((j : ℕ) → j < 4 * m → get_or v j 0 ≡ get_or w (4 * f + j) 0) →
    stay leaves (records (f + m) w) ≡ records f w ++ stay leaves (records m v)
stay_from leaves f m w v before same =
    ap (stay leaves) (records_from f m w v same) ∙
    keep_append (λ (r : Record). not (leaves r)) (records f w) (records m v) ∙
    ap (λ (x : List Record). x ++ stay leaves (records m v)) before

-- as many rows are stored as records stay
pub stored_many : (leaves : Record → Bool) (k : ℕ) (rs : List Record) → length (stored_rows leaves k rs) ≡ length (stay leaves rs)
unfolding stored_rows keep
stored_many leaves k [] = refl
stored_many leaves k (r ∷ rs) = go (leaves r) (stored_many leaves k rs) (stored_many leaves (suc k) rs)
  where
    go :
        (b : Bool) → length (stored_rows leaves k rs) ≡ length (stay leaves rs) → length (stored_rows leaves (suc k) rs) ≡ length (stay leaves rs) →
        length (stored_or b k (stored_rows leaves k rs) (stored_rows leaves (suc k) rs)) ≡
        length (keep_if (not b) r (keep (λ (x : Record). not (leaves x)) rs))
    go true p q = p
    go false p q = ap suc q

-- each row stored is one further than the last, the first is row k
pub stored_at : (leaves : Record → Bool) (k : ℕ) (rs : List Record) (j : ℕ) → j < length (stored_rows leaves k rs) →
    get_or (stored_rows leaves k rs) j 0 ≡ k + j
unfolding stored_rows
stored_at leaves k [] j h = absurd (omega arith)
stored_at leaves k (r ∷ rs) j h = go (leaves r) (stored_at leaves k rs) (stored_at leaves (suc k) rs) j h
  where
    go :
        (b : Bool) →
        ((j : ℕ) → j < length (stored_rows leaves k rs) → get_or (stored_rows leaves k rs) j 0 ≡ k + j) →
        ((j : ℕ) → j < length (stored_rows leaves (suc k) rs) → get_or (stored_rows leaves (suc k) rs) j 0 ≡ suc k + j) →
        (j : ℕ) → j < length (stored_or b k (stored_rows leaves k rs) (stored_rows leaves (suc k) rs)) →
        get_or (stored_or b k (stored_rows leaves k rs) (stored_rows leaves (suc k) rs)) j 0 ≡ k + j
    go true p q j h = p j h
    go false p q zero h = sym (add-zero k)
    go false p q (suc j) h =
        let e : suc k + j ≡ k + suc j = omega arith in
        q j (omega arith) ∙ e

-- so no row is stored twice
pub stored_once :
    (leaves : Record → Bool) (k : ℕ) (rs : List Record) (i j : ℕ) →
    i < length (stored_rows leaves k rs) →
    j < length (stored_rows leaves k rs) →
    get_or (stored_rows leaves k rs) i 0 ≡ get_or (stored_rows leaves k rs) j 0 →
    i ≡ j
stored_once leaves k rs i j h g e =
    let a = stored_at leaves k rs i h in
    let b = stored_at leaves k rs j g in
    omega arith
