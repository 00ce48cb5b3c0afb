-- `columns::raise_column` meets its contract: of q's own column the row that was lent stands for the table's, of any other the table's own.
use mathlib.Core.Path.{◌≡◌, refl, sym, ap, ap₂, ◌∙◌}
use mathlib.Core.List.{List, [], ◌++◌}
use Prim.Native.Nat.{ℕ, ◌+◌, ◌-◌, ◌<◌, ◌≤◌}
use native.Mathlib.Omega.{arith}
use lib.ListN.{length, get_or, take, drop}
use lib.Seq.{get_or-set_same, get_or-set_other}
use Rattle.meaning.specs.Rows.{raise}
use Rattle.meaning.specs.Table.{column_at, part, place}
use Rattle.meaning.proofs.PlaceLaws.{length_part, mid_place}
use Rattle.meaning.proofs.RowLaws.{length-raise}
use Rattle.columns.specs.Merged.{columns_of, brought, raised_by, Raises}
use Rattle.columns.proofs.InPlace.{part_front, part_back, put_front, part_there}
use Rattle.columns.proofs.LayLaws.{length-columns_of, get_or-columns_of}
use Rattle.columns.proofs.raise_column.Goals as goal

module _ (t sq : List ℕ) (p q k : ℕ) (r : Raises t p q (length sq) sq) (h : k < length sq) where
  own_there : k ≡ q → get_or (brought (length sq) q sq t) k [] ≡ sq
  own_there e =
      let b = r.few in
      let w = r.theirs in
      let l = length-columns_of t (length sq) q r.room r.few (omega arith) in
      ap (λ (m : ℕ). get_or (brought (length sq) q sq t) m []) e ∙ get_or-set_same (columns_of (length sq) q t) q sq [] (omega arith)

  other_there : (k ≡ q → ⊥) → get_or (brought (length sq) q sq t) k [] ≡ part (column_at q k) (length sq) t
  other_there e =
      let b = r.few in
      let w = r.theirs in
      get_or-set_other (columns_of (length sq) q t) q k sq [] e ∙ get_or-columns_of t (length sq) q r.room r.few (omega arith) k h

  -- where both columns stand
  fits : (a : ℕ) → a < length sq → column_at a k + length sq ≤ length t
  fits a g =
      let b = r.few in
      let w = r.room in
      omega arith

  -- a row raised, and put where the column of p stands
  raised : (w x : List ℕ) → w ≡ raise (part (column_at p k) (length sq) t) x → length x ≡ length sq → length w ≡ length sq
  raised w x e l =
      ap length e ∙ length-raise (part (column_at p k) (length sq) t) x (length sq) (length_part (column_at p k) (length sq) t (fits p r.mine)) l

  back :
      (to : ℕ) (w : List ℕ) → to ≡ column_at p k → length w ≡ length sq →
      take to t ++ (w ++ drop ((to + length sq) - to) (drop to t)) ≡ place (column_at p k) w t
  back to w e l = mid_place to ((to + length sq) - to) t w (omega arith) ∙ ap (λ (m : ℕ). place m w t) e

  by_own :
      (to : ℕ) (w : List ℕ) → to ≡ column_at p k → k ≡ q → w ≡ raise (take ((to + length sq) - to) (drop to t)) sq →
      take to t ++ (w ++ drop ((to + length sq) - to) (drop to t)) ≡ raised_by (length sq) (column_at p k) (get_or (brought (length sq) q sq t) k []) t
  by_own to w e f g =
      let same : w ≡ raise (part (column_at p k) (length sq) t) sq = g ∙ ap (λ (z : List ℕ). raise z sq) (part_there t to (column_at p k) (length sq) e) in
      back to w e (raised w sq same refl) ∙ ap (λ (z : List ℕ). place (column_at p k) z t) same ∙
      ap (λ (z : List ℕ). place (column_at p k) (raise (part (column_at p k) (length sq) t) z) t) (sym (own_there f))

  by_other :
      (w : List ℕ) → (k ≡ q → ⊥) → w ≡ raise (part (column_at p k) (length sq) t) (part (column_at q k) (length sq) t) →
      place (column_at p k) w t ≡ raised_by (length sq) (column_at p k) (get_or (brought (length sq) q sq t) k []) t
  by_other w apart e =
      ap (λ (z : List ℕ). place (column_at p k) z t) e ∙
      ap (λ (z : List ℕ). place (column_at p k) (raise (part (column_at p k) (length sq) t) z) t) (sym (other_there apart))

  -- the table split where the column of q begins, and where that of p does; wherever the rows lent are said to end
  by_front :
      {end m : ℕ} (to from : ℕ) (f b w : List ℕ) → to ≡ column_at p k → from ≡ column_at q k → (k ≡ q → ⊥) → p < q → f ≡ take from t → b ≡ drop from t →
      end ≡ to + length sq → m ≡ length sq → w ≡ raise (take (end - to) (drop to f)) (take m b) →
      (take to f ++ (w ++ drop (end - to) (drop to f))) ++ b ≡ raised_by (length sq) (column_at p k) (get_or (brought (length sq) q sq t) k []) t
  by_front {end = end} {m = m} to from f b w e g apart less ef eb ends wide is =
      let few = r.few in
      let room = fits q r.theirs in
      let mine : take (end - to) (drop to f) ≡ part (column_at p k) (length sq) t =
      ap (λ (z : ℕ). take (z - to) (drop to f)) ends ∙ part_there f to (column_at p k) (length sq) e ∙ ap (part (column_at p k) (length sq)) ef ∙
      part_front from (column_at p k) (length sq) t (omega arith) in
      let theirs : take m b ≡ part (column_at q k) (length sq) t =
      ap₂ take wide eb ∙ part_back from (length sq) t ∙ ap (λ (z : ℕ). part z (length sq) t) g in
      let same = is ∙ ap₂ raise mine theirs in
      let l = raised w (part (column_at q k) (length sq) t) same (length_part (column_at q k) (length sq) t room) in
      ap₂ (λ (x y : List ℕ). x ++ y) (mid_place to (end - to) f w (omega arith) ∙ ap₂ (λ (z : ℕ) (x : List ℕ). place z w x) e ef) eb ∙
      put_front from (column_at p k) w t (omega arith) (omega arith) ∙ by_other w apart same

  by_back :
      {end m : ℕ} (to from : ℕ) (f b w : List ℕ) → to ≡ column_at p k → from ≡ column_at q k → (k ≡ q → ⊥) → q < p → f ≡ take to t → b ≡ drop to t →
      end ≡ from + length sq → m ≡ length sq → w ≡ raise (take m b) (take (end - from) (drop from f)) →
      f ++ (w ++ drop m b) ≡ raised_by (length sq) (column_at p k) (get_or (brought (length sq) q sq t) k []) t
  by_back {end = end} {m = m} to from f b w e g apart less ef eb ends wide is =
      let few = r.few in
      let room = fits q r.theirs in
      let mine : take m b ≡ part (column_at p k) (length sq) t =
      ap₂ take wide eb ∙ part_back to (length sq) t ∙ ap (λ (z : ℕ). part z (length sq) t) e in
      let theirs : take (end - from) (drop from f) ≡ part (column_at q k) (length sq) t =
      ap (λ (z : ℕ). take (z - from) (drop from f)) ends ∙ part_there f from (column_at q k) (length sq) g ∙ ap (part (column_at q k) (length sq)) ef ∙
      part_front to (column_at q k) (length sq) t (omega arith) in
      let same = is ∙ ap₂ raise mine theirs in
      let l = raised w (part (column_at q k) (length sq) t) same (length_part (column_at q k) (length sq) t room) in
      ap₂ (λ (x y : List ℕ). x ++ (w ++ drop m y)) ef eb ∙ ap (λ (z : ℕ). take to t ++ (w ++ drop z (drop to t))) wide ∙ mid_place to (length sq) t w l ∙
      ap (λ (z : ℕ). place z w t) e ∙ by_other w apart same

pub returns-then-k-q : goal.returns-then-k-q
returns-then-k-q c =
    by_own c.args.t.now c.args.sq.now c.args.p c.args.q c.args.k c.requires.0 c.requires.1 c.column_at-to.result c.raise_by.new.row
    c.column_at-to.ensures c.if-k-q.true c.raise_by.ensures

pub returns-then-p-q : goal.returns-then-p-q
returns-then-p-q c =
    let split = c.split_at_mut-front in
    by_front c.args.t.now c.args.sq.now c.args.p c.args.q c.args.k c.requires.0 c.requires.1 c.column_at-to.result c.column_at-from.result
    split.result.0.now split.result.1.now c.raise_by-then-p-q.new.row c.column_at-to.ensures c.column_at-from.ensures c.if-k-q.false c.if-p-q.true
    split.ensures.front split.ensures.back (omega arith) (omega arith) c.raise_by-then-p-q.ensures

pub returns-else-p-q : goal.returns-else-p-q
returns-else-p-q c =
    let split = c.split_at_mut-front-else-p-q in
    let apart = c.requires.0.apart in
    by_back c.args.t.now c.args.sq.now c.args.p c.args.q c.args.k c.requires.0 c.requires.1 c.column_at-to.result c.column_at-from.result
    split.result.0.now split.result.1.now c.raise_by-else-p-q.new.row c.column_at-to.ensures c.column_at-from.ensures c.if-k-q.false
    (omega (arith, c.if-p-q.false)) split.ensures.front split.ensures.back (omega arith) (omega arith) c.raise_by-else-p-q.ensures
