-- `columns::raise_columns` meets its contract: the invariant says that the columns passed are raised, the others as they were.
use mathlib.Core.Path.{◌≡◌, sym, ap, ap₂, ◌∙◌}
use mathlib.Core.List.{List, []}
use Prim.Native.Nat.{ℕ, ◌+◌, ◌<◌}
use native.Mathlib.Numerals.{add-one}
use native.Mathlib.Omega.{arith}
use lib.ListN.{length, get_or, set}
use Rattle.meaning.specs.Rows.{raise, raise_each}
use Rattle.meaning.specs.Table.{column_at, part, place}
use Rattle.meaning.proofs.RowLaws.{length-raise}
use Rattle.columns.specs.Merged.{columns_of, brought, put_columns, Raises}
use Rattle.columns.proofs.LayLaws.{Wide, length-columns_of, wide-columns_of, length-brought, wide-brought, put_back, put_other, put_one, put_same}
use Rattle.columns.proofs.RaiseLaws.{raise_first, raise_first_none, raise_first_all, length_raise_first, wide_raise_first, raise_first_left, raise_first_more}
use borrow.Author.Rules.{rules}
use Rattle.columns.proofs.raise_columns.Goals as goal

module _ (t sq : List ℕ) (p q n : ℕ) (r : Raises t p q n sq) where
  mine_most : p < 16
  mine_most = let b = r.few in let m = r.mine in omega arith

  theirs_most : q < 16
  theirs_most = let b = r.few in let m = r.theirs in omega arith

  long_mine : length (columns_of n p t) ≡ n
  long_mine = length-columns_of t n p r.room r.few mine_most

  wide_mine : Wide n (columns_of n p t)
  wide_mine = wide-columns_of t n p r.room r.few mine_most

  long_theirs : length (brought n q sq t) ≡ n
  long_theirs = length-brought t n q r.room r.few theirs_most sq

  wide_theirs : Wide n (brought n q sq t)
  wide_theirs = wide-brought t n q r.room r.few theirs_most sq r.wide

  none : t ≡ put_columns p (raise_first 0 (columns_of n p t) (brought n q sq t)) t
  none =
      sym
      (ap (λ (cs : List (List ℕ)). put_columns p cs t) (raise_first_none (columns_of n p t) (brought n q sq t)) ∙
      put_same t n p r.room r.few mine_most)

  still : (u : List ℕ) → length u ≡ length t → Raises u p q n sq
  still u e =
      let room = r.room in
      record { room = omega arith; few = r.few; mine = r.mine; theirs = r.theirs; apart = r.apart; wide = r.wide }

  module _ (k : ℕ) where
    more :
        (u v : List ℕ) → k < n → u ≡ put_columns p (raise_first k (columns_of n p t) (brought n q sq t)) t →
        v ≡ place (column_at p k) (raise (part (column_at p k) n u) (get_or (brought n q sq u) k [])) u →
        v ≡ put_columns p (raise_first (k + 1) (columns_of n p t) (brought n q sq t)) t
    more u v h e g =
        let cs = columns_of n p t in
        let ds = brought n q sq t in
        let same = long_mine ∙ sym long_theirs in
        let l = length_raise_first cs ds k same ∙ long_mine in
        let w = wide_raise_first n cs ds k same wide_mine wide_theirs in
        let lm = long_mine in
        let lt = long_theirs in
        let y = raise (get_or cs k []) (get_or ds k []) in
        let mine : part (column_at p k) n u ≡ get_or cs k [] =
        ap (part (column_at p k) n) e ∙ put_back t n p r.room r.few mine_most (raise_first k cs ds) l w k h ∙ raise_first_left cs ds k same in
        let theirs : brought n q sq u ≡ ds =
        ap (λ (z : List ℕ). brought n q sq z) e ∙
        ap (λ (z : List (List ℕ)). set z q sq) (put_other t n p r.room r.few mine_most (raise_first k cs ds) l w q theirs_most r.apart) in
        let ly : length y ≡ n = length-raise (get_or cs k []) (get_or ds k []) n (wide_mine k (omega arith)) (wide_theirs k (omega arith)) in
        g ∙
        ap₂ (λ (a : List ℕ) (b : List (List ℕ)). place (column_at p k) (raise a (get_or b k [])) u) mine theirs ∙
        ap (place (column_at p k) y) e ∙
        put_one t n p r.room r.few mine_most (raise_first k cs ds) l w k y h ly ∙
        ap (λ (z : List (List ℕ)). put_columns p z t) (raise_first_more cs ds k same (omega arith)) ∙
        ap (λ (m : ℕ). put_columns p (raise_first m cs ds) t) (sym (add-one k))

    whole :
        k ≡ n → put_columns p (raise_first k (columns_of n p t) (brought n q sq t)) t ≡ put_columns p (raise_each (columns_of n p t) (brought n q sq t)) t
    whole e = ap (λ (z : List (List ℕ)). put_columns p z t) (raise_first_all (columns_of n p t) (brought n q sq t) k (long_mine ∙ sym e))

pub loop-k-init : goal.loop-k-init
loop-k-init c = none c.args.t.now c.args.sq.now c.args.p c.args.q (length c.args.sq.now) c.requires

pub raise_column-requires : goal.raise_column-requires
raise_column-requires c =
    (still c.args.t.now c.args.sq.now c.args.p c.args.q (length c.args.sq.now) c.requires c.loop-k.t c.loop-k.auto.t, search rules)

pub loop-k-preserved : goal.loop-k-preserved
loop-k-preserved c =
    more c.args.t.now c.args.sq.now c.args.p c.args.q (length c.args.sq.now) c.requires c.loop-k.k c.loop-k.t c.raise_column.new.t (omega arith)
    c.loop-k.invariant c.raise_column.ensures

pub returns : goal.returns
returns c =
    let most = c.loop-k.auto.k-end in
    c.loop-k.invariant ∙
    whole c.args.t.now c.args.sq.now c.args.p c.args.q (length c.args.sq.now) c.requires c.loop-k.k (omega arith)
