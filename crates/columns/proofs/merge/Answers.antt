-- `columns::merge` meets its contract: the own column with its starting entry, each column raised by the partner's, the own one by the partner's own.
use mathlib.Core.Path.{◌≡◌, refl, sym, ap, ap₂, ◌∙◌}
use mathlib.Core.List.{List, [], ◌++◌}
use Prim.Native.Nat.{ℕ, ◌+◌, ◌-◌, ◌≤◌, ◌<◌}
use native.Mathlib.Omega.{arith}
use lib.ListN.{length, get_or, set, take, drop}
use Rattle.meaning.specs.Rows.{raise, raise_each}
use Rattle.meaning.specs.Table.{nodes_most, column_at, form_words, part, place, node}
use Rattle.meaning.proofs.PlaceLaws.{part_lent, length_part, mid_place}
use Rattle.meaning.proofs.ColumnLaws.{length-raise_each, get_or-raise_each, long_raise_each}
use Rattle.meaning.proofs.RowLaws.{length-raise}
use Rattle.rows.specs.Entry.{OneEntry}
use Rattle.columns.specs.Merged.{columns_of, brought, put_columns, joined, Merges}
use Rattle.columns.proofs.LayLaws.{Wide, node_columns_are, length-brought, wide-brought, length_put, put_back, columns_put, put_other}
use Rattle.columns.proofs.LayLaws.{put_one, put_over, put_set}
use Rattle.columns.proofs.merge.Goals as goal

module _ (t sp sq : List ℕ) (p q n : ℕ) (r : Merges t p q n sp sq) where
  room : column_at nodes_most 0 ≤ length t
  room = let l = r.long ∙ ap form_words r.form in omega arith

  few : n ≤ nodes_most
  few = let h = r.high in let e = r.nodes in omega arith

  mine_most : p < nodes_most
  mine_most = let h = few in let l = r.mine in omega arith

  theirs_most : q < nodes_most
  theirs_most = let h = few in let l = r.theirs in omega arith

  asks : (own : ℕ) → own ≡ column_at p p → (own + length sp ≤ length t) × (p < length sp) × OneEntry t own p sp
  asks own e =
      let w = room in
      let h = few in
      let l = r.own in
      let m = r.mine in
      (omega arith, omega arith, rw e r.entry)

  -- what both begin with
  abbrev mine : List (List ℕ)
  mine = brought n p sp t

  abbrev theirs : List (List ℕ)
  theirs = brought n q sq t

  long_mine : length mine ≡ n
  long_mine = length-brought t n p room few mine_most sp

  wide_mine : Wide n mine
  wide_mine = wide-brought t n p room few mine_most sp r.own

  long_theirs : length theirs ≡ n
  long_theirs = length-brought t n q room few theirs_most sq

  wide_theirs : Wide n theirs
  wide_theirs = wide-brought t n q room few theirs_most sq r.wide

  long_both : length (raise_each mine theirs) ≡ n
  long_both = length-raise_each mine theirs n long_mine long_theirs

  wide_both : Wide n (raise_each mine theirs)
  wide_both k h =
      let lm = long_mine in
      let lt = long_theirs in
      let lb = long_both in
      long_raise_each mine theirs n k (omega arith) (omega arith) (wide_mine k (omega arith)) (wide_theirs k (omega arith))

  -- the own column is put, and all columns raised
  begun : (u : List ℕ) → u ≡ place (column_at p p) sp t → u ≡ put_columns p mine t
  begun u e = e ∙ sym (put_set t n p room few mine_most p sp r.mine r.own)

  raised :
      (u v : List ℕ) → u ≡ place (column_at p p) sp t → v ≡ put_columns p (raise_each (columns_of n p u) (brought n q sq u)) u →
      v ≡ put_columns p (raise_each mine theirs) t
  raised u v e f =
      let own : columns_of n p u ≡ mine = ap (columns_of n p) (begun u e) ∙ columns_put t n p room few mine_most mine long_mine wide_mine in
      let other : columns_of n q u ≡ columns_of n q t =
      ap (columns_of n q) (begun u e) ∙ put_other t n p room few mine_most mine long_mine wide_mine q theirs_most r.apart in
      f ∙ ap₂ (λ (cs ds : List (List ℕ)). put_columns p (raise_each cs (set ds q sq)) u) own other ∙
      ap (put_columns p (raise_each mine theirs)) e ∙
      put_over t n p room few mine_most (raise_each mine theirs) long_both wide_both p sp r.mine r.own

  -- "and its own column also takes the partner's own"
  ended :
      (own : ℕ) (v w : List ℕ) → own ≡ column_at p p → v ≡ put_columns p (raise_each mine theirs) t → w ≡ place own (raise (part own (length sq) v) sq) v →
      w ≡ put_columns p (joined p sp sq mine theirs) t
  ended own v w e f g =
      let lm = long_mine in
      let lt = long_theirs in
      let lb = long_both in
      let m = r.mine in
      let same : length mine ≡ length theirs = omega arith in
      let inside : p < length mine = omega arith in
      let column : part (column_at p p) n v ≡ get_or (raise_each mine theirs) p sp =
      ap (part (column_at p p) n) f ∙ put_back t n p room few mine_most (raise_each mine theirs) long_both wide_both p r.mine ∙
      get_or-raise_each mine theirs p [] inside same ∙ sym (get_or-raise_each mine theirs p sp inside same) in
      let y = raise (get_or (raise_each mine theirs) p sp) sq in
      let wide : length (get_or (raise_each mine theirs) p sp) ≡ n =
      ap length (get_or-raise_each mine theirs p sp inside same ∙ sym (get_or-raise_each mine theirs p [] inside same)) ∙ wide_both p (omega arith) in
      g ∙ ap₂ (λ (a k : ℕ). place a (raise (part a k v) sq) v) e r.wide ∙
      ap₂ (λ (c u : List ℕ). place (column_at p p) (raise c sq) u) column f ∙
      put_one t n p room few mine_most (raise_each mine theirs) long_both wide_both p y r.mine
      (length-raise (get_or (raise_each mine theirs) p sp) sq n wide r.wide)

  -- the own column lent, and a row that it is raised to
  own_raised :
      (own : ℕ) (v row w : List ℕ) → own ≡ column_at p p → v ≡ put_columns p (raise_each mine theirs) t →
      row ≡ raise (take ((own + n) - own) (drop own v)) sq → w ≡ take own v ++ (row ++ drop ((own + n) - own) (drop own v)) →
      w ≡ place own (raise (part own (length sq) v) sq) v
  own_raised own v row w e f g h =
      let room = room in
      let few = few in
      let m = r.mine in
      let lv : length v ≡ length t = ap length f ∙ length_put t n p room few mine_most (raise_each mine theirs) long_both wide_both in
      let lent : row ≡ raise (part own (length sq) v) sq =
      g ∙ ap (λ (z : List ℕ). raise z sq) (part_lent own n v ∙ ap (λ (k : ℕ). part own k v) (sym r.wide)) in
      let lp = length_part own (length sq) v (omega (arith, r.wide)) in
      let l = ap length lent ∙ length-raise (part own (length sq) v) sq n (lp ∙ r.wide) r.wide in
      h ∙ mid_place own ((own + n) - own) v row (omega arith) ∙ ap (λ (z : List ℕ). place own z v) lent

  -- all three, of the columns as a node has them
  merged :
      (own : ℕ) (u v row w : List ℕ) → own ≡ column_at p p → u ≡ place own sp t →
      v ≡ put_columns p (raise_each (columns_of (length sq) p u) (brought (length sq) q sq u)) u →
      row ≡ raise (take ((own + n) - own) (drop own v)) sq → w ≡ take own v ++ (row ++ drop ((own + n) - own) (drop own v)) →
      w ≡ put_columns p (joined p sp sq (set (node t p).columns p sp) (set (node t q).columns q sq)) t
  merged own u v row w e f g h i =
      let raised_all = raised u v (f ∙ ap (λ (a : ℕ). place a sp t) e)
      (g ∙ ap (λ (k : ℕ). put_columns p (raise_each (columns_of k p u) (brought k q sq u)) u) r.wide) in
      ended own v w e raised_all (own_raised own v row w e raised_all h i) ∙
      ap₂ (λ (cs ds : List (List ℕ)). put_columns p (joined p sp sq (set cs p sp) (set ds q sq)) t)
      (sym (node_columns_are t p n r.form r.nodes))
      (sym (node_columns_are t q n r.form r.nodes))

pub put_entry-requires : goal.put_entry-requires
put_entry-requires c =
    asks c.args.t.now c.args.sp.now c.args.sq.now c.args.p c.args.q (length c.args.sp.now) c.requires
    c.column_at-own.result c.column_at-own.ensures

pub returns : goal.returns
returns c =
    merged c.args.t.now c.args.sp.now c.args.sq.now c.args.p c.args.q (length c.args.sp.now) c.requires
    c.column_at-own.result c.put_entry.new.t c.raise_columns.new.t c.raise_by.new.row _
    c.column_at-own.ensures c.put_entry.ensures c.raise_columns.ensures c.raise_by.ensures refl
