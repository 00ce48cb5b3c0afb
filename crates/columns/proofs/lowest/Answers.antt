-- `columns::lowest` meets its contract: the row is the smallest of the columns passed, and the search for the smallest entry of them is as far
-- (`LeastLaws.Found`).
use mathlib.Core.Path.{◌≡◌, refl, sym, ap, ap₂, ◌∙◌}
use mathlib.Core.List.{List, [], map}
use Prim.Native.Nat.{ℕ, suc, ◌+◌, ◌≤◌, ◌<◌}
use native.Mathlib.Numerals.{add-one}
use native.Mathlib.Omega.{arith}
use native.Mathlib.Decide.{dec_lt}
use lib.ListN.{length, get_or, take, replicate, length-map}
use lib.Seq.{take-length}
use Rattle.meaning.specs.Rows.{least, least_at, lower, lowest}
use Rattle.meaning.specs.Table.{nodes_most, column_at, form_words, part}
use Rattle.meaning.proofs.PlaceLaws.{length_part, get_d_part}
use Rattle.meaning.proofs.RowLaws.{least_at_lem}
use Rattle.rows.proofs.LeastLaws.{found-none, found-less, found-stays, found-all}
use Rattle.columns.specs.Merged.{columns_of}
use Rattle.columns.specs.Smallest.{LoweredBy, Lowers, Lowest}
use Rattle.columns.proofs.LayLaws.{node_columns_are, length-columns_of, get_or-columns_of}
use Rattle.columns.proofs.LowerLaws.{lower_most, lowest_one, lowest_more, least_of, lagging_columns}
use Rattle.columns.proofs.lowest.Invariants.{Lowered}
use Rattle.columns.proofs.lowest.Goals.{then-least-low, else-least-low}
use Rattle.columns.proofs.lowest.Goals as goal

module _ (row₀ t : List ℕ) (p n : ℕ) (fits : (i : ℕ) → get_or t i 0 ≤ 4294967295) (r : Lowers row₀ t p n) where
  room : column_at nodes_most 0 ≤ length t
  room = let l = r.long ∙ ap form_words r.form in omega arith

  few : n ≤ nodes_most
  few = let h = r.high in let e = r.nodes in omega arith

  there : p < nodes_most
  there = let h = few in let l = r.there in omega arith

  long : length (columns_of n p t) ≡ n
  long = length-columns_of t n p room few there

  long_map : length (map least (columns_of n p t)) ≡ n
  long_map = length-map (columns_of n p t) least ∙ long

  column : (k : ℕ) → k < n → part (column_at p k) n t ≡ get_or (columns_of n p t) k []
  column k h = sym (get_or-columns_of t n p room few there k h)

  wide_column : (k : ℕ) → k < n → length (part (column_at p k) n t) ≡ n
  wide_column k h =
      let f = few in
      let m = there in
      let w = room in
      length_part (column_at p k) n t (omega arith)

  -- a column's entries are words, and so is the smallest of them
  word : (k : ℕ) → k < n → (i : ℕ) → i < length (part (column_at p k) n t) → get_or (part (column_at p k) n t) i 0 ≤ 4294967295
  word k h i g =
      let w = wide_column k h in
      let same = get_d_part (column_at p k) n t i (column_at p k + i) refl (omega arith) in
      let b = fits (column_at p k + i) in
      omega arith

  small : (k : ℕ) → k < n → get_or (map least (columns_of n p t)) k 0 ≤ 4294967295
  small k h =
      let w = wide_column k h in
      let a = least_of (columns_of n p t) k ∙ ap least (sym (column k h)) in
      let b = least_at_lem (part (column_at p k) n t) 0 (omega arith) in
      let c = word k h 0 (omega arith) in
      omega arith

  begin : (row : List ℕ) → row ≡ replicate n 4294967295 → Lowered t p n 0 row 4294967295 0
  begin row e =
      let m = r.there in
      let l = long_map in
      record { most = λ z. e; smallest = λ z. absurd (omega arith); found = found-none (map least (columns_of n p t)) (omega arith) }

  module _ (k : ℕ) (here : k < n) (row : List ℕ) (low at : ℕ) (wide : length row ≡ n) (w : Lowered t p n k row low at) where
    lent : part (column_at p k) (length row) t ≡ get_or (columns_of n p t) k []
    lent = ap (λ (x : ℕ). part (column_at p k) x t) wide ∙ column k here

    more_row : (next : List ℕ) → next ≡ lower row (part (column_at p k) (length row) t) → next ≡ lowest (take (k + 1) (columns_of n p t))
    more_row next e = e ∙ go (dec_lt 0 k) ∙ ap (λ (m : ℕ). lowest (take m (columns_of n p t))) (sym (add-one k))
      where
        go : Dec (0 < k) → lower row (part (column_at p k) (length row) t) ≡ lowest (take (suc k) (columns_of n p t))
        go (yes some) = let l = long in ap₂ lower (w.smallest some) lent ∙ sym (lowest_more (columns_of n p t) k some (omega arith))
        go (no none) =
            let z : k ≡ 0 = omega arith in
            let l = long in
            let lw = wide_column k here in
            let most : row ≡ replicate (length (part (column_at p k) n t)) 4294967295 = w.most z ∙ ap (λ (m : ℕ). replicate m 4294967295) (sym lw) in
            ap₂ lower most (ap (λ (x : ℕ). part (column_at p k) x t) wide) ∙ lower_most (part (column_at p k) n t) (word k here) ∙ column k here ∙
            ap (λ (m : ℕ). get_or (columns_of n p t) m []) z ∙ sym (lowest_one (columns_of n p t) (omega arith)) ∙
            ap (λ (m : ℕ). lowest (take (suc m) (columns_of n p t))) (sym z)

    this : (v : ℕ) → v ≡ least (part (column_at p k) (length row) t) → v ≡ get_or (map least (columns_of n p t)) k 0
    this v e = e ∙ ap least lent ∙ sym (least_of (columns_of n p t) k)

    -- the column has a smaller entry, or it has none
    less :
        (next : List ℕ) (v low' at' : ℕ) → LoweredBy row (part (column_at p k) (length row) t) next v →
        v < low → low' ≡ v → at' ≡ k → Lowered t p n (k + 1) next low' at'
    less next v low' at' e h el ea =
        let q = this v e.1 in
        let l = long_map in
        record {
          most = λ z. absurd (omega arith);
          smallest = λ z. more_row next e.0;
          found = rw (el, ea, q) (found-less (map least (columns_of n p t)) low at k (omega arith) w.found (omega arith));
        }

    stays :
        (next : List ℕ) (v low' at' : ℕ) → LoweredBy row (part (column_at p k) (length row) t) next v →
        low ≤ v → low' ≡ low → at' ≡ at → Lowered t p n (k + 1) next low' at'
    stays next v low' at' e h el ea =
        let q = this v e.1 in
        let l = long_map in
        record {
          most = λ z. absurd (omega arith);
          smallest = λ z. more_row next e.0;
          found = rw (el, ea) (found-stays (map least (columns_of n p t)) low at k (omega arith) w.found (omega arith));
        }

  whole :
      (k : ℕ) (row : List ℕ) (low at : ℕ) → k ≡ n → Lowered t p n k row low at →
      Lowest t p n row at
  whole k row low at e w =
      let cs = columns_of n p t in
      let l = long in
      let m = long_map in
      let h = r.there in
      let i = w.found.inside in
      let same = node_columns_are t p n r.form r.nodes in
      record {
        smallest = w.smallest (omega arith) ∙ ap lowest (ap (λ (m : ℕ). take m cs) (e ∙ sym l) ∙ take-length cs ∙ sym same);
        lags =
            (found-all (map least cs) low at k (omega arith) w.found (small at (omega arith))).1 ∙
            ap (λ (z : List (List ℕ)). least_at (map least z)) (sym same) ∙
            sym (lagging_columns t p r.form);
        below = omega arith;
      }

pub loop-q-init : goal.loop-q-init
loop-q-init c =
    let e = c.fill.ensures.len in
    begin c.args.row.now c.args.t.now c.args.p (length c.fill.new.self) (λ i. let f = c.type_inv.t i in omega arith) (rw e c.requires) c.fill.new.self
    (c.fill.ensures.after (λ y h. h) ∙ ap (λ (m : ℕ). replicate m 4294967295) (sym e))

pub loop-q-preserved : goal.loop-q-preserved
loop-q-preserved c =
    let e = c.fill.ensures.len in
    let row₀ = c.args.row.now in
    let t = c.args.t.now in
    let p = c.args.p in
    let n = length c.fill.new.self in
    let fits : (i : ℕ) → get_or t i 0 ≤ 4294967295 = λ i. let f = c.type_inv.t i in omega arith in
    let r : Lowers row₀ t p n = rw e c.requires in
    let q = c.loop-q.q in
    let row = c.loop-q.row in
    let low = c.loop-q.low in
    let at = c.loop-q.at in
    let next = c.lower_column-least.new.row in
    let v = c.lower_column-least.result in
    let told = c.lower_column-least.ensures in
    elim c.if-least-low.branch [
      | then-least-low w ↦
          less row₀ t p n fits r q (omega arith) row low at c.loop-q.auto.row c.loop-q.invariant next v c.if-least-low.low c.if-least-low.at told
          (omega arith) w.low-is w.at-is
      | else-least-low w ↦
          stays row₀ t p n fits r q (omega arith) row low at c.loop-q.auto.row c.loop-q.invariant next v c.if-least-low.low c.if-least-low.at told
          (omega arith) w.low-is w.at-is
    ]

pub returns : goal.returns
returns c =
    let e = c.fill.ensures.len in
    let long = c.loop-q.auto.q-end in
    rw (← e)
    (whole c.args.row.now c.args.t.now c.args.p (length c.fill.new.self) (λ i. let f = c.type_inv.t i in omega arith) (rw e c.requires) c.loop-q.q
    c.loop-q.row c.loop-q.low c.loop-q.at (omega arith) c.loop-q.invariant)
