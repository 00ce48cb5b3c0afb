-- Laws of putting a node piece by piece: what a few words written one after the other come to as a node put.
use mathlib.Core.Path.{◌≡◌, refl, sym, ap, ap₂, ◌∙◌}
use mathlib.Core.Bool.{Bool, not}
use mathlib.Core.List.{List, [], ◌∷◌, ◌++◌, append-nil, append_assoc}
use Prim.Native.Nat.{ℕ, zero, suc, ◌+◌, ◌-◌, ◌*◌, ◌≤◌, ◌<◌}
use native.Mathlib.Nat.{add-zero}
use native.Mathlib.Numerals.{towards_suc}
use native.Mathlib.Omega.{arith}
use lib.ListN.{length, get_or, set, take, drop, replicate, length-take, length-append, length-replicate, length-set}
use lib.Seq.{take-suc, take-take, drop-cons}
use Rattle.meaning.specs.declared.Record.{Record}
use Rattle.meaning.specs.Rows.{keep, record_at, records, words}
use Rattle.meaning.specs.Table.{
  Form,
  Vectors,
  Columns,
  Node,
  form_words,
  form_of,
  nodes_most,
  log_most,
  column_at,
  summary_at,
  acks_at,
  held_at,
  log_at,
  mark_at,
  acks_wide,
  columns_wide,
  part,
  place,
  columns_from,
  count,
  held,
  mark,
  node,
  lay,
  log_words,
  column_pieces,
  row_pieces,
  pieces,
  put_node,
  put_mark,
  Sound,
}
use Rattle.meaning.specs.Node.{wrote, purged}
use Rattle.meaning.proofs.PlaceLaws.{length-place, length_part, part_away, place-part, place-append, place_none, place_inner, set-place}
use Rattle.meaning.proofs.RowLaws.{length-words, length-keep, words_append, words-none}
use Rattle.meaning.proofs.PieceLaws.{lay-append}
use Rattle.meaning.proofs.ColumnLaws.{lay_columns_same, lay_columns_set}
use Rattle.meaning.proofs.TableLaws.{log_length}

-- four elements more of a beginning
take_four :
    (w : List ℕ) (m : ℕ) → m + 4 ≤ length w → take (m + 4) w ≡ take m w ++ (get_or w m 0 ∷ get_or w (m + 1) 0 ∷ get_or w (m + 2) 0 ∷ get_or w (m + 3) 0 ∷ [])
take_four w m h =
    let more : (i : ℕ) → i < length w → take (suc i) w ≡ take i w ++ (get_or w i 0 ∷ []) = λ i b. take-suc w i 0 b in
    let a = more m (omega arith) in
    let b = more (suc m) (omega arith) in
    let c = more (suc (suc m)) (omega arith) in
    let d = more (suc (suc (suc m))) (omega arith) in
    simp towards_suc (d ∙ rw (c, b, a) (simp append_assoc))

-- the words of the first k records of a log are its first 4k words
pub words-records : (k : ℕ) (w : List ℕ) → 4 * k ≤ length w → words (records k w) ≡ take (4 * k) w
unfolding records words record_at
words-records zero w h = refl
words-records (suc k) w h =
    let e : 4 * suc k ≡ 4 * k + 4 = omega arith in
    words_append (records k w) (record_at w k ∷ []) ∙
    ap (λ (z : List ℕ). z ++ words (record_at w k ∷ [])) (words-records k w (omega arith)) ∙
    sym (take_four w (4 * k) (omega arith)) ∙ ap (λ (m : ℕ). take m w) (sym e)

pub part-part : (at k m : ℕ) (t : List ℕ) → m ≤ k → take m (part at k t) ≡ part at m t
unfolding part
part-part at k m t h = take-take m k (drop at t) h

part_one : (i : ℕ) (v : List ℕ) → i < length v → part i 1 v ≡ get_or v i 0 ∷ []
unfolding part
part_one i v b = ap (take 1) (drop-cons v i 0 b)

held_word : (t : List ℕ) (p : ℕ) → get_or t (held_at (form_of t) p) 0 ≡ held t p
unfolding held
held_word t p = refl

-- Pieces of a node of a sound table, put into a list u that agrees with t there
module _ (t : List ℕ) (s : Sound t) (p : ℕ) (h : p < count t) where
  abbrev f : Form
  f = form_of t

  long : length t ≡ form_words f
  long = s.long

  high : count t ≤ nodes_most
  high = s.high

  room : held t p ≤ log_most
  room = s.room p h

  pub log_words_lem : words (node t p).log ≡ part (log_at (form_of t) p) (4 * held t p) t
  unfolding node
  log_words_lem =
      let l = long in
      let r = room in
      let g = high in
      let lp = length_part (log_at f p) (4 * log_most) t (omega arith) in
      words-records (held t p) (part (log_at f p) (4 * log_most) t) (omega arith) ∙ part-part (log_at f p) (4 * log_most) (4 * held t p) t (omega arith)

  -- records appended to the log
  pub put_log_more :
      (x : Node) (rs : List Record) → x.log ≡ (node t p).log ++ rs → held t p + length rs ≤ log_most →
      place (log_at f p) (log_words p x t) t ≡ place (log_at f p + 4 * held t p) (words rs) t
  put_log_more x rs e fits =
      let l = long in
      let g = high in
      let r = room in
      let ll = log_length t p in
      let la = length-append (node t p).log rs in
      let lx = ap length e in
      let lw = length-words rs in
      let lh = length_part (log_at f p) (4 * held t p) t (omega arith) in
      let z : 4 * (held t p - length x.log) ≡ 0 = omega arith in
      let w : log_words p x t ≡ part (log_at f p) (4 * held t p) t ++ words rs =
      ap₂ (λ (y : List Record) (m : ℕ). words y ++ replicate m 0) e z ∙
      append-nil (words ((node t p).log ++ rs)) ∙
      words_append (node t p).log rs ∙
      ap (λ (y : List ℕ). y ++ words rs) log_words_lem
      in
      ap (λ (y : List ℕ). place (log_at f p) y t) w ∙
      sym (place-append (log_at f p) (log_at f p + 4 * held t p) (part (log_at f p) (4 * held t p) t) (words rs) t (omega arith) (omega arith)) ∙
      ap (place (log_at f p + 4 * held t p) (words rs)) (place-part (log_at f p) (4 * held t p) t (omega arith))

  -- a word as it is, the held number and the mark
  put_word_same : (at : ℕ) (u : List ℕ) (k : ℕ) → length u ≡ form_words f → at < form_words f → get_or u at 0 ≡ k → place at (k ∷ []) u ≡ u
  put_word_same at u k lu inside e =
      let o : part at 1 u ≡ k ∷ [] = part_one at u (omega arith) ∙ ap (λ (m : ℕ). m ∷ []) e in
      ap (λ (y : List ℕ). place at y u) (sym o) ∙ place-part at 1 u (omega arith)

  pub put_held_same : (u : List ℕ) (k : ℕ) → length u ≡ form_words f → get_or u (held_at f p) 0 ≡ k → place (held_at f p) (k ∷ []) u ≡ u
  put_held_same u k lu e = let g = high in put_word_same (held_at f p) u k lu (omega arith) e

  pub put_mark_same : (k : ℕ) → k ≡ mark t p → put_mark p k t ≡ t
  unfolding put_mark mark
  put_mark_same k e = let g = high in put_word_same (mark_at f p) t k long (omega arith) (sym e)

  -- a row as it is, and a row with one entry changed
  pub put_row_same :
      (at : ℕ) (u : List ℕ) → at + nodes_most ≤ length u → part at (count t) u ≡ part at (count t) t → place at (part at (count t) t) u ≡ u
  put_row_same at u inside e =
      let g = high in
      ap (λ (y : List ℕ). place at y u) (sym e) ∙ place-part at (count t) u (omega arith)

  pub put_row-set :
      (at i j v : ℕ) (u : List ℕ) → j ≡ at + i → i < count t → at + nodes_most ≤ length u → part at (count t) u ≡ part at (count t) t →
      place at (set (part at (count t) t) i v) u ≡ place j (v ∷ []) u
  put_row-set at i j v u ej b inside e =
      let g = high in
      let lp = length_part at (count t) u (omega arith) in
      ap (λ (y : List ℕ). place at (set y i v) u) (sym e) ∙
      ap (λ (y : List ℕ). place at y u) (set-place (part at (count t) u) i v (omega arith)) ∙
      place_inner at (count t) i j (v ∷ []) u ej (omega arith) (omega arith)

  -- The rows of a node put into a list that agrees with t on all rows: as they are nothing changes, and with the own entry changed only that word is put
  module _ (u : List ℕ) where
    rows_as_are :
        (g : Form) → length u ≡ form_words g → ((at k : ℕ) → at + k ≤ held_at g 0 → part at k u ≡ part at k t) → (x : Node) →
        x.summary ≡ part (summary_at g p) (count t) t → x.acks ≡ part (acks_at p) (acks_wide g (count t)) t →
        x.columns ≡ columns_from (columns_wide g (count t)) (column_at p 0) (count t) t → lay (row_pieces g p x) u ≡ u
    unfolding lay
    rows_as_are Vectors lu same x e k c =
        let hi = high in
        ap₂ (λ (a b : List ℕ). place (summary_at Vectors p) a (place (acks_at p) b u)) e k ∙
        ap (place (summary_at Vectors p) (part (summary_at Vectors p) (count t) t))
        (put_row_same (acks_at p) u (omega arith) (same (acks_at p) (count t) (omega arith))) ∙
        put_row_same (summary_at Vectors p) u (omega arith) (same (summary_at Vectors p) (count t) (omega arith))
    rows_as_are Columns lu same x e k c =
        let hi = high in
        ap (λ (cs : List (List ℕ)). lay (column_pieces (column_at p 0) cs) u) c ∙
        lay_columns_same (count t) t u (count t) (column_at p 0) (omega arith) hi (λ q j b e. same j (count t) (omega arith))

    rows_with_own :
        (g : Form) → length u ≡ form_words g → ((at k : ℕ) → at + k ≤ held_at g 0 → part at k u ≡ part at k t) → (v : ℕ) (x : Node) →
        x.summary ≡ set (part (summary_at g p) (count t) t) p v → x.acks ≡ part (acks_at p) (acks_wide g (count t)) t →
        x.columns ≡ set (columns_from (columns_wide g (count t)) (column_at p 0) (count t) t) p (set (part (summary_at g p) (count t) t) p v) →
        lay (row_pieces g p x) u ≡ place (summary_at g p + p) (v ∷ []) u
    unfolding lay
    rows_with_own Vectors lu same v x e k c =
        let hi = high in
        ap₂ (λ (a b : List ℕ). place (summary_at Vectors p) a (place (acks_at p) b u)) e k ∙
        ap (place (summary_at Vectors p) (set (part (summary_at Vectors p) (count t) t) p v))
        (put_row_same (acks_at p) u (omega arith) (same (acks_at p) (count t) (omega arith))) ∙
        put_row-set (summary_at Vectors p) p (summary_at Vectors p + p) v u refl h (omega arith) (same (summary_at Vectors p) (count t) (omega arith))
    rows_with_own Columns lu same v x e k c =
        let hi = high in
        let fit : column_at p p + count t ≤ length u = omega arith in
        let row = same (column_at p p) (count t) (omega arith) in
        let y = set (part (column_at p p) (count t) t) p v in
        let ly = length-set (part (column_at p p) (count t) t) p v ∙ ap length (sym row) ∙ length_part (column_at p p) (count t) u fit in
        ap (λ (cs : List (List ℕ)). lay (column_pieces (column_at p 0) cs) u) c ∙
        lay_columns_set (count t) t u (count t) (column_at p 0) p (column_at p p) y (omega arith) hi ly h (omega arith)
        (λ q j b e. same j (count t) (omega arith)) ∙
        put_row-set (column_at p p) p (column_at p p + p) v u refl h (omega arith) row

    -- the same of the node that stands there
    pub rows_same :
        length u ≡ form_words (form_of t) → ((at k : ℕ) → at + k ≤ held_at (form_of t) 0 → part at k u ≡ part at k t) → (x : Node) →
        x.summary ≡ (node t p).summary → x.acks ≡ (node t p).acks → x.columns ≡ (node t p).columns → lay (row_pieces (form_of t) p x) u ≡ u
    unfolding node
    rows_same lu same x e k c = rows_as_are f lu same x e k c

    pub rows_own :
        length u ≡ form_words (form_of t) → ((at k : ℕ) → at + k ≤ held_at (form_of t) 0 → part at k u ≡ part at k t) → (v : ℕ) (x : Node) →
        x.summary ≡ set (node t p).summary p v → x.acks ≡ (node t p).acks →
        x.columns ≡ set (node t p).columns p (set (node t p).summary p v) →
        lay (row_pieces (form_of t) p x) u ≡ place (summary_at (form_of t) p + p) (v ∷ []) u
    unfolding node
    rows_own lu same v x e k c = rows_with_own f lu same v x e k c

  -- The table with records appended to p's log, its rows untouched
  abbrev pub grown : List Record → List ℕ
  grown rs = place (held_at f p) ((held t p + length rs) ∷ []) (place (log_at f p + 4 * held t p) (words rs) t)

  module _ (rs : List Record) (fits : held t p + length rs ≤ log_most) where
    fit₁ : log_at f p + 4 * held t p + length (words rs) ≤ length t
    fit₁ =
        let l = long in
        let g = high in
        let lw = length-words rs in
        omega arith

    long₁ : length (place (log_at f p + 4 * held t p) (words rs) t) ≡ form_words f
    long₁ = length-place (log_at f p + 4 * held t p) (words rs) t fit₁ ∙ long

    fit₂ : held_at f p + 1 ≤ length (place (log_at f p + 4 * held t p) (words rs) t)
    fit₂ =
        let l = long₁ in
        let g = high in
        omega arith

    pub grown_long : length (grown rs) ≡ form_words f
    grown_long = length-place (held_at f p) ((held t p + length rs) ∷ []) (place (log_at f p + 4 * held t p) (words rs) t) fit₂ ∙ long₁

    pub grown-part : (at k : ℕ) → at + k ≤ held_at f 0 → part at k (grown rs) ≡ part at k t
    grown-part at k inside =
        let l = long in
        let l₁ = long₁ in
        let g = high in
        part_away at k (held_at f p) ((held t p + length rs) ∷ []) (place (log_at f p + 4 * held t p) (words rs) t) fit₂ (omega arith) (λ a b. omega arith) ∙
        part_away at k (log_at f p + 4 * held t p) (words rs) t fit₁ (omega arith) (λ a b. omega arith)

    -- a node whose log has grown by these records, put piece by piece
    pub put_grown : (x : Node) → x.log ≡ (node t p).log ++ rs → put_node p x t ≡ lay (row_pieces (form_of t) p x) (grown rs)
    unfolding put_node pieces lay
    put_grown x e =
        let ll = log_length t p in
        let la = length-append (node t p).log rs in
        let lx = ap length e in
        let k : length x.log ≡ held t p + length rs = omega arith in
        lay-append (row_pieces f p x) _ t ∙
        ap (lay (row_pieces f p x)) (ap₂ (λ (m : ℕ) (u : List ℕ). place (held_at f p) (m ∷ []) u) k (put_log_more x rs e fits))

  -- nothing appended
  pub grown-none : grown [] ≡ t
  grown-none =
      let l = long in
      ap (λ (u : List ℕ). place (held_at f p) ((held t p + 0) ∷ []) u)
      (ap (λ (w : List ℕ). place (log_at f p + 4 * held t p) w t) words-none ∙ place_none (log_at f p + 4 * held t p) t) ∙
      put_held_same t (held t p + 0) l (held_word t p ∙ sym (add-zero (held t p)))

  -- Write: a record put behind the last, the held number, the own entry
  pub write_put :
      (c b v : ℕ) → held t p < log_most →
      place (summary_at (form_of t) p + p) (c ∷ [])
      (place (held_at (form_of t) p) ((held t p + 1) ∷ [])
      (place (log_at (form_of t) p + 4 * held t p) (words (record { origin = p; timestamp = c; block = b; verdict = v } ∷ [])) t)) ≡
      put_node p (wrote p c b v (node t p)) t
  unfolding wrote
  write_put c b v below =
      let r : Record = record { origin = p; timestamp = c; block = b; verdict = v } in
      sym
      (put_grown (r ∷ []) (omega arith) (wrote p c b v (node t p)) refl ∙
      rows_own (grown (r ∷ [])) (grown_long (r ∷ []) (omega arith)) (grown-part (r ∷ []) (omega arith)) c (wrote p c b v (node t p)) refl refl refl)

  -- Purge: the records left closed up, zeros over the freed rows, the held number
  pub purge_put :
      (leaves : Record → Bool) (k : ℕ) → k ≡ length (keep (λ r. not (leaves r)) (node t p).log) →
      place (held_at (form_of t) p) (k ∷ [])
      (place (log_at (form_of t) p + 4 * k) (replicate (4 * (held t p - k)) 0)
      (place (log_at (form_of t) p) (words (keep (λ r. not (leaves r)) (node t p).log)) t)) ≡
      put_node p (purged leaves (node t p)) t
  unfolding put_node pieces lay purged
  purge_put leaves k e =
      let l = long in
      let g = high in
      let r = room in
      let x : Node = purged leaves (node t p) in
      let rs : List Record = keep (λ r. not (leaves r)) (node t p).log in
      let z : List ℕ = replicate (4 * (held t p - k)) 0 in
      let lw = length-words rs in
      let lz : length z ≡ 4 * (held t p - k) = length-replicate (4 * (held t p - k)) 0 in
      let few = length-keep (λ (y : Record). not (leaves y)) (node t p).log in
      let ll = log_length t p in
      let ly = length-append (words rs) z in
      let u : List ℕ = place (log_at f p) (words rs ++ z) t in
      let fu : log_at f p + length (words rs ++ z) ≤ length t = omega arith in
      let lu : length u ≡ form_words f = length-place (log_at f p) (words rs ++ z) t fu ∙ l in
      let v : List ℕ = place (held_at f p) (k ∷ []) u in
      let fv : held_at f p + 1 ≤ length u = omega arith in
      let lv : length v ≡ form_words f = length-place (held_at f p) (k ∷ []) u fv ∙ lu in
      let kept : (at m : ℕ) → at + m ≤ held_at f 0 → part at m v ≡ part at m t =
      λ at m inside.
      part_away at m (held_at f p) (k ∷ []) u fv (omega arith) (λ a b. omega arith) ∙
      part_away at m (log_at f p) (words rs ++ z) t fu (omega arith) (λ a b. omega arith)
      in
      ap (place (held_at f p) (k ∷ [])) (place-append (log_at f p) (log_at f p + 4 * k) (words rs) z t (omega arith) (omega arith)) ∙
      sym
      (lay-append (row_pieces f p x) _ t ∙
      ap (λ (m : ℕ). lay (row_pieces f p x) (place (held_at f p) (m ∷ []) (place (log_at f p) (words rs ++ replicate (4 * (held t p - m)) 0) t))) (sym e) ∙
      rows_same v lv kept x refl refl refl)

  -- The rows put, the log as it was
  pub settle_put : (x : Node) → x.log ≡ (node t p).log → lay (row_pieces (form_of t) p x) t ≡ put_node p x t
  settle_put x e =
      let r = room in
      sym
      (put_grown [] (omega arith) x (e ∙ sym (append-nil (node t p).log)) ∙ ap (lay (row_pieces f p x)) grown-none)

-- a beginning as long as asked for says how long the list is at least
pub long_enough : (n : ℕ) (xs : List ℕ) → length (take n xs) ≡ n → n ≤ length xs
long_enough n xs h =
    let l = length-take n xs in
    omega arith
