-- Laws of a table, its nodes and its marks: a node or a mark that was put is read again, every other is as it was, and soundness is kept.
use mathlib.Core.Path.{◌≡◌, refl, sym, ap, ◌∙◌}
use mathlib.Core.Bool.{Bool, true, false, not, ◌&&◌, cond}
use mathlib.Core.List.{List, [], ◌∷◌, ◌++◌, Memᴰ}
use Prim.Native.Nat.{ℕ, ◌+◌, ◌-◌, ◌*◌, ◌≤◌, ◌<◌}
use native.Mathlib.Decide.{ℕ_discrete}
use native.Mathlib.Omega.{arith}
use borrow.Author.Tests.{leb-true, ltb-true, eqb-true, le-leb, eq-eqb, ne_eqb}
use lib.ListN.{length, get_or, replicate, length-append, length-replicate, get_or-append}
use lib.Dec.{leb, ltb, eqb}
use Rattle.meaning.specs.declared.Record.{Record}
use Rattle.meaning.specs.Rows.{every, all, records, words}
use Rattle.meaning.specs.Refusals.{first}
use Rattle.meaning.specs.Table.{
  Form,
  Vectors,
  Columns,
  Node,
  rows_most,
  form_words,
  form_of,
  nodes_most,
  log_most,
  count_at,
  column_at,
  summary_at,
  acks_at,
  held_at,
  log_at,
  mark_at,
  acks_wide,
  columns_wide,
  part,
  columns_from,
  count,
  held,
  mark,
  node,
  Piece,
  piece,
  lay,
  log_words,
  row_pieces,
  pieces,
  put_node,
  put_mark,
  count_right,
  length_right,
  fresh_refusal,
  record_sound,
  log_sound,
  sound,
  Sound,
  Shaped,
}
use Rattle.meaning.proofs.PlaceLaws.{get_d_part, get_or_within, get_or_away, length_part, length-place, part_away}
use Rattle.meaning.proofs.PieceLaws.{
  Region,
  region,
  Apart,
  Apart-nil,
  Apart-cons,
  Inside,
  Disjoint,
  Disjoint-nil,
  Disjoint-cons,
  Fills,
  Fills-nil,
  Fills-cons,
  Between,
  Between-nil,
  Between-cons,
  apart_between,
  inside_between,
  apart_append,
  inside_append,
  disjoint_append,
  fills_append,
  among_left,
  among_right,
  length-lay,
  lay_away,
  lay_word,
  lay_back,
}
use Rattle.meaning.proofs.ColumnLaws.{
  column_regions,
  between_columns,
  disjoint_columns,
  fills_columns,
  among_columns,
  length_columns,
  get_or_columns,
  columns_are,
  columns_same,
}
use Rattle.meaning.proofs.RowLaws.{
  and_left,
  and_right,
  and_both,
  every-records,
  every_at,
  every-all,
  length-records,
  length-words,
  records_agree,
  records-words,
}

-- a right record's origin is a node
pub origin_below : (n : ℕ) (r : Record) → record_sound n r ≡ true → r.origin < n
unfolding record_sound
origin_below n r h = ltb-true r.origin n (and_left (ltb r.origin n) (leb r.verdict 255) h)

pub log_length : (t : List ℕ) (p : ℕ) → length (node t p).log ≡ held t p
unfolding node
log_length t p = length-records (held t p) (part (log_at (form_of t) p) (4 * log_most) t)

pub held_log_lem : (t : List ℕ) (p : ℕ) → held t p ≡ length (node t p).log
held_log_lem t p = sym (log_length t p)

log_sound_is : (t : List ℕ) (p : ℕ) → log_sound t p ≡ (leb (held t p) log_most && all (record_sound (count t)) (node t p).log)
unfolding log_sound node
log_sound_is t p =
    ap (λ (b : Bool). leb (held t p) log_most && b) (every-records (held t p) (record_sound (count t)) (part (log_at (form_of t) p) (4 * log_most) t))

pub sound_facts : (t : List ℕ) → sound t ≡ true → Sound t
unfolding sound
sound_facts t h =
    let a = and_left (length_right t) (count_right (count t) && every (count t) (log_sound t)) h in
    let b = and_right (length_right t) (count_right (count t) && every (count t) (log_sound t)) h in
    let c = and_left (count_right (count t)) (every (count t) (log_sound t)) b in
    let e = and_right (count_right (count t)) (every (count t) (log_sound t)) b in
    record {
      long = eqb-true (length t) (form_words (form_of t)) a;
      low = leb-true 2 (count t) (and_left (leb 2 (count t)) (leb (count t) nodes_most) c);
      high = leb-true (count t) nodes_most (and_right (leb 2 (count t)) (leb (count t) nodes_most) c);
      room = λ p q.
          leb-true (held t p) log_most
          (and_left (leb (held t p) log_most) (all (record_sound (count t)) (node t p).log) (sym (log_sound_is t p) ∙ every_at (count t) (log_sound t) e p q));
      right = λ p q.
          and_right (leb (held t p) log_most) (all (record_sound (count t)) (node t p).log) (sym (log_sound_is t p) ∙ every_at (count t) (log_sound t) e p q);
    }

pub facts_sound : (t : List ℕ) → Sound t → sound t ≡ true
unfolding sound
facts_sound t s =
    and_both (length_right t) (count_right (count t) && every (count t) (log_sound t)) (eq-eqb (length t) (form_words (form_of t)) s.long)
    (and_both (count_right (count t)) (every (count t) (log_sound t))
    (and_both (leb 2 (count t)) (leb (count t) nodes_most) (le-leb 2 (count t) s.low) (le-leb (count t) nodes_most s.high))
    (every-all (count t) (log_sound t)
    (λ p q.
    log_sound_is t p ∙
    and_both (leb (held t p) log_most) (all (record_sound (count t)) (node t p).log) (le-leb (held t p) log_most (s.room p q)) (s.right p q))))

-- The refusals of a fresh table's making
module _ (t : List ℕ) (n : ℕ) where
  pub fresh-count_wrong : count_right n ≡ false → fresh_refusal t n ≡ 1
  unfolding fresh_refusal first
  fresh-count_wrong h = rw h

  pub fresh-length_wrong : (length t ≡ form_words (form_of t) → ⊥) → fresh_refusal t n ≡ 1
  unfolding fresh_refusal first
  fresh-length_wrong h = rw (ne_eqb (length t) (form_words (form_of t)) h) (go (count_right n) 1)
    where
      go : (b : Bool) (k : ℕ) → cond (not b) k k ≡ k
      go true k = refl
      go false k = refl

  pub fresh_right : count_right n ≡ true → length t ≡ form_words (form_of t) → fresh_refusal t n ≡ 0
  unfolding fresh_refusal first
  fresh_right c l = rw (c, eq-eqb (length t) (form_words (form_of t)) l)

-- The form is told by the length alone
pub form_same : (t u : List ℕ) → length t ≡ length u → form_of t ≡ form_of u
unfolding form_of
form_same t u e = ap (λ (k : ℕ). cond (eqb k (form_words Columns)) Columns Vectors) e

pub form_is : (f : Form) (t : List ℕ) → length t ≡ form_words f → form_of t ≡ f
unfolding form_of
form_is Vectors t e = rw e
form_is Columns t e = rw e

-- a length that is neither form's is no table's
pub form_neither : (t : List ℕ) → (length t ≡ form_words Vectors → ⊥) → (length t ≡ form_words Columns → ⊥) → length t ≡ form_words (form_of t) → ⊥
form_neither t a b = go (form_of t)
  where
    go : (f : Form) → length t ≡ form_words f → ⊥
    go Vectors = a
    go Columns = b

acks_long_lem : (f : Form) (n p : ℕ) (t : List ℕ) → n ≤ nodes_most → p < n → length t ≡ form_words f →
    length (part (acks_at p) (acks_wide f n) t) ≡ acks_wide f n
acks_long_lem Vectors n p t hn hp e = length_part (acks_at p) n t (omega arith)
acks_long_lem Columns n p t hn hp e = length_part (acks_at p) 0 t (omega arith)

summary_long_lem : (f : Form) (n p : ℕ) (t : List ℕ) → n ≤ nodes_most → p < n → length t ≡ form_words f → length (part (summary_at f p) n t) ≡ n
summary_long_lem Vectors n p t hn hp e = length_part (summary_at Vectors p) n t (omega arith)
summary_long_lem Columns n p t hn hp e = length_part (summary_at Columns p) n t (omega arith)

column_long_lem :
    (f : Form) (n p : ℕ) (t : List ℕ) → n ≤ nodes_most → p < n → length t ≡ form_words f → (q : ℕ) → q < columns_wide f n →
    length (get_or (columns_from (columns_wide f n) (column_at p 0) n t) q []) ≡ n
column_long_lem Vectors n p t hn hp e q h = absurd (omega arith)
column_long_lem Columns n p t hn hp e q h =
    ap length (get_or_columns n (column_at p 0) n t q (column_at p q) h (omega arith)) ∙ length_part (column_at p q) n t (omega arith)

column_own_lem :
    (f : Form) (n p : ℕ) (t : List ℕ) → p < columns_wide f n → get_or (columns_from (columns_wide f n) (column_at p 0) n t) p [] ≡ part (summary_at f p) n t
column_own_lem Vectors n p t h = absurd (omega arith)
column_own_lem Columns n p t h = get_or_columns n (column_at p 0) n t p (column_at p p) h (omega arith)

-- how many acknowledgements and columns a node of a table of a right length has, whatever its logs hold
pub node_acks :
    (t : List ℕ) (p : ℕ) → length t ≡ form_words (form_of t) → count t ≤ nodes_most → p < count t → length (node t p).acks ≡ acks_wide (form_of t) (count t)
unfolding node
node_acks t p l hi h = acks_long_lem (form_of t) (count t) p t hi h l

pub node_columns : (t : List ℕ) (p : ℕ) → length (node t p).columns ≡ columns_wide (form_of t) (count t)
unfolding node
node_columns t p = length_columns (columns_wide (form_of t) (count t)) (column_at p 0) (count t) t

pub node_shaped : (t : List ℕ) → Sound t → (p : ℕ) → p < count t → Shaped (form_of t) (count t) p (node t p)
unfolding node
node_shaped t s p h =
    let f = form_of t in
    let n = count t in
    let l = s.long in
    let hi = s.high in
    let cs = length_columns (columns_wide f n) (column_at p 0) n t in
    record {
      summary_long = summary_long_lem f n p t hi h l;
      acks_long = acks_long_lem f n p t hi h l;
      columns_long = cs;
      column_long = λ q j. column_long_lem f n p t hi h l q (omega arith);
      column_own = λ j. column_own_lem f n p t (omega arith);
      log_short =
          let r = s.room p h in
          let e = log_length t p in
          omega arith;
    }

length-log_words : (p : ℕ) (x : Node) (t : List ℕ) → length x.log ≤ log_most → held t p ≤ log_most → length (log_words p x t) ≤ 4 * log_most
length-log_words p x t a b =
    let e = length-append (words x.log) (replicate (4 * (held t p - length x.log)) 0) in
    let f = length-words x.log in
    let g = length-replicate (4 * (held t p - length x.log)) zero_word in
    omega arith
  where
    zero_word : ℕ
    zero_word = 0

-- Where the pieces of node p of n stand, and how many words each has at most
abbrev summary_of : ℕ → ℕ → Region
summary_of n p = region (summary_at Vectors p) n

abbrev acks_of : ℕ → ℕ → Region
acks_of n p = region (acks_at p) n

abbrev rows_of : Form → ℕ → ℕ → List Region
rows_of Vectors n p = summary_of n p ∷ acks_of n p ∷ []
rows_of Columns n p = column_regions n (column_at p 0) n

abbrev held_of : Form → ℕ → Region
held_of f p = region (held_at f p) 1

abbrev log_of : Form → ℕ → Region
log_of f p = region (log_at f p) (4 * log_most)

abbrev rest_of : Form → ℕ → List Region
rest_of f p = held_of f p ∷ log_of f p ∷ []

abbrev pub regions : Form → ℕ → ℕ → List Region
regions f n p = rows_of f n p ++ rest_of f p

-- the rows stand after the count, the rest after all rows
between_rows : (f : Form) (n p : ℕ) → n ≤ nodes_most → p < nodes_most → Between 1 (1 + rows_most f) (rows_of f n p)
between_rows Vectors n p hn hp =
    Between-cons {r = summary_of n p} (omega arith) (omega arith) (Between-cons {r = acks_of n p} (omega arith) (omega arith) Between-nil)
between_rows Columns n p hn hp = between_columns n (column_at p 0) n 1 4097 hn (omega arith) (omega arith)

between_rest : (f : Form) (p : ℕ) → p < nodes_most → Between (1 + rows_most f) (form_words f) (rest_of f p)
between_rest f p hp =
    Between-cons {r = held_of f p} (omega arith) (omega arith) (Between-cons {r = log_of f p} (omega arith) (omega arith) Between-nil)

disjoint_rows : (f : Form) (n p : ℕ) → n ≤ nodes_most → p < nodes_most → Disjoint (rows_of f n p)
disjoint_rows Vectors n p hn hp =
    Disjoint-cons {r = summary_of n p} (Apart-cons {r = acks_of n p} (omega arith) Apart-nil) (Disjoint-cons {r = acks_of n p} Apart-nil Disjoint-nil)
disjoint_rows Columns n p hn hp = disjoint_columns n (column_at p 0) n hn

disjoint_node : (f : Form) (n p : ℕ) → n ≤ nodes_most → p < nodes_most → Disjoint (regions f n p)
disjoint_node f n p hn hp =
    disjoint_append 1 (1 + rows_most f) (form_words f) (rows_of f n p) (rest_of f p)
    (between_rows f n p hn hp) (disjoint_rows f n p hn hp) (between_rest f p hp)
    (Disjoint-cons {r = held_of f p} (Apart-cons {r = log_of f p} (omega arith) Apart-nil) (Disjoint-cons {r = log_of f p} Apart-nil Disjoint-nil))

inside_node : (f : Form) (n p m : ℕ) → n ≤ nodes_most → p < nodes_most → m ≡ form_words f → Inside m (regions f n p)
inside_node f n p m hn hp e =
    inside_append m (rows_of f n p) (rest_of f p) (inside_between 1 (1 + rows_most f) m (rows_of f n p) (between_rows f n p hn hp) (omega arith))
    (inside_between (1 + rows_most f) (form_words f) m (rest_of f p) (between_rest f p hp) (omega arith))

-- what stands before or after all rows and meets neither the held number nor the log is away from them all
pub apart_node :
    (f : Form) (n p a k : ℕ) → n ≤ nodes_most → p < nodes_most →
    (a < 1 + rows_most f → 1 < a + k → ⊥) →
    (a < held_at f p + 1 → held_at f p < a + k → ⊥) →
    (a < log_at f p + 4 * log_most → log_at f p < a + k → ⊥) →
    Apart a k (regions f n p)
apart_node f n p a k hn hp rows h₁ h₂ =
    apart_append a k (rows_of f n p) (rest_of f p) (apart_between 1 (1 + rows_most f) a k (rows_of f n p) (between_rows f n p hn hp) rows)
    (Apart-cons {r = held_of f p} h₁ (Apart-cons {r = log_of f p} h₂ Apart-nil))

-- and so is what stands within the rows and meets none of this node's
apart_row :
    (f : Form) (n p a k : ℕ) → a + k ≤ 1 + rows_most f → Apart a k (rows_of f n p) → Apart a k (regions f n p)
apart_row f n p a k inside rows =
    apart_append a k (rows_of f n p) (rest_of f p) rows
    (Apart-cons {r = held_of f p} (λ u v. omega arith) (Apart-cons {r = log_of f p} (λ u v. omega arith) Apart-nil))

-- a column of another node
apart_column :
    (n p q i : ℕ) → n ≤ nodes_most → p < nodes_most → q < nodes_most → i < nodes_most → (q ≡ p → ⊥) → Apart (column_at q i) n (regions Columns n p)
apart_column n p q i hn hp hq hi other =
    apart_row Columns n p (column_at q i) n (omega arith)
    (apart_between (column_at p 0) (column_at p 16) (column_at q i) n (column_regions n (column_at p 0) n)
    (between_columns n (column_at p 0) n (column_at p 0) (column_at p 16) hn (omega arith) (omega arith))
    (λ u v. other (omega arith)))

-- The words of a node laid over a table of this form
module _ (f : Form) (t : List ℕ) (long : length t ≡ form_words f) (high : count t ≤ nodes_most) (p : ℕ) (h : p < count t) (room : held t p ≤ log_most)
    (x : Node) (fits : Shaped f (count t) p x) where
  here : p < nodes_most
  here = omega arith

  -- the table with them
  laid : List ℕ
  laid = lay (pieces f p x t) t

  fills_rows : (g : Form) → Shaped g (count t) p x → Fills (row_pieces g p x) (rows_of g (count t) p)
  fills_rows Vectors y =
      Fills-cons {x = piece (summary_at Vectors p) x.summary} {r = summary_of (count t) p} refl (omega (arith, y.summary_long))
      (Fills-cons {x = piece (acks_at p) x.acks} {r = acks_of (count t) p} refl (omega (arith, y.acks_long)) Fills-nil)
  fills_rows Columns y = fills_columns x.columns (count t) (column_at p 0) (count t) y.columns_long y.column_long

  fills : Fills (pieces f p x t) (regions f (count t) p)
  unfolding pieces
  fills =
      fills_append (row_pieces f p x) _ (rows_of f (count t) p) (rest_of f p) (fills_rows f fits)
      (Fills-cons {x = piece (held_at f p) (length x.log ∷ [])} {r = held_of f p} refl (omega arith)
      (Fills-cons {x = piece (log_at f p) (log_words p x t)} {r = log_of f p} refl (length-log_words p x t fits.log_short room) Fills-nil))

  inside : Inside (length t) (regions f (count t) p)
  inside = inside_node f (count t) p (length t) high here long

  laid_long : length laid ≡ length t
  unfolding laid
  laid_long = length-lay (pieces f p x t) (regions f (count t) p) t fills inside

  -- a part, or a word, that meets no piece of the node is as it was
  laid_part_away : (a k : ℕ) → a + k ≤ form_words f → Apart a k (regions f (count t) p) → part a k laid ≡ part a k t
  unfolding laid
  laid_part_away a k within apart = lay_away (pieces f p x t) (regions f (count t) p) t fills inside a k (omega arith) apart

  laid_word_away : (i : ℕ) → Apart i 1 (regions f (count t) p) → get_or laid i 0 ≡ get_or t i 0
  unfolding laid
  laid_word_away i apart = lay_word (pieces f p x t) (regions f (count t) p) t fills inside i apart

  -- a piece of the node is read again
  laid_back : (y : Piece) → Memᴰ y (pieces f p x t) → part y.at (length y.new) laid ≡ y.new
  unfolding laid
  laid_back y m = lay_back (pieces f p x t) (regions f (count t) p) t fills inside (disjoint_node f (count t) p high here) y m

  laid_row : (y : Piece) → Memᴰ y (row_pieces f p x) → part y.at (length y.new) laid ≡ y.new
  unfolding pieces
  laid_row y m = laid_back y (among_left y (row_pieces f p x) _ m)

  laid_count : get_or laid count_at 0 ≡ count t
  unfolding count
  laid_count =
      let hi = here in
      laid_word_away count_at (apart_node f (count t) p count_at 1 high here (λ u v. omega arith) (λ u v. omega arith) (λ u v. omega arith))

  laid_held : get_or laid (held_at f p) 0 ≡ length x.log
  unfolding pieces
  laid_held =
      sym (get_d_part (held_at f p) 1 laid 0 (held_at f p) (omega arith) (omega arith)) ∙
      ap (λ (l : List ℕ). get_or l 0 0)
      (laid_back (piece (held_at f p) (length x.log ∷ [])) (among_right _ (row_pieces f p x) _ (Memᴰ.head refl)))

  laid_log : part (log_at f p) (length (log_words p x t)) laid ≡ log_words p x t
  unfolding pieces
  laid_log = laid_back (piece (log_at f p) (log_words p x t)) (among_right _ (row_pieces f p x) _ (Memᴰ.tail (Memᴰ.head refl)))

  laid_records : (m : ℕ) → m < 4 * length x.log → get_or (part (log_at f p) (4 * log_most) laid) m 0 ≡ get_or (words x.log ++ []) m 0
  laid_records m b =
      let w = words x.log in
      let z : List ℕ = replicate (4 * (held t p - length x.log)) 0 in
      let lw = length-words x.log in
      let la = length-append w z in
      let ls = fits.log_short in
      get_d_part (log_at f p) (4 * log_most) laid m (log_at f p + m) refl (omega arith) ∙
      sym (get_d_part (log_at f p) (length (log_words p x t)) laid m (log_at f p + m) refl (omega arith)) ∙
      ap (λ (l : List ℕ). get_or l m 0) laid_log ∙
      get_or-append w z 0 m (omega arith) ∙
      sym (get_or-append w [] 0 m (omega arith))

  -- the log, the summary, the acknowledgements and the columns are read again
  laid_log_same : records (length x.log) (part (log_at f p) (4 * log_most) laid) ≡ x.log
  laid_log_same =
      records_agree (length x.log) (part (log_at f p) (4 * log_most) laid) (words x.log ++ []) laid_records ∙ records-words x.log []

-- each row is read again
module _ (t : List ℕ) (high : count t ≤ nodes_most) (p : ℕ) (h : p < count t) (room : held t p ≤ log_most) (x : Node) where
  columns_again :
      (long : length t ≡ form_words Columns) (fits : Shaped Columns (count t) p x) (q j : ℕ) → q < count t → j ≡ column_at p 0 + 16 * q →
      part j (count t) (laid Columns t long high p h room x fits) ≡ get_or x.columns q []
  columns_again long fits q j b e =
      let cs = fits.columns_long in
      let l = fits.column_long q (omega arith) in
      ap (λ (m : ℕ). part j m (laid Columns t long high p h room x fits)) (sym l) ∙
      laid_row Columns t long high p h room x fits (piece j (get_or x.columns q [])) (among_columns x.columns (column_at p 0) q j (omega arith) e)

  laid_columns :
      (f : Form) (long : length t ≡ form_words f) (fits : Shaped f (count t) p x) →
      columns_from (columns_wide f (count t)) (column_at p 0) (count t) (laid f t long high p h room x fits) ≡ x.columns
  laid_columns Vectors long fits =
      columns_are x.columns 0 (column_at p 0) (count t) _ fits.columns_long (λ q j b e. absurd (omega arith))
  laid_columns Columns long fits =
      columns_are x.columns (count t) (column_at p 0) (count t) _ fits.columns_long (columns_again long fits)

  laid_summary :
      (f : Form) (long : length t ≡ form_words f) (fits : Shaped f (count t) p x) →
      part (summary_at f p) (count t) (laid f t long high p h room x fits) ≡ x.summary
  laid_summary Vectors long fits =
      ap (λ (m : ℕ). part (summary_at Vectors p) m (laid Vectors t long high p h room x fits)) (sym fits.summary_long) ∙
      laid_row Vectors t long high p h room x fits (piece (summary_at Vectors p) x.summary) (Memᴰ.head refl)
  laid_summary Columns long fits =
      let cs = fits.columns_long in
      columns_again long fits p (column_at p p) h (omega arith) ∙ fits.column_own (omega arith)

  no_words : (u ys : List ℕ) → length ys ≡ 0 → part (acks_at p) 0 u ≡ ys
  unfolding part
  no_words u [] e = refl
  no_words u (y ∷ ys) e = absurd (omega arith)

  laid_acks :
      (f : Form) (long : length t ≡ form_words f) (fits : Shaped f (count t) p x) →
      part (acks_at p) (acks_wide f (count t)) (laid f t long high p h room x fits) ≡ x.acks
  laid_acks Vectors long fits =
      ap (λ (m : ℕ). part (acks_at p) m (laid Vectors t long high p h room x fits)) (sym fits.acks_long) ∙
      laid_row Vectors t long high p h room x fits (piece (acks_at p) x.acks) (Memᴰ.tail (Memᴰ.head refl))
  laid_acks Columns long fits = no_words _ x.acks fits.acks_long

  -- another node's rows are as they were
  module _ (q : ℕ) (j : q < count t) (other : q ≡ p → ⊥) where
    laid_summary_other :
        (f : Form) (long : length t ≡ form_words f) (fits : Shaped f (count t) p x) →
        part (summary_at f q) (count t) (laid f t long high p h room x fits) ≡ part (summary_at f q) (count t) t
    laid_summary_other Vectors long fits =
        laid_part_away Vectors t long high p h room x fits (summary_at Vectors q) (count t) (omega arith)
        (apart_row Vectors (count t) p (summary_at Vectors q) (count t) (omega arith)
        (Apart-cons {r = summary_of (count t) p} (λ u v. other (omega arith)) (Apart-cons {r = acks_of (count t) p} (λ u v. omega arith) Apart-nil)))
    laid_summary_other Columns long fits =
        laid_part_away Columns t long high p h room x fits (summary_at Columns q) (count t) (omega arith)
        (apart_column (count t) p q q high (omega arith) (omega arith) (omega arith) other)

    laid_acks_other :
        (f : Form) (long : length t ≡ form_words f) (fits : Shaped f (count t) p x) →
        part (acks_at q) (acks_wide f (count t)) (laid f t long high p h room x fits) ≡ part (acks_at q) (acks_wide f (count t)) t
    unfolding part
    laid_acks_other Vectors long fits =
        laid_part_away Vectors t long high p h room x fits (acks_at q) (count t) (omega arith)
        (apart_row Vectors (count t) p (acks_at q) (count t) (omega arith)
        (Apart-cons {r = summary_of (count t) p} (λ u v. omega arith) (Apart-cons {r = acks_of (count t) p} (λ u v. other (omega arith)) Apart-nil)))
    laid_acks_other Columns long fits = refl

    laid_columns_other :
        (f : Form) (long : length t ≡ form_words f) (fits : Shaped f (count t) p x) →
        columns_from (columns_wide f (count t)) (column_at q 0) (count t) (laid f t long high p h room x fits) ≡
        columns_from (columns_wide f (count t)) (column_at q 0) (count t) t
    laid_columns_other Vectors long fits = columns_same 0 (column_at q 0) (count t) t _ (λ i k b e. absurd (omega arith))
    laid_columns_other Columns long fits =
        columns_same (count t) (column_at q 0) (count t) t _
        (λ i k b e.
        let at : k ≡ column_at q i = omega arith in
        rw at
        (laid_part_away Columns t long high p h room x fits (column_at q i) (count t) (omega arith)
        (apart_column (count t) p q i high (omega arith) (omega arith) (omega arith) other)))

-- A node put into a sound table, one that fits it
module _ (t : List ℕ) (s : Sound t) (p : ℕ) (h : p < count t) (x : Node) (fits : Shaped (form_of t) (count t) p x) where
  abbrev f : Form
  f = form_of t

  put_same : put_node p x t ≡ laid f t s.long s.high p h (s.room p h) x fits
  unfolding put_node laid
  put_same = refl

  below : p < nodes_most
  below = omega (arith, s.high)

  put_length : length (put_node p x t) ≡ length t
  put_length = ap length put_same ∙ laid_long f t s.long s.high p h (s.room p h) x fits

  pub put_form : form_of (put_node p x t) ≡ form_of t
  put_form = form_same (put_node p x t) t put_length

  pub put_long : length (put_node p x t) ≡ form_words (form_of t)
  put_long = put_length ∙ s.long

  -- a part, or a word, that meets no piece of the node is as it was
  pub put_part_away : (a k : ℕ) → a + k ≤ form_words (form_of t) → Apart a k (regions (form_of t) (count t) p) → part a k (put_node p x t) ≡ part a k t
  put_part_away a k within apart = rw put_same (laid_part_away f t s.long s.high p h (s.room p h) x fits a k within apart)

  pub put_word_away : (i : ℕ) → Apart i 1 (regions (form_of t) (count t) p) → get_or (put_node p x t) i 0 ≡ get_or t i 0
  put_word_away i apart = rw put_same (laid_word_away f t s.long s.high p h (s.room p h) x fits i apart)

  pub put_count : count (put_node p x t) ≡ count t
  unfolding count
  put_count = rw put_same (laid_count f t s.long s.high p h (s.room p h) x fits)

  pub put_held : held (put_node p x t) p ≡ length x.log
  unfolding held
  put_held = rw put_form (rw put_same (laid_held f t s.long s.high p h (s.room p h) x fits))

  -- every mark is as it was
  pub mark_put : (q : ℕ) → mark (put_node p x t) q ≡ mark t q
  unfolding mark
  mark_put q =
      let l = below in
      rw put_form
      (put_word_away (mark_at f q) (apart_node f (count t) p (mark_at f q) 1 s.high below (λ u v. omega arith) (λ u v. omega arith) (λ u v. omega arith)))

  -- the node that was put is read again
  pub node_same : node (put_node p x t) p ≡ x
  unfolding node
  node_same =
      let u = put_node p x t in
      let e : part (summary_at (form_of u) p) (count u) u ≡ x.summary =
      rw (put_form, put_count) (rw put_same (laid_summary t s.high p h (s.room p h) x f s.long fits))
      in
      let k : part (acks_at p) (acks_wide (form_of u) (count u)) u ≡ x.acks =
      rw (put_form, put_count) (rw put_same (laid_acks t s.high p h (s.room p h) x f s.long fits))
      in
      let c : columns_from (columns_wide (form_of u) (count u)) (column_at p 0) (count u) u ≡ x.columns =
      rw (put_form, put_count) (rw put_same (laid_columns t s.high p h (s.room p h) x f s.long fits))
      in
      let g : records (held u p) (part (log_at (form_of u) p) (4 * log_most) u) ≡ x.log =
      rw (put_held, put_form) (rw put_same (laid_log_same f t s.long s.high p h (s.room p h) x fits))
      in
      λ i. record { summary = e i; acks = k i; columns = c i; log = g i }

  -- another node's held number
  module _ (q : ℕ) (j : q < count t) (other : q ≡ p → ⊥) where
    pub put_held_other : held (put_node p x t) q ≡ held t q
    unfolding held
    put_held_other =
        let hi = s.high in
        rw put_form
        (put_word_away (held_at f q)
        (apart_node f (count t) p (held_at f q) 1 hi below (λ u v. omega arith) (λ u v. other (omega arith)) (λ u v. omega arith)))

    log_other : part (log_at f q) (4 * log_most) (put_node p x t) ≡ part (log_at f q) (4 * log_most) t
    log_other =
        let hi = s.high in
        put_part_away (log_at f q) (4 * log_most) (omega arith)
        (apart_node f (count t) p (log_at f q) (4 * log_most) hi below (λ u v. omega arith) (λ u v. omega arith) (λ u v. other (omega arith)))

    -- another node is as it was
    pub node_other : node (put_node p x t) q ≡ node t q
    unfolding node
    node_other =
        let u = put_node p x t in
        let e : part (summary_at (form_of u) q) (count u) u ≡ part (summary_at f q) (count t) t =
        rw (put_form, put_count) (rw put_same (laid_summary_other t s.high p h (s.room p h) x q j other f s.long fits))
        in
        let k : part (acks_at q) (acks_wide (form_of u) (count u)) u ≡ part (acks_at q) (acks_wide f (count t)) t =
        rw (put_form, put_count) (rw put_same (laid_acks_other t s.high p h (s.room p h) x q j other f s.long fits))
        in
        let c : columns_from (columns_wide (form_of u) (count u)) (column_at q 0) (count u) u ≡
        columns_from (columns_wide f (count t)) (column_at q 0) (count t) t =
        rw (put_form, put_count) (rw put_same (laid_columns_other t s.high p h (s.room p h) x q j other f s.long fits))
        in
        let g : records (held u q) (part (log_at (form_of u) q) (4 * log_most) u) ≡ records (held t q) (part (log_at f q) (4 * log_most) t) =
        rw (put_held_other, put_form) (ap (records (held t q)) log_other)
        in
        λ i. record { summary = e i; acks = k i; columns = c i; log = g i }

-- a sound table stays sound when a node is put that fits it and whose records are right
pub sound_put :
    (t : List ℕ) → Sound t → (p : ℕ) → p < count t → (x : Node) → Shaped (form_of t) (count t) p x → all (record_sound (count t)) x.log ≡ true →
    Sound (put_node p x t)
sound_put t s p h x fits right =
    record {
      long = put_long t s p h x fits ∙ ap form_words (sym (put_form t s p h x fits));
      low = rw c s.low;
      high = rw c s.high;
      room = λ q g. room_at q (rw c at g) (ℕ_discrete q p);
      right = λ q g. rw c (right_at q (rw c at g) (ℕ_discrete q p));
    }
  where
    c : count (put_node p x t) ≡ count t
    c = put_count t s p h x fits

    room_at : (q : ℕ) → q < count t → Dec (q ≡ p) → held (put_node p x t) q ≤ log_most
    room_at q g (yes e) = rw e (rw (put_held t s p h x fits) fits.log_short)
    room_at q g (no e) = rw (put_held_other t s p h x fits q g e) (s.room q g)

    right_at : (q : ℕ) → q < count t → Dec (q ≡ p) → all (record_sound (count t)) (node (put_node p x t) q).log ≡ true
    right_at q g (yes e) = rw e (rw (node_same t s p h x fits) right)
    right_at q g (no e) = rw (node_other t s p h x fits q g e) (s.right q g)

-- A mark put into a sound table
module _ (t : List ℕ) (s : Sound t) (p : ℕ) (h : p < count t) (m : ℕ) where
  abbrev g : Form
  g = form_of t

  mark_fits : mark_at g p + 1 ≤ length t
  mark_fits = let hi = s.high in omega (arith, s.long)

  mark-length : length (put_mark p m t) ≡ length t
  unfolding put_mark
  mark-length = length-place (mark_at g p) (m ∷ []) t mark_fits

  pub mark_form : form_of (put_mark p m t) ≡ form_of t
  mark_form = form_same (put_mark p m t) t mark-length

  pub mark_long : length (put_mark p m t) ≡ form_words (form_of t)
  mark_long = mark-length ∙ s.long

  -- a part, or a word, that does not have the mark is as it was
  pub mark-part_away : (a k : ℕ) → a + k ≤ mark_at (form_of t) 0 → part a k (put_mark p m t) ≡ part a k t
  unfolding put_mark
  mark-part_away a k within = part_away a k (mark_at g p) (m ∷ []) t mark_fits (omega (arith, s.long)) (λ u v. omega arith)

  pub mark_word_away : (i : ℕ) → (i < mark_at (form_of t) p + 1 → mark_at (form_of t) p ≤ i → ⊥) → get_or (put_mark p m t) i 0 ≡ get_or t i 0
  unfolding put_mark
  mark_word_away i apart = get_or_away i (mark_at g p) (m ∷ []) t mark_fits apart

  -- the mark that was put is read again, and another is as it was
  mark_again : get_or (put_mark p m t) (mark_at g p) 0 ≡ m
  unfolding put_mark
  mark_again = get_or_within (mark_at g p) (m ∷ []) t mark_fits 0 (mark_at g p) (omega arith) (omega arith)

  pub mark_same : mark (put_mark p m t) p ≡ m
  unfolding mark
  mark_same = rw mark_form mark_again

  pub mark_other : (q : ℕ) → (q ≡ p → ⊥) → mark (put_mark p m t) q ≡ mark t q
  unfolding mark
  mark_other q other = rw mark_form (mark_word_away (mark_at g q) (λ u v. other (omega arith)))

  pub mark-count : count (put_mark p m t) ≡ count t
  unfolding count
  mark-count = mark_word_away count_at (λ u v. omega arith)

  mark-held : (q : ℕ) → q < count t → held (put_mark p m t) q ≡ held t q
  unfolding held
  mark-held q j = let hi = s.high in rw mark_form (mark_word_away (held_at g q) (λ u v. omega arith))

  -- the rows stand before the marks
  rows_before : (f : Form) (q : ℕ) → q < count t → summary_at f q + count t ≤ mark_at f 0
  rows_before Vectors q j = let hi = s.high in omega arith
  rows_before Columns q j = let hi = s.high in omega arith

  acks_before : (f : Form) (q : ℕ) → q < count t → acks_at q + acks_wide f (count t) ≤ mark_at f 0
  acks_before Vectors q j = let hi = s.high in omega arith
  acks_before Columns q j = let hi = s.high in omega arith

  column_before : (f : Form) (q i k : ℕ) → q < count t → i < columns_wide f (count t) → k ≡ column_at q 0 + 16 * i → k + count t ≤ mark_at f 0
  column_before Vectors q i k j b e = absurd (omega arith)
  column_before Columns q i k j b e = let hi = s.high in omega arith

  -- every node is as it was
  pub node-mark : (q : ℕ) → q < count t → node (put_mark p m t) q ≡ node t q
  unfolding node
  node-mark q j =
      let hi = s.high in
      let u = put_mark p m t in
      let e : part (summary_at (form_of u) q) (count u) u ≡ part (summary_at g q) (count t) t =
      rw (mark_form, mark-count) (mark-part_away (summary_at g q) (count t) (rows_before g q j))
      in
      let k : part (acks_at q) (acks_wide (form_of u) (count u)) u ≡ part (acks_at q) (acks_wide g (count t)) t =
      rw (mark_form, mark-count) (mark-part_away (acks_at q) (acks_wide g (count t)) (acks_before g q j))
      in
      let c : columns_from (columns_wide (form_of u) (count u)) (column_at q 0) (count u) u ≡
      columns_from (columns_wide g (count t)) (column_at q 0) (count t) t =
      rw (mark_form, mark-count)
      (columns_same (columns_wide g (count t)) (column_at q 0) (count t) t u (λ i k b e. mark-part_away k (count t) (column_before g q i k j b e)))
      in
      let l : records (held u q) (part (log_at (form_of u) q) (4 * log_most) u) ≡ records (held t q) (part (log_at g q) (4 * log_most) t) =
      rw (mark-held q j, mark_form) (ap (records (held t q)) (mark-part_away (log_at g q) (4 * log_most) (omega arith)))
      in
      λ i. record { summary = e i; acks = k i; columns = c i; log = l i }

  -- and the table stays sound
  pub sound-mark : Sound (put_mark p m t)
  sound-mark =
      let c = mark-count in
      record {
        long = mark_long ∙ ap form_words (sym mark_form);
        low = rw c s.low;
        high = rw c s.high;
        room = λ q g. let j = rw c at g in rw (mark-held q j) (s.room q j);
        right = λ q g. let j = rw c at g in rw c (rw (node-mark q j) (s.right q j));
      }
