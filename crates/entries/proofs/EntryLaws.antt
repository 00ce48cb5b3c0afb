-- Laws of what C is told of a table that it looks into: each answer from the words that the code reads.
use mathlib.Core.Path.{◌≡◌, refl, sym, ap, ◌∙◌}
use mathlib.Core.Bool.{Bool, true, false, not}
use mathlib.Core.List.{List, [], ◌∷◌}
use Prim.Native.Nat.{ℕ, zero, suc, ◌+◌, ◌-◌, ◌*◌, ◌<◌, ◌≤◌}
use native.Mathlib.Omega.{arith}
use borrow.Author.Tests.{ltb-true, not-true, not-false}
use lib.ListN.{length, get_or, take, drop, get_or-eq_default}
use lib.Dec.{ltb}
use Rattle.meaning.specs.declared.Record.{Record}
use Rattle.meaning.specs.Rows.{record_at, words}
use Rattle.meaning.specs.Table.{
  Vectors,
  Columns,
  form_of,
  form_words,
  columns_wide,
  column_at,
  nodes_most,
  log_most,
  summary_at,
  acks_at,
  log_at,
  mark_at,
  part,
  count,
  held,
  mark,
  node,
  sound,
  Sound,
}
use Rattle.meaning.proofs.PlaceLaws.{get_d_part}
use Rattle.meaning.proofs.RowLaws.{and_left, and_right, get_or-records}
use Rattle.meaning.proofs.ColumnLaws.{get_or_columns}
use Rattle.meaning.proofs.TableLaws.{sound_facts, held_log_lem, node_columns}
use Rattle.entries.specs.Entries.{present, summary_entry, ack_entry, column_entry, held_number, nothing, record_word, mark_entry}

-- an entry of a row of n, as the code cuts the row
pub row_is : (t : List ℕ) (at n m o : ℕ) → n ≡ m → get_or (take (at + n - at) (drop at t)) o 0 ≡ get_or (part at m t) o 0
unfolding part
row_is t at n m o e = let k : at + n - at ≡ n = omega arith in ap (λ (j : ℕ). get_or (take j (drop at t)) o 0) (k ∙ e)

-- a record's words, by their place
word_at : (w : List ℕ) (i k : ℕ) → k ≤ 3 → get_or w (4 * i + k) 0 ≡ get_or (words (record_at w i ∷ [])) k 0
unfolding record_at words
word_at w i zero h = ap (λ (j : ℕ). get_or w j 0) (omega arith)
word_at w i (suc zero) h = refl
word_at w i (suc (suc zero)) h = refl
word_at w i (suc (suc (suc zero))) h = refl
word_at w i (suc (suc (suc (suc k)))) h = absurd (omega arith)

no_word : (r : Record) (k : ℕ) → 3 < k → 0 ≡ get_or (words (r ∷ [])) k 0
unfolding words
no_word r k h = sym (get_or-eq_default (words (r ∷ [])) 0 h)

nothing_there : (k : ℕ) → 0 ≡ get_or (words (nothing ∷ [])) k 0
unfolding words
nothing_there zero = refl
nothing_there (suc zero) = refl
nothing_there (suc (suc zero)) = refl
nothing_there (suc (suc (suc zero))) = refl
nothing_there (suc (suc (suc (suc k)))) = refl

module _ (t : List ℕ) (p : ℕ) where
  pub unsound_absent : sound t ≡ false → false ≡ present t p
  unfolding present
  unsound_absent h = rw h

  pub sound-present : (n : ℕ) → sound t ≡ true → n ≡ count t → ltb p n ≡ present t p
  unfolding present
  sound-present n h e = rw (h, e)

  -- the test that the code makes, either way
  pub absent : (b : Bool) → b ≡ present t p → not b ≡ true → present t p ≡ false
  absent b e h = sym e ∙ not-true b h

  pub there : (b : Bool) → b ≡ present t p → not b ≡ false → present t p ≡ true
  there b e h = sym e ∙ not-false b h

  pub is_sound_lem : present t p ≡ true → Sound t
  unfolding present
  is_sound_lem h = sound_facts t (and_left (sound t) (ltb p (count t)) h)

  pub is_node : present t p ≡ true → p < count t
  unfolding present
  is_node h = ltb-true p (count t) (and_right (sound t) (ltb p (count t)) h)

  pub below : present t p ≡ true → p < nodes_most
  below h =
      let a = is_node h in
      let b = (is_sound_lem h).high in
      omega arith

  -- the rows that begin at their places
  pub acks_fit : (at : ℕ) → present t p ≡ true → form_of t ≡ Vectors → at ≡ acks_at p → at + nodes_most ≤ length t
  acks_fit at h f e =
      let l = (is_sound_lem h).long ∙ ap form_words f in
      let b = below h in
      omega arith

  pub column_fits : (at q : ℕ) → present t p ≡ true → form_of t ≡ Columns → q < count t → at ≡ column_at p q → at + nodes_most ≤ length t
  column_fits at q h f w e =
      let l = (is_sound_lem h).long ∙ ap form_words f in
      let b = below h in
      let n = (is_sound_lem h).high in
      omega arith

  pub no_summary : (o : ℕ) → present t p ≡ false → 0 ≡ summary_entry t p o
  unfolding summary_entry
  no_summary o h = rw h

  pub summary_is : (at o r : ℕ) → present t p ≡ true → at ≡ summary_at (form_of t) p → r ≡ get_or (part at (count t) t) o 0 → r ≡ summary_entry t p o
  unfolding summary_entry node
  summary_is at o r h e q = rw h (q ∙ ap (λ (a : ℕ). get_or (part a (count t) t) o 0) e)

  pub no_ack : (o : ℕ) → present t p ≡ false → 0 ≡ ack_entry t p o
  unfolding ack_entry
  no_ack o h = rw h

  pub ack_none : (o : ℕ) → present t p ≡ true → form_of t ≡ Columns → 0 ≡ ack_entry t p o
  unfolding ack_entry node part
  ack_none o h f = rw (h, f) refl

  pub ack_is : (at o r : ℕ) → present t p ≡ true → form_of t ≡ Vectors → at ≡ acks_at p → r ≡ get_or (part at (count t) t) o 0 → r ≡ ack_entry t p o
  unfolding ack_entry node
  ack_is at o r h f e q = rw (h, f) (q ∙ ap (λ (a : ℕ). get_or (part a (count t) t) o 0) e)

  module _ (q o : ℕ) where
    pub no_column : present t p ≡ false → 0 ≡ column_entry t p q o
    unfolding column_entry
    no_column h = rw h

    -- a column that the node has not: any of a table of vectors, or one at or beyond n
    pub column_beyond : present t p ≡ true → columns_wide (form_of t) (count t) ≤ q → 0 ≡ column_entry t p q o
    unfolding column_entry
    column_beyond h w =
        let l = node_columns t p in
        let b : length (node t p).columns ≤ q = omega arith in
        rw (h, get_or-eq_default (node t p).columns [] b) refl

    pub column_none : present t p ≡ true → form_of t ≡ Vectors → 0 ≡ column_entry t p q o
    column_none h f = column_beyond h (rw f (omega arith))

    pub column_out : present t p ≡ true → form_of t ≡ Columns → count t ≤ q → 0 ≡ column_entry t p q o
    column_out h f w = column_beyond h (rw f w)

    pub column_is :
        (at r : ℕ) → present t p ≡ true → form_of t ≡ Columns → q < count t → at ≡ column_at p q → r ≡ get_or (part at (count t) t) o 0 →
        r ≡ column_entry t p q o
    unfolding column_entry node
    column_is at r h f w e g =
        rw (h, f) (g ∙ ap (λ (c : List ℕ). get_or c o 0) (sym (get_or_columns (count t) (column_at p 0) (count t) t q at w (omega arith))))

  pub no_held : present t p ≡ false → 0 ≡ held_number t p
  unfolding held_number
  no_held h = rw h

  pub held_is : (r : ℕ) → present t p ≡ true → r ≡ held t p → r ≡ held_number t p
  unfolding held_number
  held_is r h q = rw h (q ∙ held_log_lem t p)

  pub no_mark : present t p ≡ false → 0 ≡ mark_entry t p
  unfolding mark_entry
  no_mark h = rw h

  pub mark_is : (at : ℕ) → present t p ≡ true → at ≡ mark_at (form_of t) p → get_or t at 0 ≡ mark_entry t p
  unfolding mark_entry mark
  mark_is at h e = rw h (ap (λ (i : ℕ). get_or t i 0) e)

  module _ (i k : ℕ) where
    pub no_record : present t p ≡ false → 0 ≡ record_word t p i k
    unfolding record_word
    no_record h = rw h

    pub record_beyond : (n : ℕ) → present t p ≡ true → n ≡ held t p → n ≤ i → 0 ≡ record_word t p i k
    unfolding record_word
    record_beyond n h e q =
        let l = held_log_lem t p in
        let b : length (node t p).log ≤ i = omega arith in
        rw (h, get_or-eq_default (node t p).log nothing b) (nothing_there k)

    pub word_beyond : present t p ≡ true → 3 < k → 0 ≡ record_word t p i k
    unfolding record_word
    word_beyond h q = rw h (no_word (get_or (node t p).log i nothing) k q)

    pub record_is : (n at : ℕ) → present t p ≡ true → n ≡ held t p → i < n → k ≤ 3 → at ≡ log_at (form_of t) p →
        get_or t (at + 4 * i + k) 0 ≡ record_word t p i k
    unfolding record_word node
    record_is n at h e q m a =
        let r = (is_sound_lem h).room p (is_node h) in
        let w = part (log_at (form_of t) p) (4 * log_most) t in
        rw (h, get_or-records (held t p) w i (omega arith))
        (sym (get_d_part (log_at (form_of t) p) (4 * log_most) t (4 * i + k) (at + 4 * i + k) (omega arith) (omega arith)) ∙ word_at w i k m)
