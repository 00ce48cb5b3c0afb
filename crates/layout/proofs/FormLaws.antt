-- What the length tells of a table's form, for the functions that ask it.
use mathlib.Core.Path.{◌≡◌, refl, sym, ap, ◌∙◌}
use mathlib.Core.Bool.{Bool, true, false, cond, false≢true}
use mathlib.Core.List.{List}
use Prim.Native.Nat.{ℕ}
use lib.ListN.{length}
use lib.Dec.{eqb}
use borrow.Author.Tests.{ne_eqb}
use Rattle.meaning.specs.Table.{Form, Vectors, Columns, form_of, form_words, length_right, summary_at, column_at}
use Rattle.meaning.specs.Steps.{on_columns}
use Rattle.meaning.proofs.TableLaws.{form_is}

pub columns_length : (t : List ℕ) → eqb (length t) (form_words Columns) ≡ on_columns (form_of t)
unfolding form_of
columns_length t = go (eqb (length t) (form_words Columns))
  where
    go : (b : Bool) → b ≡ on_columns (cond b Columns Vectors)
    go true = refl
    go false = refl

-- the length of one form, and a length that is not that of vectors
pub right_vectors : (t : List ℕ) → length t ≡ form_words Vectors → eqb (length t) (form_words Vectors) ≡ length_right t
right_vectors t e = ap (λ (f : Form). eqb (length t) (form_words f)) (sym (form_is Vectors t e))

pub right_columns : (t : List ℕ) → (length t ≡ form_words Vectors → ⊥) → eqb (length t) (form_words Columns) ≡ length_right t
unfolding form_of
right_columns t h = go (eqb (length t) (form_words Columns)) refl
  where
    go : (b : Bool) → eqb (length t) (form_words Columns) ≡ b → b ≡ eqb (length t) (form_words (cond b Columns Vectors))
    go true e = sym e
    go false e = sym (ne_eqb (length t) (form_words Vectors) h)

-- the form, where the test says columns and where it says vectors
pub has_columns : (f : Form) (b : Bool) → b ≡ on_columns f → b ≡ true → f ≡ Columns
has_columns Vectors b e h = absurd (false≢true (sym e ∙ h))
has_columns Columns b e h = refl

pub has_vectors : (f : Form) (b : Bool) → b ≡ on_columns f → b ≡ false → f ≡ Vectors
has_vectors Vectors b e h = refl
has_vectors Columns b e h = absurd (false≢true (sym h ∙ e))

-- the summary's place, where the test says columns and where it says vectors
pub summary_columns : (f : Form) (p : ℕ) (b : Bool) → b ≡ on_columns f → b ≡ true → column_at p p ≡ summary_at f p
summary_columns Vectors p b e h = absurd (false≢true (sym e ∙ h))
summary_columns Columns p b e h = refl

pub summary_vectors : (f : Form) (p : ℕ) (b : Bool) → b ≡ on_columns f → b ≡ false → summary_at Vectors p ≡ summary_at f p
summary_vectors Vectors p b e h = refl
summary_vectors Columns p b e h = absurd (false≢true (sym h ∙ e))

-- the length of a table whose test says columns
pub columns_long : (t : List ℕ) (b : Bool) → b ≡ on_columns (form_of t) → b ≡ true → length t ≡ form_words (form_of t) → length t ≡ form_words Columns
columns_long t b e h = go (form_of t) e
  where
    go : (f : Form) → b ≡ on_columns f → length t ≡ form_words f → length t ≡ form_words Columns
    go Vectors e l = absurd (false≢true (sym e ∙ h))
    go Columns e l = l
