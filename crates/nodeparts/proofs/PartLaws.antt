-- Laws of the parts of a node's line, by their places in the table.
use mathlib.Core.Path.{◌≡◌, refl}
use mathlib.Core.List.{List, ◌++◌}
use Prim.Native.Nat.{ℕ, ◌+◌, ◌-◌, ◌≤◌}
use Prim.Native.String.{String}
use native.Mathlib.Omega.{arith}
use lib.ListN.{length, get_or, take, drop, length-take, length-drop}
use Rattle.meaning.specs.Rows.{ascii}
use Rattle.meaning.specs.Table.{Vectors, form_of, form_words, part, count}
use Rattle.meaning.specs.Journals.{spaced, said}
use Rattle.meaning.proofs.TableLaws.{form_is}

-- the part of a list between two places, as the code lends it
pub between : (a n : ℕ) (t : List ℕ) → take (a + n - a) (drop a t) ≡ part a n t
unfolding part
between a n t =
    let e : a + n - a ≡ n = omega arith in
    rw e

pub length_between : (a n : ℕ) (t : List ℕ) → a + n ≤ length t → length (take (a + n - a) (drop a t)) ≡ n
length_between a n t h = simp (length-take, length-drop) (omega arith)

-- a table of that length is one of vectors
pub long_form : (t : List ℕ) → length t ≡ form_words Vectors → length t ≡ form_words (form_of t)
long_form t e = rw (form_is Vectors t e) e

-- the words of the table that are printed, by their places
pub count_is : (t : List ℕ) → count t ≡ get_or t 0 0
unfolding count
count_is t = refl

pub said_is : (word : String) (vs : List ℕ) → ascii word ++ spaced vs ≡ said word vs
unfolding said
said_is word vs = refl
