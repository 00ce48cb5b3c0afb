-- Laws of a replay's whole text, by its outcome.
use mathlib.Core.Path.{◌≡◌, refl, sym}
use mathlib.Core.Bool.{true, false}
use mathlib.Core.List.{List, [], append_assoc}
use Prim.Native.Nat.{ℕ, ◌≤◌, ◌<◌}
use native.Mathlib.Omega.{arith}
use borrow.Author.Tests.{le-leb, lt-leb}
use lib.ListN.{length}
use Rattle.std.specs.Prelude.{Ok, Err}
use Rattle.meaning.specs.declared.Fault.{Fault}
use Rattle.meaning.specs.declared.Refusal.{Refusal}
use Rattle.meaning.specs.declared.Stopped.TheVariants.{Bad, Unread}
use Rattle.meaning.specs.Refusals.{number_of}
use Rattle.meaning.specs.Journals.{Outcome, outcome_values, printed}
use Rattle.printing.specs.Wrote.{Wrote}
use Rattle.textlines.specs.TextLines.{bad_line, unread_line}
use Rattle.text.specs.Text.{Shown, printed_of, text_most, has_nodes, text_for}

-- what is written is what the program prints: an outcome's text goes by its values
pub printed_values : (x : Outcome) (t : List ℕ) → printed x t ≡ printed_of (outcome_values x) t
unfolding printed
printed_values (Err (Bad line f)) t = refl
printed_values (Err (Unread r)) t = refl
printed_values (Ok x) t = simp append_assoc

pub text_values : (out : List ℕ) (x : Outcome) (t : List ℕ) → text_most ≤ length out → has_nodes x t ≡ true → text_for out x t ≡ printed x t
unfolding text_for
text_values out x t h e = rw (le-leb text_most (length out) h, e) (sym (printed_values x t))

-- what is written for an outcome, by the tests that led there
pub text_short : (out : List ℕ) (x : Outcome) (t : List ℕ) → length out < text_most → [] ≡ text_for out x t
unfolding text_for
text_short out x t h = rw (lt-leb text_most (length out) h)

pub text_none : (out : List ℕ) (x : Outcome) (t : List ℕ) → text_most ≤ length out → has_nodes x t ≡ false → [] ≡ text_for out x t
unfolding text_for
text_none out x t h e = rw (le-leb text_most (length out) h, e)

pub text_whole : (out : List ℕ) (x : Outcome) (t : List ℕ) → text_most ≤ length out → has_nodes x t ≡ true → printed_of (outcome_values x) t ≡ text_for out x t
unfolding text_for
text_whole out x t h e = rw (le-leb text_most (length out) h, e)

pub text_bad : (out : List ℕ) (line : ℕ) (f : Fault) (t : List ℕ) → text_most ≤ length out
    → bad_line line (number_of f.refusal) f.place ≡ text_for out (Err (Bad line f)) t
text_bad out line f t h = text_whole out (Err (Bad line f)) t h refl

pub text_unread : (out : List ℕ) (r : Refusal) (t : List ℕ) → text_most ≤ length out → unread_line (number_of r) ≡ text_for out (Err (Unread r)) t
text_unread out r t h = text_whole out (Err (Unread r)) t h refl

-- a text written from place 0 is the whole answer
pub whole : {t t' : List ℕ} {r : ℕ} {text : List ℕ} {most : ℕ} → most ≤ length t → most ≤ text_most → Wrote t 0 text most r t'
    → Shown t text r t'
whole h m w = record { long = omega (arith, w.to); is = w.is; fits = omega (arith, w.within); most = omega (arith, w.within) }
