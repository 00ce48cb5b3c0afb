-- Laws of texts that a printer prints one after the other.
use mathlib.Core.Path.{◌≡◌, refl, ◌∙◌}
use mathlib.Core.List.{List, [], ◌∷◌, ◌++◌}
use Prim.Native.Nat.{ℕ, ◌+◌, ◌≤◌}
use native.Mathlib.Omega.{arith}
use Rattle.printing.specs.declared.Printer.{Printer}
use Rattle.printing.specs.Printed.{Printed, Room}
use Rattle.printing.proofs.Writing.{wrote_none, wrote_then, wrote_as, one_wrote}

-- nothing printed; one text after another is both as one
pub printed_none : (p : Printer) (most : ℕ) → Room p 0 → Printed p [] most p
printed_none p most h = record { same = refl; long = refl; fits = omega arith; wrote = wrote_none p.out.now p.at most }

pub printed_then : {p p' p'' : Printer} {xs ys : List ℕ} {most most' : ℕ} → Printed p xs most p' → Printed p' ys most' p''
    → Printed p (xs ++ ys) (most + most') p''
printed_then w w' =
    record {
      same = w'.same ∙ w.same;
      long = w'.long ∙ w.long;
      fits = w'.fits;
      wrote = wrote_then (omega (arith, w.long, w'.long, w'.fits, w'.wrote.to)) w.wrote w'.wrote;
    }

-- what was printed, by another name and with a wider bound
pub printed_as : {p p' : Printer} {xs ys : List ℕ} {most most' : ℕ} → xs ≡ ys → most ≤ most' → Printed p xs most p' → Printed p ys most' p'
printed_as e h w = record { same = w.same; long = w.long; fits = w.fits; wrote = wrote_as e h w.wrote }

-- a text, where it is printed and the place after it are one
pub one_printed : {p p' p'' : Printer} {xs : List ℕ} {most : ℕ} → Printed p xs most p' → Printed p xs most p''
    → ◌≡◌ {A = List ℕ} (p'.at ∷ p'.out.now) (p''.at ∷ p''.out.now)
one_printed w w' = one_wrote w.wrote w'.wrote
