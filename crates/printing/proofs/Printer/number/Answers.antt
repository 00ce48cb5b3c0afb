-- `number` is `digits` with the definition's 20, at the printer's place.
use mathlib.Core.Path.{refl}
use native.Mathlib.Omega.{arith}
use Rattle.meaning.specs.Journals.{decimal}
use Rattle.printing.proofs.Printer.number.Goals as goal

pub returns : goal.returns
unfolding decimal
returns c =
    let w = c.digits-self.ensures in
    record { same = refl; long = omega arith; fits = omega (arith, w.within, c.requires); wrote = w }
