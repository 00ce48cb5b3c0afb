-- `put` writes one byte: the law `wrote_one`.
use mathlib.Core.Path.{refl}
use native.Mathlib.Omega.{arith}
use lib.ListN.{length-set}
use Rattle.printing.proofs.Writing.{wrote_one}
use Rattle.printing.proofs.Printer.put.Goals as goal

pub returns : goal.returns
returns c =
    let p = c.args.self.now in
    let l = length-set p.out.now p.at c.args.b in
    record { same = refl; long = l; fits = omega arith; wrote = wrote_one p.out.now p.at c.args.b c.requires }
