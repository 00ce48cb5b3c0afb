-- `word` meets its contract: four bytes, high byte first.
use native.Mathlib.Omega.{arith}
use Rattle.numbers.proofs.NumberLaws.{be_four, field_four}
use Rattle.numbers.proofs.word.Goals as goal

pub returns : goal.returns
returns c =
    let made = be_four c.byte.result c.byte-2.result c.byte-3.result c.byte-4.result in
    omega (arith, c.from_be_bytes.ensures, made, field_four c.args.s.now c.args.at c.requires.room)
