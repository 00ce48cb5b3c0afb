-- `word_of` meets its contract: four bytes, high byte first.
use native.Mathlib.Omega.{arith}
use Rattle.numbers.proofs.NumberLaws.{be_four, joined_four}
use Rattle.numbers.proofs.word_of.Goals as goal

pub returns : goal.returns
returns c =
    let made = be_four c.byte_of.result c.byte_of-2.result c.byte_of-3.result c.byte_of-4.result in
    omega (arith, c.from_be_bytes.ensures, made, joined_four c.args.v.now c.args.at)
