-- `pollencart_write` meets its contract: the reply's number, and the words that the step leaves.
use mathlib.Core.Path.{refl}
use Rattle.answers.proofs.ValueLaws.{told}
use Rattle.pollencart.proofs.tables.pollencart_write.Goals as goal

pub returns : goal.returns
returns c =
    (told 1 _ _ c.write-answer.ensures.0 _ _ _ c.number_of.ensures refl refl, c.write-answer.ensures.1)
