-- `pollencart_deliver` meets its contract: the reply's values, and the words of the table and the list that the delivery leaves.
use mathlib.Core.Path.{refl}
use Rattle.answers.proofs.ValueLaws.{told}
use Rattle.pollencart.proofs.tables.pollencart_deliver.Goals as goal

pub returns : goal.returns
returns c =
    let done = c.deliver-answer.ensures in
    (told 2 _ _ done.0 _ _ _ c.number_of.ensures c.first_of.ensures refl, done.1, done.2)
