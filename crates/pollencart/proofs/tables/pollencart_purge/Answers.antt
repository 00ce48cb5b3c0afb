-- `pollencart_purge` meets its contract: the reply's values, and the words that the step leaves.
use Rattle.answers.proofs.ValueLaws.{told}
use Rattle.pollencart.proofs.tables.pollencart_purge.Goals as goal

pub returns : goal.returns
returns c = (
  told 3 _ _ c.purge-answer.ensures.0 _ _ _ c.number_of.ensures c.first_of.ensures c.second_of.ensures,
  c.purge-answer.ensures.1,
)
