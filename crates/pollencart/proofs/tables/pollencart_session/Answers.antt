-- `pollencart_session` meets its contract: the reply's values, and the words that the step leaves.
use Rattle.answers.proofs.ValueLaws.{told}
use Rattle.pollencart.proofs.tables.pollencart_session.Goals as goal

pub returns : goal.returns
returns c = (
  told 3 _ _ c.session-answer.ensures.0 _ _ _ c.number_of.ensures c.first_of.ensures c.second_of.ensures,
  c.session-answer.ensures.1,
)
