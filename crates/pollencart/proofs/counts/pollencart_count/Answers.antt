-- `pollencart_count`: what is stored and returned are the values of the answer.
use mathlib.Core.Path.{ap, ◌∙◌}
use Rattle.meaning.specs.Verdicts.{count_values}
use Rattle.pollencart.proofs.counts.pollencart_count.Goals as goal

pub returns : goal.returns
returns c = c.store.ensures ∙ ap count_values c.count.ensures
