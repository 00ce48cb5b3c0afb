-- `pollencart_check_line` meets its contract: what the check answers, handed on.
use mathlib.Core.Path.{ap, ◌∙◌}
use Rattle.meaning.specs.Refusals.{fault_values}
use Rattle.pollencart.proofs.framing.pollencart_check_line.Goals as goal

pub returns : goal.returns
returns c = c.locate.ensures ∙ ap fault_values c.check-fault.ensures
