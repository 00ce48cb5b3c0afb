-- `pollencart_read_line` meets its contract: what the reader answers and leaves, handed on.
use mathlib.Core.Path.{ap, ◌∙◌}
use Rattle.meaning.specs.Refusals.{fault_values}
use Rattle.pollencart.proofs.framing.pollencart_read_line.Goals as goal

pub returns : goal.returns
returns c =
    (c.locate.ensures ∙ ap fault_values c.read_words-fault.ensures.0, c.read_words-fault.ensures.1)
