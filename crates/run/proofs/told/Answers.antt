-- `told`: the table that a run leaves has the words to print.
use mathlib.Core.Path.{◌∙◌}
use Rattle.run.proofs.Telling.{told_text}
use Rattle.run.proofs.told.Goals as goal

pub returns : goal.returns
returns c =
    told_text c.args.s.now c.args.t.now c.args.out.now c.requires.0 c.requires.1 c.run-outcome.ensures
    (c.run-outcome.auto.t ∙ c.requires.0) c.show.ensures
