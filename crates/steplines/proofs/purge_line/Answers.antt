-- `purge_line` meets its contract: no line, or the purge's step.
use mathlib.Core.Path.{refl}
use Rattle.steplines.proofs.StepLineLaws.{short_unsure, purge_done, purge_refused}
use Rattle.steplines.proofs.purge_line.Goals as goal

pub returns-in_default-clause-turned : goal.returns-in_default-clause-turned
returns-in_default-clause-turned c = short_unsure c.args.t.now.words.now c.args.s.now (c.in_default.ensures)

pub returns-in-Ok-clause-turned : goal.returns-in-Ok-clause-turned
returns-in-Ok-clause-turned c =
    purge_done c.args.t.now.words.now c.args.s.now c.requires.0 c.in-Some.purge c.in-Some.ensures c.requires.1 c.in-Ok.ensures.done refl

pub returns-in-Err-clause-turned : goal.returns-in-Err-clause-turned
returns-in-Err-clause-turned c =
    purge_refused c.args.t.now.words.now c.args.s.now c.requires.0 c.in-Some.purge c.in-Some.ensures c.requires.1 c.in-Err.ensures.done _ refl
