-- `deliver_line` meets its contract: no line, or the delivery's step.
use Rattle.steplines.proofs.StepLineLaws.{short_unsure, delivery_turned}
use Rattle.steplines.proofs.deliver_line.Goals as goal

pub returns-in_default-clause-turned : goal.returns-in_default-clause-turned
returns-in_default-clause-turned c = short_unsure c.args.t.now.words.now c.args.s.now c.in_default.ensures

pub returns-clause-turned : goal.returns-clause-turned
returns-clause-turned c =
    delivery_turned c.args.t.now.words.now c.args.s.now c.requires.0 c.in-Some.delivery c.in-Some.ensures c.requires.1
    c.deliver_alone.ensures.done c.from.ensures
