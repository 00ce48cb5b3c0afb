-- `short_step` meets its contract, by the second character.
use Rattle.steplines.proofs.StepLineLaws.{other_unsure}
use borrow.Author.Rules.{rules}
use Rattle.steplines.proofs.short_step.Goals as goal

pub returns-in_default-clause-turned : goal.returns-in_default-clause-turned
returns-in_default-clause-turned c =
    other_unsure c.args.t.now.words.now c.args.s.now c.requires (search rules) (search rules)
