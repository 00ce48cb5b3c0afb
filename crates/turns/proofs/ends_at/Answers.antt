-- `ends_at` meets its contract: nothing there, another byte, or the LF.
use mathlib.Core.Path.{ap, ◌∙◌}
use Rattle.turns.specs.Turns.{some_due}
use native.Mathlib.Omega.{arith}
use Rattle.turns.proofs.TurnLaws.{some_is, ends_here, ends_not, ends_short}
use Rattle.turns.proofs.ends_at.Goals as goal

pub returns-then-s-at : goal.returns-then-s-at
returns-then-s-at c =
    ap some_due (ends_short c.args.s.now c.args.at c.args.due (omega arith))

pub returns-then-s-at-ne10 : goal.returns-then-s-at-ne10
returns-then-s-at-ne10 c =
    ap some_due (ends_not c.args.s.now c.args.at c.args.due c.if-s-at-ne10.true)

pub returns : goal.returns
returns c =
    some_is c.args.due c.requires.1 ∙ ap some_due (ends_here c.args.s.now c.args.at c.args.due c.if-s-at-ne10.false)
