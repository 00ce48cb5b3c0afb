-- `pollencart_apply_line` meets its contract: the values of the line's answer, and the words that it leaves.
use mathlib.Core.Path.{sym, ◌∙◌}
use Rattle.answers.proofs.ValueLaws.{line_done, line_wrong}
use Rattle.pollencart.proofs.applies.pollencart_apply_line.Goals as goal

pub returns-in-Ok : goal.returns-in-Ok
returns-in-Ok c =
    let done = c.apply_line.ensures in
    (line_done _ _ (sym c.in-Ok.is ∙ done.0) _ _ c.first_of.ensures c.second_of.ensures, done.1)

pub returns-in-Err : goal.returns-in-Err
returns-in-Err c =
    let done = c.apply_line.ensures in
    (line_wrong _ _ (sym c.in-Err.is ∙ done.0) _ _ c.locate.ensures, done.1)
