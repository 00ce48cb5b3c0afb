-- `pollencart_apply_lines` meets its contract: the values of how far the lines came, and the words that they leave.
use Rattle.answers.proofs.ValueLaws.{lines_told}
use Rattle.pollencart.proofs.applies.pollencart_apply_lines.Goals as goal

pub returns : goal.returns
returns c =
    let came = c.apply_lines-came.ensures in
    (lines_told _ _ came.0 _ _ c.locate.ensures, came.1)
