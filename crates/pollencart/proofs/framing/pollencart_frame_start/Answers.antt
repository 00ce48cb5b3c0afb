-- `pollencart_frame_start` meets its contract: what the writer answers and leaves, handed on.
use mathlib.Core.Path.{ap, ◌∙◌}
use Rattle.meaning.specs.Frames.{framed_values}
use Rattle.meaning.proofs.FrameLaws.{value_start}
use Rattle.answers.proofs.ValueLaws.{short}
use Rattle.pollencart.proofs.framing.pollencart_frame_start.Goals as goal

pub report-requires : goal.report-requires
report-requires c = short _ _ c.write_start-answer.ensures.0 (value_start _ _)

pub returns : goal.returns
returns c =
    (c.report.ensures ∙ ap framed_values c.write_start-answer.ensures.0, c.write_start-answer.ensures.1)
