-- `pollencart_frame_purge` meets its contract: what the writer answers and leaves, handed on.
use mathlib.Core.Path.{ap, ◌∙◌}
use Rattle.meaning.specs.Frames.{framed_values}
use Rattle.meaning.proofs.FrameLaws.{value_length}
use Rattle.answers.proofs.ValueLaws.{short}
use Rattle.pollencart.proofs.framing.pollencart_frame_purge.Goals as goal

pub report-requires : goal.report-requires
report-requires c = short _ _ c.purge-answer.ensures.0 (value_length _ _)

pub returns : goal.returns
returns c =
    (c.report.ensures ∙ ap framed_values c.purge-answer.ensures.0, c.purge-answer.ensures.1)
