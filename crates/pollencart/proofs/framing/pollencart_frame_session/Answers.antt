-- `pollencart_frame_session` meets its contract: what the writer answers and leaves, handed on.
use mathlib.Core.Path.{ap, ◌∙◌}
use Rattle.meaning.specs.Frames.{framed_values}
use Rattle.meaning.proofs.FrameLaws.{value_length}
use Rattle.answers.proofs.ValueLaws.{short}
use Rattle.pollencart.proofs.framing.pollencart_frame_session.Goals as goal

pub report-requires : goal.report-requires
report-requires c = short _ _ c.session-answer.ensures.0 (value_length _ _)

pub returns : goal.returns
returns c =
    (c.report.ensures ∙ ap framed_values c.session-answer.ensures.0, c.session-answer.ensures.1)
