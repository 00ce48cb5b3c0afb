-- `session_field` meets its contract: a refused line has no field.
use mathlib.Core.Path.{sym, ◌∙◌}
use Rattle.meaning.proofs.FrameLaws.{good}
use Rattle.heads.proofs.HeadLaws.{accepted_clear, accepted_refused}
use Rattle.contents.proofs.ContentLaws.{refused_field, field_session}
use Rattle.contents.proofs.session_field.Goals as goal

pub returns-then-not-is_session : goal.returns-then-not-is_session
returns-then-not-is_session c =
    let s = c.args.s.now in
    refused_field s c.args.index (accepted_refused s (sym c.is_session.ensures ∙ c.if-not-is_session.true))

pub of_session-requires : goal.of_session-requires
of_session-requires c =
    let s = c.args.s.now in
    let clear = accepted_clear s (sym c.is_session.ensures ∙ c.if-not-is_session.false) in
    ((good s clear).digits, c.requires)

pub returns : goal.returns
returns c =
    let s = c.args.s.now in
    let clear = accepted_clear s (sym c.is_session.ensures ∙ c.if-not-is_session.false) in
    field_session s clear c.args.index c.of_session.result c.requires c.of_session.ensures
