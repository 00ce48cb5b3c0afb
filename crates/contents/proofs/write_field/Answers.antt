-- `write_field` meets its contract: a refused line has no field.
use mathlib.Core.Path.{sym, ◌∙◌}
use Rattle.meaning.proofs.FrameLaws.{good}
use Rattle.heads.proofs.HeadLaws.{accepted_clear, accepted_refused}
use Rattle.contents.proofs.ContentLaws.{refused_field, field_write}
use Rattle.contents.proofs.write_field.Goals as goal

pub returns-then-not-is_write : goal.returns-then-not-is_write
returns-then-not-is_write c =
    let s = c.args.s.now in
    refused_field s c.args.index (accepted_refused s (sym c.is_write.ensures ∙ c.if-not-is_write.true))

pub of_write-requires : goal.of_write-requires
of_write-requires c =
    let s = c.args.s.now in
    let clear = accepted_clear s (sym c.is_write.ensures ∙ c.if-not-is_write.false) in
    ((good s clear).digits, c.requires)

pub returns : goal.returns
returns c =
    let s = c.args.s.now in
    let clear = accepted_clear s (sym c.is_write.ensures ∙ c.if-not-is_write.false) in
    field_write s clear c.args.index c.of_write.result c.requires c.of_write.ensures
