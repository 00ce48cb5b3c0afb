-- `sure` meets its contract: an arm for each length.
use mathlib.Core.Path.{sym, ◌∙◌, ap}
use native.Mathlib.Omega.{arith}
use Rattle.std.specs.Option.{is_some}
use Rattle.heads.specs.Heads.{accepted}
use Rattle.heads.proofs.HeadLaws.{accepted_not, whole_part}
use Rattle.heads.proofs.QuickLaws.{short_sure, no_length}
use Rattle.quick.proofs.sure.Goals as goal

pub returns-then-s-lt24 : goal.returns-then-s-lt24
returns-then-s-lt24 c =
    c.is_some.ensures ∙ ap is_some c.short_held.ensures ∙ short_sure c.args.s.now

pub returns-in-24 : goal.returns-in-24
returns-in-24 c =
    let s = c.args.s.now in
    c.is_write.ensures ∙ ap accepted (whole_part s 24 (omega arith))

pub returns-in-26 : goal.returns-in-26
returns-in-26 c =
    let s = c.args.s.now in
    c.is_session.ensures ∙ ap accepted (whole_part s 26 (omega arith))

pub returns-in_default : goal.returns-in_default
returns-in_default c =
    let s = c.args.s.now in
    sym (accepted_not s (λ g. no_length s g (omega arith) (omega arith) (omega arith)))
