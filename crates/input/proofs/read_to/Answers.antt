-- `read_to`: each answer's case, by the tests that the code makes of it.
use mathlib.Core.Path.{sym, ◌∙◌}
use native.Mathlib.Omega.{arith}
use Rattle.input.proofs.ReadingLaws.{to_end, to_more, to_full, to_again, to_failed}
use Rattle.input.proofs.read_to.Goals as goal

pub returns-in-Ok-eq0 : goal.returns-in-Ok-eq0
returns-in-Ok-eq0 c =
    let zero = rw c.in-Ok-eq0.is at c.in-Ok-eq0.field-0-test in
    rw (c.in-Ok-eq0.is, zero) (to_end c.args.lent c.args.at)

pub returns-in-Ok : goal.returns-in-Ok
returns-in-Ok c =
    let some = rw c.in-Ok.is at c.in-Ok.count-test.1 in
    rw c.in-Ok.is (to_more c.args.lent c.args.at c.in-Ok.count some (omega arith))

pub returns-in-Ok-2 : goal.returns-in-Ok-2
returns-in-Ok-2 c =
    let some = rw c.in-Ok.is at c.in-Ok.count-test.1 in
    rw c.in-Ok.is (to_full c.args.lent c.args.at c.in-Ok.count some (omega arith))

pub returns-in-Interrupted : goal.returns-in-Interrupted
returns-in-Interrupted c = rw c.in-Err.is (to_again c.args.lent c.args.at c.in-Err.e (sym c.in-Interrupted.ensures))

pub returns-in_default : goal.returns-in_default
returns-in_default c =
    rw c.in-Err.is (to_failed c.args.lent c.args.at c.in-Err.e (λ h. c.in_default.not-Interrupted (c.kind.ensures ∙ h)))
