-- `outcome_text` goes by the outcome's cases.
use mathlib.Core.Path.{◌≡◌}
use native.Mathlib.Omega.{arith}
use Rattle.meaning.specs.declared.Stopped.TheVariants.{Bad, Unread}
use Rattle.printing.proofs.Printing.{printed_as}
use Rattle.text.proofs.Lines.{text_bad, text_unread}
use Rattle.text.proofs.outcome_text.Goals as goal

pub returns-in-Err-Bad : goal.returns-in-Err-Bad
returns-in-Err-Bad c =
    let bad = c.in-Err-Bad in
    let e : bad.field-0 ≡ Bad bad.line bad.fault = cc bad.field-0-is in
    rw (bad.is, e) (printed_as (text_bad _ bad.line bad.fault _ (omega arith)) (omega arith) c.bad_line.ensures)

pub returns-in-Err-Unread : goal.returns-in-Err-Unread
returns-in-Err-Unread c =
    let unread = c.in-Err-Unread in
    let e : unread.field-0 ≡ Unread unread.refusal = cc unread.field-0-is in
    rw (unread.is, e) (printed_as (text_unread _ unread.refusal _ (omega arith)) (omega arith) c.unread_line.ensures)
