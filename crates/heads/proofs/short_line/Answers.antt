-- `short_line` meets its contract: a law for each test, in their order.
use mathlib.Core.Path.{sym, ◌∙◌}
use Rattle.heads.proofs.QuickLaws.{short_first, short_stray, short_unheld, short_unchecked, short_right}
use Rattle.heads.proofs.short_line.Goals as goal

pub returns-then-a-ne48 : goal.returns-then-a-ne48
returns-then-a-ne48 c = let x = c.args in short_first x.a x.b x.c x.d x.e x.f c.if-a-ne48.true

pub returns-then-h-l-gt15 : goal.returns-then-h-l-gt15
returns-then-h-l-gt15 c =
    let x = c.args in
    short_stray x.a x.b x.c x.d x.e x.f c.wide_value-h.result c.wide_value-l.result c.wide_value-h.ensures
    c.wide_value-l.ensures c.if-h-l-gt15.true

pub returns-then-not-may_hold : goal.returns-then-not-may_hold
returns-then-not-may_hold c =
    let x = c.args in
    short_unheld x.a x.b x.c x.d x.e x.f c.wide_value-h.result c.wide_value-l.result c.wide_value-h.ensures
    c.wide_value-l.ensures
    (sym c.may_hold.ensures ∙ c.if-not-may_hold.true)

pub returns-then-not-is_check : goal.returns-then-not-is_check
returns-then-not-is_check c =
    let x = c.args in
    short_unchecked x.a x.b x.c x.d x.e x.f c.wide_value-h.result c.wide_value-l.result c.wide_value-h.ensures
    c.wide_value-l.ensures
    (sym c.is_check.ensures ∙ c.if-not-is_check.true)

pub returns : goal.returns
returns c =
    let x = c.args in
    short_right x.a x.b x.c x.d x.e x.f c.wide_value-h.result c.wide_value-l.result c.wide_value-h.ensures
    c.wide_value-l.ensures c.if-a-ne48.false c.if-h-l-gt15.false
    (sym c.may_hold.ensures ∙ c.if-not-may_hold.false)
    (sym c.is_check.ensures ∙ c.if-not-is_check.false)
