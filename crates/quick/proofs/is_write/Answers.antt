-- `is_write` meets its contract: what a line of 24 characters must be.
use mathlib.Core.Path.{sym, ◌∙◌}
use lib.Dec.{eqb}
use Rattle.std.specs.Prelude.{Some}
use Rattle.std.specs.Option.{option_eq}
use Rattle.digits.proofs.DigitLaws.{told_some, some_told}
use Rattle.heads.proofs.HeadLaws.{accepted_not, accepted_by}
use Rattle.heads.proofs.QuickLaws.{write_good, good_write}
use Rattle.quick.proofs.is_write.Goals as goal

pub returns-then-s-ne48 : goal.returns-then-s-ne48
returns-then-s-ne48 c =
    let s = c.args.s.now in
    sym (accepted_not s (λ g. c.if-s-ne48.true (good_write s c.requires g).0))

pub returns-then-s-ne49 : goal.returns-then-s-ne49
returns-then-s-ne49 c =
    let s = c.args.s.now in
    sym (accepted_not s (λ g. c.if-s-ne49.true (good_write s c.requires g).1))

pub returns : goal.returns
returns c =
    let s = c.args.s.now in
    let sum = c.total.result in
    let is = c.total.ensures in
    c.eq.ensures
    ∙ accepted_by s (option_eq eqb sum (Some 0)) (λ e. write_good s c.requires c.if-s-ne48.false c.if-s-ne49.false (told_some sum 0 e ∙ is))
    (λ g. some_told sum 0 ((good_write s c.requires g).2 ∙ sym is))
