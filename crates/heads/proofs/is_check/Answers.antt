-- `is_check` meets its contract: what two digits written tell of two digits read.
use mathlib.Core.Path.{refl, sym, ◌∙◌, ap}
use Prim.Native.Nat.{◌-◌, ◌%◌}
use lib.Dec.{eqb}
use Rattle.heads.proofs.CheckLaws.{check_high, check_low}
use Rattle.heads.proofs.is_check.Goals as goal

pub returns-then-high-digit_of : goal.returns-then-high-digit_of
returns-then-high-digit_of c =
    let sum = c.args.sum in
    check_high sum c.args.high c.args.low ((512 - sum) % 256) c.requires refl (λ e. c.if-high-digit_of.true (e ∙ sym c.digit_of.ensures))

pub returns : goal.returns
returns c =
    let sum = c.args.sum in
    let low = c.args.low in
    let high_is = c.if-high-digit_of.false ∙ c.digit_of.ensures in
    ap (eqb low) c.digit_of-2.ensures ∙ check_low sum c.args.high low ((512 - sum) % 256) c.requires refl high_is
