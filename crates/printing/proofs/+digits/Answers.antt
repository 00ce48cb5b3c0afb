-- `digits` follows the definition's clauses: no digit, one digit, or the digits of a tenth and one more.
use mathlib.Core.Path.{sym}
use native.Mathlib.Omega.{arith}
use Prim.Native.Nat.{◌+◌, ◌%◌}
use Rattle.printing.proofs.Writing.{wrote_none, wrote_one, wrote_then, wrote_as, digits_none, digits_one, digits_more}
use Rattle.printing.proofs.+digits.Goals as goal

pub returns-then-most-eq0 : goal.returns-then-most-eq0
returns-then-most-eq0 t c =
    rw c.if-most-eq0.true (wrote_as (sym (digits_none c.args.v)) (omega arith) (wrote_none c.args.out.now c.args.at 0))

pub returns-then-v-lt10 : goal.returns-then-v-lt10
returns-then-v-lt10 t c =
    wrote_as (sym (digits_one c.args.most c.args.v c.if-most-eq0.false c.if-v-lt10.true)) (omega arith)
    (wrote_one c.args.out.now c.args.at (48 + c.args.v % 10) (omega arith))

pub returns : goal.returns
returns t c =
    wrote_as (sym (digits_more c.args.most c.args.v c.if-most-eq0.false c.if-v-lt10.false)) (omega arith)
    (wrote_then (omega arith) c.digits-end.ensures (wrote_one _ c.digits-end.result (48 + c.args.v % 10) (omega arith)))
