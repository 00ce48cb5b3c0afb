-- `put_sure` meets its contract: an arm for each length.
use mathlib.Core.Path.{subst}
use mathlib.Core.List.{List}
use Prim.Native.Nat.{ℕ}
use native.Mathlib.Omega.{arith}
use Rattle.heads.proofs.HeadLaws.{whole_part}
use Rattle.heads.proofs.QuickLaws.{other_refused}
use Rattle.six.specs.Six.{Puts}
use Rattle.six.proofs.SixLaws.{puts_not}
use Rattle.words.proofs.put_sure.Goals as goal

pub returns-then-s-lt24 : goal.returns-then-s-lt24
returns-then-s-lt24 c = c.put_short.ensures

pub returns-in-24 : goal.returns-in-24
returns-in-24 c =
    let s = c.args.s.now in
    let whole = whole_part s 24 (omega arith) in
    let put = c.put_write in
    subst (λ (l : List ℕ). Puts l c.args.words.now put.result put.new.words) whole put.ensures

pub returns-in-26 : goal.returns-in-26
returns-in-26 c =
    let s = c.args.s.now in
    let whole = whole_part s 26 (omega arith) in
    let put = c.put_session in
    subst (λ (l : List ℕ). Puts l c.args.words.now put.result put.new.words) whole put.ensures

pub returns-in_default : goal.returns-in_default
returns-in_default c =
    let s = c.args.s.now in
    puts_not s c.args.words.now (other_refused s c.if-s-lt24.false (omega arith) (omega arith))
