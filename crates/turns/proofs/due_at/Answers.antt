-- `due_at` meets its contract, by the kind's two characters.
use mathlib.Core.Path.{ap}
use Rattle.turns.specs.Turns.{some_due}
use Prim.Native.Nat.{◌+◌}
use lib.ListN.{get_or}
use Rattle.turns.proofs.TurnLaws.{due_other, due-none, due_short, due-nothing}
use borrow.Author.Rules.{rules}
use Rattle.turns.proofs.due_at.Goals as goal

pub returns-then-s-at-lt7 : goal.returns-then-s-at-lt7
returns-then-s-at-lt7 c =
    ap some_due (due_short c.args.s.now c.args.at c.if-s-at-lt7.true)

pub returns-then-s-at-ne48 : goal.returns-then-s-at-ne48
returns-then-s-at-ne48 c =
    let s = c.args.s.now in
    let at = c.args.at in
    ap some_due (due-nothing s at (due-none (get_or s at 0) (get_or s (at + 1) 0) c.if-s-at-ne48.true))

pub returns-in_default : goal.returns-in_default
returns-in_default c =
    let s = c.args.s.now in
    let at = c.args.at in
    ap some_due (due-nothing s at
    (due_other (get_or s at 0) (get_or s (at + 1) 0) c.if-s-at-ne48.false (search rules) (search rules) (search rules) (search rules)))
