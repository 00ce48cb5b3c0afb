-- `take_turn`: a line that is due ends within what is lent.
use native.Mathlib.Omega.{arith}
use Rattle.lines.proofs.Applying.{due_within}
use Rattle.lines.proofs.take_turn.Goals as goal

pub overflow_add-next : goal.overflow_add-next
overflow_add-next c =
    let room = due_within c.args.s.now c.args.at c.in_ok-due.due c.in_ok-due.ensures in
    omega (arith, room)

pub overflow_add-next-2 : goal.overflow_add-next-2
overflow_add-next-2 c =
    let room = due_within c.args.s.now c.args.at c.in_ok-due.due c.in_ok-due.ensures in
    omega (arith, room)
