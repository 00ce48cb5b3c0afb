-- `deliveries::lacks` meets its contract: all that is held has room, or what is due is counted.
use mathlib.Core.Path.{ap, sym}
use Prim.Native.Nat.{ℕ, ◌*◌}
use native.Mathlib.Omega.{arith}
use borrow.Author.Tests.{le-ltb}
use lib.ListN.{length}
use lib.Dec.{ltb}
use Rattle.deliveries.specs.Goes.{due_by}
use Rattle.deliveries.proofs.LentLaws.{due_few, few}
use Rattle.deliveries.proofs.lacks.Goals as goal

pub overflow_mul-by : goal.overflow_mul-by
overflow_mul-by c = let f = few c.args.t.now.words.now c.args.by c.requires in omega arith

pub returns-then-by-room : goal.returns-then-by-room
returns-then-by-room c =
    let t = c.args.t.now.words.now in
    let f = due_few t c.args.by c.requires in
    sym (le-ltb c.args.room (4 * length (due_by t c.args.by)) (omega arith))

pub overflow_mul-result : goal.overflow_mul-result
overflow_mul-result c =
    let f = few c.args.t.now.words.now c.args.by c.requires in
    let d = c.due_of.ensures.1 in
    omega arith

pub returns : goal.returns
returns c = ap (λ (m : ℕ). ltb c.args.room (4 * m)) c.due_of.ensures.0
