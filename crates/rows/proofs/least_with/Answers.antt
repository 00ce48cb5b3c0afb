-- `rows::least_with` meets its contract: the invariant is that of a search for the smallest (`LeastLaws.Found`).
use Rattle.std.proofs.Common.{ℕ, ◌<◌, ◌≤◌, List, length, get_or, set, arith}
use Rattle.std.proofs.lemmas.Grind.{common_steps}
use Rattle.std.proofs.Math.ListN.{length-set}
use Rattle.rows.proofs.LeastLaws.{found-all}
use Rattle.rows.proofs.least_with.Goals as goal

small : (row : List ℕ) (i v at : ℕ) → i < length row → v ≤ 4294967295 → get_or row at 0 ≤ 4294967295 → get_or (set row i v) at 0 ≤ 4294967295
small row i v at h fits most = grind (arith, common_steps)

pub returns : goal.returns
returns c =
    let row = c.args.row.now in
    let at = c.loop-k.at in
    let most = c.type_inv.row at in
    found-all (set row c.args.i c.args.v) c.loop-k.low at c.loop-k.k (omega (arith, length-set row c.args.i c.args.v)) c.loop-k.invariant
    (small row c.args.i c.args.v at c.requires (omega arith) (omega arith))
