-- `vector` lends the first n entries of a row; their length is n because the row lies within the table.
use mathlib.Core.Path.{◌≡◌, ap}
use mathlib.Core.List.{List, ◌++◌}
use Prim.Native.Nat.{ℕ, ◌+◌, ◌-◌}
use native.Mathlib.Omega.{arith}
use lib.ListN.{take, drop}
use Rattle.meaning.specs.Table.{count, part}
use Rattle.meaning.specs.Journals.{spaced}
use Rattle.printing.proofs.Printing.{printed_as}
use Rattle.nodeparts.proofs.PartLaws.{between, length_between}
use Rattle.nodeparts.proofs.VectorTable.vector.Goals as goal

pub returns : goal.returns
returns c =
    let t = c.args.self.now.words.now in
    let from = c.args.from in
    let n = c.count_of-n.result in
    let l = length_between from n t (omega arith) in
    let e : take (from + n - from) (drop from t) ≡ part from (count t) t = rw c.count_of-n.ensures (between from (count t) t) in
    printed_as (ap (λ (l : List ℕ). c.args.w.now ++ spaced l) e) (omega arith) c.said_row.ensures
