-- `verdicts::count_log`: the held part of the log has the records of the node, and none is refused, since the table is sound.
use Prim.Native.Nat.{◌+◌, ◌-◌, ◌*◌}
use native.Mathlib.Omega.{arith}
use Rattle.meaning.proofs.VerdictLaws.{node-counted}
use Rattle.verdicts.proofs.count_log.Goals as goal

pub returns : goal.returns
returns c =
    node-counted _ _ _ (c.log_at-from.result + 4 * c.held_of-held.result - c.log_at-from.result) _ _ c.requires.t_value.0
    c.requires.t_value.1 c.held_of-held.ensures c.log_at-from.ensures c.count_records.ensures (omega arith)
