-- `session_bytes` meets its contract: the fields at their places, then the check.
use Rattle.std.proofs.Common.{arith}
use Rattle.frames.proofs.WriteLaws.{session_fields}
use Rattle.frames.proofs.session_bytes.Goals as goal

pub returns : goal.returns
returns c =
    session_fields _ _ _ c.args.a c.args.b c.args.ca c.args.cb c.args.outcome
    (omega (arith, c.ranges.a)) (omega (arith, c.ranges.b)) (omega (arith, c.ranges.outcome)) c.split.ensures c.split-2.ensures c.seal.ensures
