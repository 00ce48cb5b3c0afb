-- `write_bytes` meets its contract: the fields at their places, then the check.
use Rattle.std.proofs.Common.{arith}
use Rattle.frames.proofs.WriteLaws.{write_fields}
use Rattle.frames.proofs.write_bytes.Goals as goal

pub returns : goal.returns
returns c =
    write_fields _ _ _ c.args.node c.args.timestamp c.args.block c.args.verdict (omega (arith, c.ranges.node)) (omega (arith, c.ranges.verdict))
    c.split.ensures c.split-2.ensures c.seal.ensures
