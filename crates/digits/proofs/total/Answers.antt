-- `total` meets its contract: the loop's invariant is what the bits seen tell of the characters passed, and the sum of their bytes.
use Rattle.std.proofs.Common.{◌∙◌, arith}
use Rattle.digits.proofs.DigitLaws.{seen_none, seen_more, sum-none, sum_more, told_of}
use Rattle.digits.proofs.total.Goals as goal

pub loop-k-init : goal.loop-k-init
loop-k-init c =
    let s = c.args.s.now in
    (seen_none s, sum-none s)

pub loop-k-preserved : goal.loop-k-preserved
loop-k-preserved c =
    let s = c.args.s.now in
    let loop = c.loop-k in
    let v = c.digit_value in
    let more = c.then-pass in (
      rw more.ensures.seen (seen_more s loop.pass.seen loop.k v.result c.loop-k-test.true v.ensures loop.invariant.0),
      sum_more s loop.k v.result loop.pass.sum c.loop-k-test.true v.ensures loop.invariant.1 more.result.sum more.ensures.sum,
    )

pub returns : goal.returns
returns c =
    let loop = c.loop-k in
    c.told.ensures ∙ told_of c.args.s.now loop.pass.seen loop.pass.sum loop.k (omega arith) c.requires loop.invariant.0 loop.invariant.1
