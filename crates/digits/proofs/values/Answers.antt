-- `values` meets its contract: the loop's invariant is what the bits seen tell of the characters passed, the sum of their bytes, and their numbers in v.
use Rattle.std.proofs.Common.{◌∙◌, refl, arith}
use Rattle.digits.proofs.DigitLaws.{seen_none, seen_more, sum-none, sum_more, told_of, valued_more, valued_all}
use Rattle.digits.proofs.values.Goals as goal

pub loop-k-init : goal.loop-k-init
loop-k-init c =
    let s = c.args.s.now in
    (seen_none s, sum-none s, (c.requires.1, refl))

pub loop-k-preserved : goal.loop-k-preserved
loop-k-preserved c =
    let s = c.args.s.now in
    let loop = c.loop-k in
    let v = c.digit_value-x in
    let more = c.then-pass in (
      rw more.ensures.seen (seen_more s loop.pass.seen loop.k v.result c.loop-k-test.true v.ensures loop.invariant.0),
      sum_more s loop.k v.result loop.pass.sum c.loop-k-test.true v.ensures loop.invariant.1 more.result.sum more.ensures.sum,
      valued_more s loop.v loop.k v.result c.loop-k-test.true v.ensures loop.invariant.2,
    )

pub returns : goal.returns
returns c =
    let s = c.args.s.now in
    let loop = c.loop-k in (
      c.told.ensures ∙ told_of s loop.pass.seen loop.pass.sum loop.k (omega arith) c.requires.0 loop.invariant.0 loop.invariant.1,
      valued_all s loop.v loop.k (omega arith) loop.invariant.2,
    )
