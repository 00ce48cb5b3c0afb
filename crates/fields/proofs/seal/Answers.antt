-- `seal` meets its contract: the sum of the bytes before the last, and its wrapped negation there.
use Rattle.std.proofs.Common.{ap, take, ◌∙◌, ◌-◌, length, arith}
use lib.Seq.{take_all}
use Rattle.meaning.specs.Frames.{total}
use Rattle.fields.proofs.FieldLaws.{seal_last}
use Rattle.fields.proofs.seal.Goals as goal

pub returns : goal.returns
returns c =
    let b = c.args.b.now in
    let n = length b - 1 in
    let all = take_all c.loop-x.x-index (take n b) c.loop-x-test.false in
    seal_last b n c.wrapping_neg.result c.loop-x.sum (omega arith) c.wrapping_neg.type_inv (c.loop-x.invariant ∙ ap total all) c.wrapping_neg.ensures
