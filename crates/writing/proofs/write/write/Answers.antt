-- `write` meets its contract: too few bytes, or the frame.
use Rattle.std.proofs.Common.{refl}
use Rattle.meaning.specs.declared.Action.TheVariants.{Write}
use Rattle.meaning.specs.Steps.{outcome_above}
use Rattle.meaning.proofs.FrameLaws.{framed_full, length_write}
use Rattle.std.proofs.lemmas.Result.{err_from_is_err_and}
use Rattle.writing.proofs.WriteLaws.{wrote_few}
use Rattle.writing.proofs.write.write.Goals as goal

pub returns-in_err-room : goal.returns-in_err-room
unfolding outcome_above
returns-in_err-room c =
    let p = err_from_is_err_and c.from_residual.result c.from_residual.ensures.1 in
    rw (p.1, p.2) (wrote_few c.args.out.now (Write c.args.node c.args.timestamp c.args.block c.args.verdict) 25 _ refl
    (length_write c.args.node c.args.timestamp c.args.block c.args.verdict) c.in_err-room.ensures.err)

pub returns : goal.returns
unfolding outcome_above
returns c =
    framed_full c.args.out.now c.put_write.new.out (Write c.args.node c.args.timestamp c.args.block c.args.verdict) 25 refl
    (length_write c.args.node c.args.timestamp c.args.block c.args.verdict) c.in_ok-room.ensures.ok c.put_write.ensures
