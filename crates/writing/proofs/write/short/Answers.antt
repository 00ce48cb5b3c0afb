-- `short` meets its contract: too few bytes, or the frame.
use Rattle.std.proofs.lemmas.Result.{err_from_is_err_and}
use Rattle.writing.proofs.WriteLaws.{short_few, short_full}
use Rattle.writing.proofs.write.short.Goals as goal

pub returns-in_err-room : goal.returns-in_err-room
returns-in_err-room c =
    let p = err_from_is_err_and c.from_residual.result c.from_residual.ensures.1 in
    rw (p.1, p.2) (short_few c.args.out.now c.args.kind c.args.n _ c.requires c.in_err-room.ensures.err)

pub returns : goal.returns
returns c = short_full c.args.out.now c.put_short.new.out c.args.kind c.args.n c.requires c.in_ok-room.ensures.ok c.put_short.ensures
