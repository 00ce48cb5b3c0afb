-- `session` meets its contract: an outcome above 3, too few bytes, or the frame.
use Rattle.meaning.specs.declared.Action.TheVariants.{Session}
use Rattle.meaning.proofs.FrameLaws.{framed_outcome, framed_full, length_session, above_three, within_three}
use Rattle.std.proofs.lemmas.Result.{err_from_is_err_and}
use Rattle.writing.proofs.WriteLaws.{wrote_few}
use Rattle.writing.proofs.write.session.Goals as goal

pub returns-then-outcome-gt3 : goal.returns-then-outcome-gt3
returns-then-outcome-gt3 c =
    let a = c.args in
    framed_outcome a.out.now (Session a.a a.b a.ca a.cb a.outcome) (above_three a.a a.b a.ca a.cb a.outcome c.if-outcome-gt3.true)

pub returns-in_err-room : goal.returns-in_err-room
returns-in_err-room c =
    let a = c.args in
    let p = err_from_is_err_and c.from_residual.result c.from_residual.ensures.1 in
    rw (p.1, p.2) (wrote_few a.out.now (Session a.a a.b a.ca a.cb a.outcome) 27 _ (within_three a.a a.b a.ca a.cb a.outcome c.if-outcome-gt3.false)
    (length_session a.a a.b a.ca a.cb a.outcome) c.in_err-room.ensures.err)

pub returns : goal.returns
returns c =
    let a = c.args in
    framed_full a.out.now c.put_session.new.out (Session a.a a.b a.ca a.cb a.outcome) 27
    (within_three a.a a.b a.ca a.cb a.outcome c.if-outcome-gt3.false) (length_session a.a a.b a.ca a.cb a.outcome) c.in_ok-room.ensures.ok
    c.put_session.ensures
