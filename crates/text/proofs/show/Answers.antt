-- `show` writes nothing into a buffer that is too short.
use native.Mathlib.Omega.{arith}
use Rattle.printing.proofs.Writing.{wrote_as, wrote_none}
use Rattle.text.proofs.Lines.{text_short, whole}
use Rattle.text.proofs.show.Goals as goal

pub returns-then-out-lt-TEXT_MOST : goal.returns-then-out-lt-TEXT_MOST
returns-then-out-lt-TEXT_MOST c =
    let out = c.args.out.now in
    let w = wrote_as {most' = 0} (text_short out c.args.outcome c.args.t.now c.if-out-lt-TEXT_MOST.true) (omega arith) (wrote_none out 0 0) in
    whole {most = 0} (omega arith) (omega arith) w
