-- `check` meets its contract: a line that is not sure is asked why.
use mathlib.Core.Path.{sym, ◌∙◌, ap}
use Prim.Native.Nat.{◌-◌}
use native.Mathlib.Omega.{arith}
use lib.ListN.{length}
use Rattle.meaning.specs.Frames.{line_fault}
use Rattle.meaning.proofs.FrameLaws.{no_fault}
use Rattle.heads.proofs.HeadLaws.{whole_part, accepted_clear}
use Rattle.reading.proofs.check.Goals as goal

pub returns-then-sure : goal.returns-then-sure
returns-then-sure c =
    let s = c.args.s.now in
    let clear = accepted_clear s (sym c.sure.ensures ∙ c.if-sure.true) in
    no_fault s clear

pub returns : goal.returns
returns c =
    let s = c.args.s.now in
    c.refusal.ensures ∙ ap line_fault (whole_part s (length s - 0) (omega arith))
