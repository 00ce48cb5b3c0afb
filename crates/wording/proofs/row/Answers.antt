-- `row`: what is printed so far is the row of the numbers passed so far.
use mathlib.Core.Path.{sym, ap, ◌∙◌}
use native.Mathlib.Omega.{arith}
use lib.ListN.{get_or, take}
use Rattle.meaning.specs.Journals.{spaced}
use Rattle.printing.proofs.Writing.{take_more, spaced-none, spaced_more}
use Rattle.printing.proofs.Printing.{printed_none, printed_then, printed_as}
use Rattle.wording.proofs.row.Goals as goal

pub loop-v-init : goal.loop-v-init
loop-v-init c = printed_as spaced-none (omega arith) (printed_none c.args.printer.now 0 (omega arith))

pub loop-v-preserved : goal.loop-v-preserved
loop-v-preserved c =
    let i = c.loop-v.v-index in
    let vs = c.args.vs.now in
    let more = ap spaced (take_more vs i (omega arith)) ∙ spaced_more (take i vs) (get_or vs i 0) in
    printed_as (sym more) (omega arith) (printed_then c.loop-v.invariant c.entry.ensures)
