-- `settle` meets its contract: a law for each clause, in their order; the rest is `spelled`'s.
use mathlib.Core.Path.{sym, ◌∙◌, ap}
use lib.ListN.{length}
use Rattle.std.specs.Prelude.{Some}
use Rattle.faults.proofs.FaultLaws.{stray_some_of, stray_none_of, odd_fault, none_fault, even_of, some_of}
use Rattle.faults.proofs.settle.Goals as goal

pub returns-in-Some : goal.returns-in-Some
returns-in-Some c = stray_some_of c.args.s.now c.in-Some.stray (sym c.in-Some.is ∙ c.stray_at.ensures)

pub returns-then-long-eq1 : goal.returns-then-long-eq1
returns-then-long-eq1 c =
    let s = c.args.s.now in
    odd_fault s (stray_none_of s (sym c.in_default.is ∙ c.stray_at.ensures)) c.if-long-eq1.true

pub returns-then-long-eq0 : goal.returns-then-long-eq0
returns-then-long-eq0 c =
    let s = c.args.s.now in
    ap Some c.from.ensures ∙ none_fault s (stray_none_of s (sym c.in_default.is ∙ c.stray_at.ensures)) c.if-long-eq0.true

pub spelled-requires : goal.spelled-requires
spelled-requires c =
    let s = c.args.s.now in
    (stray_none_of s (sym c.in_default.is ∙ c.stray_at.ensures), even_of (length s) c.if-long-eq1.false, some_of (length s) c.if-long-eq0.false)
