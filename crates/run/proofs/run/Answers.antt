-- `run` goes by the table's length and by what the journal begins with.
use mathlib.Core.Path.{sym, ap, ◌∙◌}
use native.Mathlib.Omega.{arith}
use Rattle.std.specs.Prelude.{true, Option, Some, Ok}
use Rattle.meaning.specs.declared.NextLine.{NextLine}
use Rattle.meaning.proofs.AccountJournals.{begin_right}
use Rattle.journal.proofs.Passing.{begun}
use Rattle.run.proofs.Running.{run_wrong, run-begun, run-broken, run_not_begun, act_is, end_is, refused_is}
use Rattle.run.proofs.run.Goals as goal

pub returns-then-t-ne-TABLE_WORDS : goal.returns-then-t-ne-TABLE_WORDS
returns-then-t-ne-TABLE_WORDS c = run_wrong c.args.t.now c.args.s.now c.if-t-ne-TABLE_WORDS.true

pub from_start-requires : goal.from_start-requires
from_start-requires c =
    let s = c.args.s.now in
    let x = c.in-Ok-Some-Begin in
    let e = sym x.ensures ∙ ap (λ (o : Option NextLine). Ok o) (x.field-0-is ∙ ap (λ (y : NextLine). Some y) x.field-0-0-is) in
    let p = begun true s 0 1 e in
    (c.if-t-ne-TABLE_WORDS.false, begin_right true s 0 1 e, omega (arith, p.start), p.within)

pub returns-in-Ok-Some-Begin : goal.returns-in-Ok-Some-Begin
returns-in-Ok-Some-Begin c =
    let x = c.in-Ok-Some-Begin in
    let e = sym x.ensures ∙ ap (λ (o : Option NextLine). Ok o) (x.field-0-is ∙ ap (λ (y : NextLine). Some y) x.field-0-0-is) in
    run-begun c.args.t.now c.args.s.now c.if-t-ne-TABLE_WORDS.false e (begin_right true c.args.s.now 0 1 e) c.from_start.ensures

pub returns-in-Ok-Some-Act : goal.returns-in-Ok-Some-Act
returns-in-Ok-Some-Act c =
    let x = c.in-Ok-Some-Act in
    let e = sym x.ensures ∙ ap (λ (o : Option NextLine). Ok o) (x.field-0-is ∙ ap (λ (y : NextLine). Some y) x.field-0-0-is) in
    rw c.unbegun.ensures (run_not_begun c.args.t.now c.args.s.now c.if-t-ne-TABLE_WORDS.false (act_is c.args.s.now e))

pub returns-in-Ok-None : goal.returns-in-Ok-None
returns-in-Ok-None c =
    let x = c.in-Ok-None in
    let e = sym x.ensures ∙ ap (λ (o : Option NextLine). Ok o) x.field-0-is in
    rw c.unbegun-in-Ok-None.ensures (run_not_begun c.args.t.now c.args.s.now c.if-t-ne-TABLE_WORDS.false (end_is c.args.s.now e))

pub returns-in-Err : goal.returns-in-Err
returns-in-Err c =
    run-broken c.args.t.now c.args.s.now c.in-Err.fault c.if-t-ne-TABLE_WORDS.false (refused_is c.args.s.now (sym c.in-Err.ensures))
