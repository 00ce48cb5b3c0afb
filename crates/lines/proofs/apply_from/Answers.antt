-- `apply_from`: at every line, what is left gives the answer and the table of the whole (`Reached`).
use mathlib.Core.Path.{sym, ap, ◌∙◌}
use Rattle.std.specs.Prelude.{Option, Some, Ok}
use Rattle.meaning.specs.declared.NextLine.{NextLine}
use mathlib.Core.Bool.{false}
use Prim.Native.Nat.{◌+◌}
use native.Mathlib.Omega.{arith}
use lib.ListN.{length}
use borrow.Author.Tests.{leb-false}
use borrow.Author.Rules.{rules}
use Rattle.meaning.proofs.TableLaws.{sound_facts}
use Rattle.meaning.proofs.JournalLaws.{steps_begin, steps_refused}
use Rattle.journal.proofs.Passing.{begun, acted, refused_inside}
use Rattle.lines.proofs.Applying.{reached_start, reached_step, reached_turn, reached_kept, reached_bad, reached_end}
use Rattle.lines.proofs.apply_from.Goals as goal

pub loop-x-init : goal.loop-x-init
loop-x-init c =
    let t = c.args.t.now in
    (reached_start c.args.s.now c.args.from c.args.first t.words.now (sound_facts t.words.now t.is_sound) c.requires.1, search rules)

pub loop-x-smaller-in-Some : goal.loop-x-smaller-in-Some
loop-x-smaller-in-Some c =
    let y = reached_turn c.loop-x.invariant.0 c.in-Some.x c.in-Some.ensures.taken c.take_turn.new.t.is_sound in
    omega (arith, y.1, y.2)

pub loop-x-preserved-in-Some : goal.loop-x-preserved-in-Some
loop-x-preserved-in-Some c =
    let y = reached_turn c.loop-x.invariant.0 c.in-Some.x c.in-Some.ensures.taken c.take_turn.new.t.is_sound in
    (rw c.count-refused.ensures y.0, search rules)

pub returns-in-Ok-Some-Begin-clause-applied : goal.returns-in-Ok-Some-Begin-clause-applied
returns-in-Ok-Some-Begin-clause-applied c =
    let l = c.loop-x in
    let kept = reached_kept l.invariant.0 c.in_default.ensures.taken in
    let x = c.in-Ok-Some-Begin in
    let e = sym x.ensures ∙ ap (λ (o : Option NextLine). Ok o) (x.field-0-is ∙ ap (λ (y : NextLine). Some y) x.field-0-0-is) in
    let p = begun false c.args.s.now l.stop (c.args.first + l.steps) e in
    rw (c.halted.ensures, c.into.ensures)
    (reached_bad kept _ (omega arith) (steps_begin _ c.args.s.now l.stop (c.args.first + l.steps) e))

pub loop-x-smaller : goal.loop-x-smaller
loop-x-smaller c =
    let l = c.loop-x in
    let x = c.in-Ok-Some-Act in
    let e = sym x.ensures ∙ ap (λ (o : Option NextLine). Ok o) (x.field-0-is ∙ ap (λ (y : NextLine). Some y) x.field-0-0-is) in
    let p = acted false c.args.s.now l.stop (c.args.first + l.steps) e in
    omega (arith, p.start, p.within)

pub loop-x-preserved : goal.loop-x-preserved
loop-x-preserved c =
    let l = c.loop-x in
    let kept = reached_kept l.invariant.0 c.in_default.ensures.taken in
    let x = c.in-Ok-Some-Act in
    let e = sym x.ensures ∙ ap (λ (o : Option NextLine). Ok o) (x.field-0-is ∙ ap (λ (y : NextLine). Some y) x.field-0-0-is) in
    let p = acted false c.args.s.now l.stop (c.args.first + l.steps) e in
    let y = reached_step kept e p.start p.within c.step.new.t.is_sound c.step.ensures.stepped in
    (rw c.count-refused-in-Ok-Some-Act.ensures y, search rules)

pub returns-in-Ok-None-clause-applied : goal.returns-in-Ok-None-clause-applied
returns-in-Ok-None-clause-applied c =
    let l = c.loop-x in
    let kept = reached_kept l.invariant.0 c.in_default.ensures.taken in
    rw c.halted-in-Ok-None.ensures (reached_end kept (sym c.in-Ok-None.ensures ∙ ap (λ (o : Option NextLine). Ok o) c.in-Ok-None.field-0-is))

pub returns-in-Err-clause-applied : goal.returns-in-Err-clause-applied
returns-in-Err-clause-applied c =
    let l = c.loop-x in
    let kept = reached_kept l.invariant.0 c.in_default.ensures.taken in
    let s = c.args.s.now in
    let e = sym c.in-Err.ensures in
    let inside = leb-false (length s) l.stop (refused_inside false s l.stop (c.args.first + l.steps) e) in
    rw c.halted-in-Err.ensures (reached_bad kept c.in-Err.fault inside (steps_refused _ s l.stop (c.args.first + l.steps) e))
