-- `from_start`: the table made is the fresh one, which is sound; how far the steps came gives the outcome.
use mathlib.Core.Path.{◌∙◌}
use native.Mathlib.Omega.{arith}
use borrow.Author.Rules.{rules}
use Rattle.meaning.specs.Table.{Vectors, fresh}
use Rattle.meaning.proofs.TableLaws.{facts_sound}
use Rattle.run.proofs.Running.{made_fresh_lem, right_sound, steps_within, ran_done, ran_bad}
use Rattle.run.proofs.from_start.Goals as goal

pub invariant_of-sound : goal.invariant_of-sound
invariant_of-sound c =
    let e = c.fresh.ensures.1 ∙ made_fresh_lem c.args.t.now c.args.n c.requires.0 c.requires.1 in
    record { is_sound = rw e (facts_sound (fresh Vectors c.args.n) (right_sound c.args.n c.requires.1)) }

pub overflow_add-result : goal.overflow_add-result
overflow_add-result c =
    let e = c.fresh.ensures.1 ∙ made_fresh_lem c.args.t.now c.args.n c.requires.0 c.requires.1 in
    let few = steps_within c.args.s.now c.args.from c.args.n (rw e at c.apply_from-came.ensures.applied) in
    omega arith

pub returns-in-None : goal.returns-in-None
returns-in-None c =
    let e = c.fresh.ensures.1 ∙ made_fresh_lem c.args.t.now c.args.n c.requires.0 c.requires.1 in
    let done = ran_done c.args.s.now c.args.from c.args.n (rw e at c.apply_from-came.ensures.applied) c.in-None.is in
    search (rules, done)

pub returns-in-Some : goal.returns-in-Some
returns-in-Some c =
    let e = c.fresh.ensures.1 ∙ made_fresh_lem c.args.t.now c.args.n c.requires.0 c.requires.1 in
    let bad = ran_bad c.args.s.now c.args.from c.args.n (rw e at c.apply_from-came.ensures.applied) c.in-Some.fault c.in-Some.is in
    search (rules, bad)
