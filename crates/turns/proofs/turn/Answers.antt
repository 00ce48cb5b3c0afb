-- `turn` meets its contract, by the digits that are due.
use native.Mathlib.Omega.{arith}
use Rattle.turns.proofs.TurnLaws.{ended_write, ended_session, ended_short, part-begins, part_short, part_turned, turned_other}
use borrow.Author.Rules.{rules}
use Rattle.turns.proofs.turn.Goals as goal

pub slice_bounds-write_line-end : goal.slice_bounds-write_line-end
slice_bounds-write_line-end c =
    let a = c.args in
    let x = ended_write a.s.now a.at a.due c.requires.1 c.in-24.is in
    omega (arith, x.room)

pub write_line-requires : goal.write_line-requires
write_line-requires c =
    let a = c.args in
    let is = c.in-24.is in
    part-begins a.s.now a.at a.due c.requires.1 24 49 is (ended_write a.s.now a.at a.due c.requires.1 is)

pub slice_bounds-session_line-end : goal.slice_bounds-session_line-end
slice_bounds-session_line-end c =
    let a = c.args in
    let x = ended_session a.s.now a.at a.due c.requires.1 c.in-26.is in
    omega (arith, x.room)

pub session_line-requires : goal.session_line-requires
session_line-requires c =
    let a = c.args in
    let is = c.in-26.is in
    part-begins a.s.now a.at a.due c.requires.1 26 50 is (ended_session a.s.now a.at a.due c.requires.1 is)

pub slice_bounds-short_step-end : goal.slice_bounds-short_step-end
slice_bounds-short_step-end c =
    let a = c.args in
    let x = ended_short a.s.now a.at a.due c.requires.1 c.in-6.is in
    omega (arith, x.0)

pub short_step-requires : goal.short_step-requires
short_step-requires c =
    let a = c.args in
    part_short a.s.now a.at a.due c.requires.1 c.in-6.is

pub returns-in-24-clause-turned : goal.returns-in-24-clause-turned
returns-in-24-clause-turned c =
    let a = c.args in
    part_turned a.s.now a.at a.due c.requires.1 24 c.in-24.is c.write_line.ensures.turned

pub returns-in-26-clause-turned : goal.returns-in-26-clause-turned
returns-in-26-clause-turned c =
    let a = c.args in
    part_turned a.s.now a.at a.due c.requires.1 26 c.in-26.is c.session_line.ensures.turned

pub returns-in-6-clause-turned : goal.returns-in-6-clause-turned
returns-in-6-clause-turned c =
    let a = c.args in
    part_turned a.s.now a.at a.due c.requires.1 6 c.in-6.is c.short_step.ensures.turned

pub returns-in_default-clause-turned : goal.returns-in_default-clause-turned
returns-in_default-clause-turned c =
    let a = c.args in
    turned_other a.s.now a.at a.due c.requires.1 a.t.now.words.now (search rules) (search rules) (search rules)
