-- `part_at` hands back the part up to the LF before the next place, and an empty one at its place with a refusal or at the end.
use Rattle.std.proofs.Common.{refl, sym, ap, ◌∙◌, arith, rules, length}
use Rattle.std.specs.Prelude.{Ok}
use borrow.Author.Tests.{leb-false}
use lib.Dec.{eqb}
use Rattle.finder.proofs.Finding.{none_taken}
use Rattle.journal.proofs.Passing.{went_on, refused_inside, end_over}
use Rattle.lineparts.proofs.part_at.Goals as goal

pub overflow_sub-result : goal.overflow_sub-result
overflow_sub-result c =
    let a = c.args in
    let f = went_on (eqb a.at 0) a.s.now a.at a.line c.in-Ok-Some.found (sym c.next_at.ensures ∙ c.in-Ok-Some.is ∙ ap Ok c.in-Ok-Some.field-0-is) in
    omega (arith, c.after.ensures)

pub slice_bounds-result-count : goal.slice_bounds-result-count
slice_bounds-result-count c =
    let a = c.args in
    let f = went_on (eqb a.at 0) a.s.now a.at a.line c.in-Ok-Some.found (sym c.next_at.ensures ∙ c.in-Ok-Some.is ∙ ap Ok c.in-Ok-Some.field-0-is) in
    omega (arith, c.after.ensures)

pub slice_bounds-result-start : goal.slice_bounds-result-start
slice_bounds-result-start c =
    let a = c.args in
    let f = went_on (eqb a.at 0) a.s.now a.at a.line c.in-Ok-Some.found (sym c.next_at.ensures ∙ c.in-Ok-Some.is ∙ ap Ok c.in-Ok-Some.field-0-is) in
    omega (arith, c.after.ensures)

pub slice_bounds-result-end : goal.slice_bounds-result-end
slice_bounds-result-end c =
    let a = c.args in
    let f = went_on (eqb a.at 0) a.s.now a.at a.line c.in-Ok-Some.found (sym c.next_at.ensures ∙ c.in-Ok-Some.is ∙ ap Ok c.in-Ok-Some.field-0-is) in
    omega (arith, c.after.ensures)

pub slice_bounds-result-end-in-Err : goal.slice_bounds-result-end-in-Err
slice_bounds-result-end-in-Err c =
    let a = c.args in
    let f = refused_inside (eqb a.at 0) a.s.now a.at a.line (sym c.in-Err.ensures) in
    omega (arith, leb-false (length a.s.now) a.at f)

pub returns-in-Ok-Some : goal.returns-in-Ok-Some
returns-in-Ok-Some c =
    let a = c.args in
    let e = sym c.next_at.ensures ∙ c.in-Ok-Some.is ∙ ap Ok c.in-Ok-Some.field-0-is in
    let f = went_on (eqb a.at 0) a.s.now a.at a.line c.in-Ok-Some.found e in
    record { memory = refl; place = rw f.left (search rules); is = rw (e, c.after.ensures) f.part }

pub returns-in-Ok-None : goal.returns-in-Ok-None
returns-in-Ok-None c =
    let a = c.args in
    let e = sym c.next_at.ensures ∙ c.in-Ok-None.is ∙ ap Ok c.in-Ok-None.field-0-is in
    let f = end_over (eqb a.at 0) a.s.now a.at a.line e in
    record { memory = refl; place = rw f (search rules); is = rw e (none_taken (length a.s.now) a.s.now) }

pub returns-in-Err : goal.returns-in-Err
returns-in-Err c =
    let a = c.args in
    let e = sym c.in-Err.ensures in
    let f = refused_inside (eqb a.at 0) a.s.now a.at a.line e in
    record { memory = refl; place = rw f (omega arith); is = rw e (none_taken a.at a.s.now) }
