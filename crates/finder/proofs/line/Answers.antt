-- `line` hands back the part that the finder found; the law `line-facts` says that it is the definition's line.
use mathlib.Core.Path.{refl, sym, ◌∙◌}
use native.Mathlib.Omega.{arith}
use borrow.Author.Rules.{rules}
use borrow.Author.Tests.{leb-false}
use lib.ListN.{length}
use Rattle.finder.proofs.Finding.{none_taken, line_facts, unended_facts, unended_line, over_facts, over_line}
use Rattle.finder.proofs.line.Goals as goal

pub slice_bounds-result-count : goal.slice_bounds-result-count
slice_bounds-result-count c =
    let a = c.args in
    let f = line_facts a.s.now a.at _ (sym c.in-Line.ensures) in
    omega arith

pub slice_bounds-result-start : goal.slice_bounds-result-start
slice_bounds-result-start c =
    let a = c.args in
    let f = line_facts a.s.now a.at _ (sym c.in-Line.ensures) in
    omega arith

pub slice_bounds-result-end : goal.slice_bounds-result-end
slice_bounds-result-end c =
    let a = c.args in
    let f = line_facts a.s.now a.at _ (sym c.in-Line.ensures) in
    omega arith

pub slice_bounds-result-end-in-Unended : goal.slice_bounds-result-end-in-Unended
slice_bounds-result-end-in-Unended c =
    let a = c.args in
    let f = unended_facts a.s.now a.at (sym c.in-Unended.ensures) in
    omega (arith, leb-false (length a.s.now) a.at f.0)

pub returns-in-Line : goal.returns-in-Line
returns-in-Line c =
    let a = c.args in
    let f = line_facts a.s.now a.at _ (sym c.in-Line.ensures) in
    record { memory = refl; place = rw f.left (search rules); is = f.part }

pub returns-in-Unended : goal.returns-in-Unended
returns-in-Unended c =
    let a = c.args in
    let e = sym c.in-Unended.ensures in
    let t = a.s.now in
    record { memory = refl; place = rw (unended_facts t a.at e).0 (omega arith); is = none_taken a.at t ∙ unended_line t a.at e }

pub returns-in-Over : goal.returns-in-Over
returns-in-Over c =
    let a = c.args in
    let e = sym c.in-Over.ensures in
    let t = a.s.now in
    record { memory = refl; place = rw (over_facts t a.at e) (search rules); is = none_taken (length t) t ∙ over_line t a.at e }
