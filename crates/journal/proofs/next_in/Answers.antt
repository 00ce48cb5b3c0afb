-- `next_in` goes by what the finder found, in the order of the refusals.
use mathlib.Core.Path.{sym, ◌∙◌}
use native.Mathlib.Omega.{arith}
use lib.ListN.{length}
use borrow.Author.Tests.{leb-false}
use Rattle.finder.proofs.Finding.{line_facts, unended_facts}
use Rattle.journal.proofs.Passing.{next_over, next_unended, next_line}
use Rattle.journal.proofs.next_in.Goals as goal

pub overflow_sub-result : goal.overflow_sub-result
overflow_sub-result c =
    let a = c.args in
    let f = unended_facts a.s.now a.at (sym c.in-Unended.ensures) in
    omega (arith, leb-false (length a.s.now) a.at f.0)

pub slice_bounds-said-count : goal.slice_bounds-said-count
slice_bounds-said-count c =
    let a = c.args in
    let f = line_facts a.s.now a.at _ (sym c.in-Line.ensures) in
    omega arith

pub slice_bounds-said-start : goal.slice_bounds-said-start
slice_bounds-said-start c =
    let a = c.args in
    let f = line_facts a.s.now a.at _ (sym c.in-Line.ensures) in
    omega arith

pub slice_bounds-said-end : goal.slice_bounds-said-end
slice_bounds-said-end c =
    let a = c.args in
    let f = line_facts a.s.now a.at _ (sym c.in-Line.ensures) in
    omega arith

pub overflow_add-end : goal.overflow_add-end
overflow_add-end c =
    let a = c.args in
    let f = line_facts a.s.now a.at _ (sym c.in-Line.ensures) in
    omega arith

pub returns-in-Over : goal.returns-in-Over
returns-in-Over c =
    let a = c.args in
    next_over a.first a.s.now a.at a.line (sym c.in-Over.ensures)

pub returns-in-Unended : goal.returns-in-Unended
returns-in-Unended c =
    let a = c.args in
    next_unended a.first a.s.now a.at a.line (sym c.in-Unended.ensures)

pub returns-in-Line : goal.returns-in-Line
returns-in-Line c =
    let a = c.args in
    c.said.ensures ∙ next_line a.first a.s.now a.at _ a.line (sym c.in-Line.ensures)
