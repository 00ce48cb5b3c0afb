-- `layout::summary_at`: one place for each form.
use mathlib.Core.Path.{◌∙◌}
use native.Mathlib.Omega.{arith}
use Rattle.meaning.specs.Table.{form_of}
use Rattle.layout.proofs.FormLaws.{columns_long, summary_columns, summary_vectors}
use Rattle.layout.proofs.summary_at.Goals as goal

pub returns-then-has_columns : goal.returns-then-has_columns
returns-then-has_columns c =
    let t = c.args.t.now in
    let test = c.has_columns.result in
    let is = c.has_columns.ensures in
    let place = summary_columns (form_of t) c.args.p test is c.if-has_columns.true in
    let in_columns = columns_long t test is c.if-has_columns.true c.requires.0 in
    (c.column_at.ensures ∙ place, omega arith)

pub returns : goal.returns
returns c =
    (summary_vectors (form_of c.args.t.now) c.args.p c.has_columns.result c.has_columns.ensures c.if-has_columns.false, omega arith)
