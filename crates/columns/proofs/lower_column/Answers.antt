-- `columns::lower_column` meets its contract: the column that is lent stands where the definition says.
use mathlib.Core.Path.{ap, ◌∙◌}
use lib.ListN.{length}
use Rattle.meaning.specs.Rows.{least, lower}
use Rattle.meaning.specs.Table.{column_at}
use Rattle.columns.proofs.InPlace.{part_there}
use Rattle.columns.proofs.lower_column.Goals as goal

pub returns : goal.returns
returns c =
    let row = c.args.row.now in
    let lent = part_there c.args.t.now c.column_at-at.result (column_at c.args.p c.args.k) (length row)
    c.column_at-at.ensures in (
      c.lower_by.ensures.0 ∙ ap (lower row) lent,
      c.lower_by.ensures.1 ∙ ap least lent,
    )
