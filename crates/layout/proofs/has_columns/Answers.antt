-- `layout::has_columns`: the length tells the form.
use Rattle.layout.proofs.FormLaws.{columns_length}
use Rattle.layout.proofs.has_columns.Goals as goal

pub returns : goal.returns
returns c = columns_length c.args.t.now
