-- `sides::finish` meets its contract: the columns merged, or both rows raised.
use Rattle.meaning.specs.Table.{form_of}
use Rattle.layout.proofs.FormLaws.{has_columns, has_vectors}
use Rattle.sides.proofs.RowsLaws.{finished_columns, finished_vectors}
use Rattle.sides.proofs.finish.Goals as goal

pub returns-then-has_columns : goal.returns-then-has_columns
returns-then-has_columns c =
    finished_columns c.requires
    (has_columns (form_of c.args.t.now) c.has_columns.result c.has_columns.ensures c.if-has_columns.true)
    c.merge.new.t c.merge.ensures

pub returns : goal.returns
returns c =
    finished_vectors c.requires
    (has_vectors (form_of c.args.t.now) c.has_columns.result c.has_columns.ensures c.if-has_columns.false)
    c.summary_at-at.result c.acks_at.result c.put_raised.new.t c.put_raised-2.new.t
    c.summary_at-at.ensures.0 c.acks_at.ensures c.put_raised.ensures c.put_raised-2.ensures
