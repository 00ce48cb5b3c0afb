-- `layout::is_long`: the length of vectors, or else that of columns.
use Rattle.layout.proofs.FormLaws.{right_vectors, right_columns}
use Rattle.layout.proofs.is_long.Goals as goal

pub returns-then-t-eq-TABLE_WORDS : goal.returns-then-t-eq-TABLE_WORDS
returns-then-t-eq-TABLE_WORDS c = right_vectors c.args.t.now c.if-t-eq-TABLE_WORDS.true

pub returns-else-t-eq-TABLE_WORDS : goal.returns-else-t-eq-TABLE_WORDS
returns-else-t-eq-TABLE_WORDS c = right_columns c.args.t.now c.if-t-eq-TABLE_WORDS.false
