-- `said_row` is a word and a row, one after the other.
use Rattle.printing.proofs.Printing.{printed_then}
use Rattle.wording.proofs.said_row.Goals as goal

pub returns : goal.returns
returns c = printed_then c.word.ensures c.row.ensures
