-- `said_one` is a word and a number, one after the other.
use Rattle.printing.proofs.Printing.{printed_then}
use Rattle.wording.proofs.said_one.Goals as goal

pub returns : goal.returns
returns c = printed_then c.word.ensures c.entry.ensures
