-- `pairs::Pair::slot`: the slot as it is defined; both products fit into 64 bits, and so does their sum.
use borrow.Author.Rules.{rules}
use Rattle.pairs.specs.Chains.{slot_of}
use Rattle.pairs.proofs.Pair.slot.Goals as goal

pub returns : goal.returns
unfolding slot_of
returns c = search rules
