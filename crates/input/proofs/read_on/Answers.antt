-- `read_on`: what is answered is what the read's answer makes of the input.
use Rattle.input.proofs.ReadingLaws.{to_within, to_told}
use Rattle.input.proofs.read_on.Goals as goal

pub returns-clause-within : goal.returns-clause-within
returns-clause-within g c = rw c.read_to.ensures (to_within _ c.args.at _ c.requires)

pub returns-clause-told : goal.returns-clause-told
returns-clause-told g c = rw c.read_to.ensures (to_told _ c.args.at _)
