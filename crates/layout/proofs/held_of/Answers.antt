-- `layout::held_of`: the place that `held_at` gives is the definition's.
use mathlib.Core.Path.{ap}
use lib.ListN.{get_or}
use Rattle.meaning.specs.Table.{held}
use Rattle.layout.proofs.held_of.Goals as goal

pub returns : goal.returns
unfolding held
returns c =
    ap (λ i. get_or c.args.t.now i 0) c.held_at.ensures
