-- `purges::limit_of` meets its contract: the smaller of the row's smallest entry and the mark, and the node of the entry.
use mathlib.Core.Path.{ap₂, ◌∙◌}
use Prim.Native.Nat.{min}
use Rattle.meaning.specs.Node.{limit_of}
use Rattle.meaning.specs.Steps.{limit}
use Rattle.purges.proofs.limit_of.Goals as goal

pub returns : goal.returns
unfolding limit limit_of
returns c =
    let low = c.low_of-low.ensures in
    (c.min-value.ensures ∙ ap₂ min low.0 c.mark.ensures, low.1, low.2)
