-- `layout::count_of`: the word read is the definition's, by computation.
use mathlib.Core.Path.{refl}
use Rattle.meaning.specs.Table.{count}
use Rattle.layout.proofs.count_of.Goals as goal

pub returns : goal.returns
unfolding count
returns c = refl
