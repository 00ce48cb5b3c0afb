-- `purges::limit_alone` meets its contract: the smaller of the row's smallest entry and the mark.
use mathlib.Core.Path.{ap, ap₂, ◌∙◌}
use Prim.Native.Nat.{min}
use Rattle.meaning.specs.Rows.{least}
use Rattle.meaning.specs.Node.{limit_of}
use Rattle.meaning.specs.Steps.{limit}
use Rattle.purges.proofs.PurgeLaws.{acks_lent}
use Rattle.purges.proofs.limit_alone.Goals as goal

pub returns : goal.returns
unfolding limit limit_of
returns c =
    let t = c.args.t.now.words.now in
    let row = acks_lent t c.args.p c.acks_at-at.result c.args.n c.requires.2 c.acks_at-at.ensures c.requires.1 in
    c.min.ensures ∙ ap₂ min (c.smallest-low.ensures ∙ ap least row) c.mark.ensures
