-- `purges::first_of` meets its contract: the part that is lent is the rows of the node's log that hold records.
use Rattle.meaning.specs.Steps.{leaving}
use Rattle.purges.proofs.PurgeLaws.{held_lent, first_told}
use Rattle.purges.proofs.first_of.Goals as goal

pub first_leaving-requires : goal.first_leaving-requires
first_leaving-requires g c =
    let d = c.requires in
    rw (held_lent c.args.t.now d.is_sound c.args.p c.args.held d.there d.room c.log_at-at.result c.log_at-at.ensures) d.askable

pub returns : goal.returns
returns g c =
    let d = c.requires in
    let t = c.args.t.now in
    let p = c.args.p in
    let k = c.args.held in
    let lent = held_lent t d.is_sound p k d.there d.room c.log_at-at.result c.log_at-at.ensures in
    first_told t d.is_sound p k d.there d.room (leaving t p) c.first_leaving.result
    (rw lent at (c.first_leaving.ensures (leaving t p) (rw lent d.follows)))
