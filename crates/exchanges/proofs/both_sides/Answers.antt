-- `exchanges::both_sides` meets its contract: side a, then side b, which still finds what a began with.
use Rattle.exchanges.proofs.Trade.{first, second, traded}
use Rattle.exchanges.proofs.both_sides.Goals as goal

pub side-now_a-requires : goal.side-now_a-requires
side-now_a-requires c = first c.requires

pub side-now_b-requires : goal.side-now_b-requires
side-now_b-requires c = second c.requires c.side-now_a.ensures

pub returns : goal.returns
returns c = traded c.requires c.side-now_a.ensures c.side-now_b.ensures
