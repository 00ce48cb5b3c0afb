-- `deliveries::log_of` meets its contract: the log that is lent is the node's.
use native.Mathlib.Omega.{arith}
use Rattle.deliveries.proofs.LentLaws.{may, few, log_ends, log_is}
use Rattle.deliveries.proofs.log_of.Goals as goal

pub log_at-at-requires : goal.log_at-at-requires
log_at-at-requires c =
    let m = may _ c.args.by c.requires in
    let s = m.is_sound in
    (s.long, omega (arith, s.high, m.here))

pub overflow_mul-end : goal.overflow_mul-end
overflow_mul-end c = let f = few _ c.args.by c.requires in omega arith

pub overflow_add-end : goal.overflow_add-end
overflow_add-end c = let f = log_ends _ c.args.by c.requires c.log_at-at.result c.log_at-at.ensures in omega arith

pub offset_bounds-t-at : goal.offset_bounds-t-at
offset_bounds-t-at c = let f = log_ends _ c.args.by c.requires c.log_at-at.result c.log_at-at.ensures in omega arith

pub slice_bounds-result-end : goal.slice_bounds-result-end
slice_bounds-result-end c = log_ends _ c.args.by c.requires c.log_at-at.result c.log_at-at.ensures

pub returns : goal.returns
returns c = log_is _ c.args.by c.requires c.log_at-at.result c.log_at-at.ensures
