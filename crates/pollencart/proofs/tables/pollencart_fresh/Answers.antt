-- `pollencart_fresh` meets its contract: the number of the refusal, 0 for none.
use mathlib.Core.Path.{◌∙◌}
use Rattle.pollencart.proofs.FreshLaws.{fresh_done, fresh_wrong}
use Rattle.pollencart.proofs.tables.pollencart_fresh.Goals as goal

pub returns-in-Ok : goal.returns-in-Ok
returns-in-Ok c = (fresh_done _ _ _ c.fresh.ensures.0 c.in-Ok.is, c.fresh.ensures.1)

pub returns-in-Err : goal.returns-in-Err
returns-in-Err c =
    (c.into.ensures ∙ fresh_wrong _ _ _ c.fresh.ensures.0 _ c.in-Err.is, c.fresh.ensures.1)
