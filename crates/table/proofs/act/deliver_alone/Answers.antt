-- `table::act::deliver_alone` meets its contract: refused where the scan finds the table unsound, or what the action does.
use Rattle.std.proofs.lemmas.Result.{err_from_is_err_and}
use Rattle.meaning.specs.declared.Refusal.TheVariants.{Unsound}
use Rattle.meaning.proofs.StepLaws.{refuse, unsound_refusal}
use Rattle.table.proofs.act.deliver_alone.Goals as goal

pub returns-in_err-scanned : goal.returns-in_err-scanned
returns-in_err-scanned c =
    let p = err_from_is_err_and c.from_residual.result c.from_residual.ensures.1 in
    let unsound = c.in_err-scanned.ensures.unsound in
    rw (p.1, p.2, unsound.0) (refuse _ _ Unsound (unsound_refusal _ _ unsound.1))
