-- `deliveries::deliver_alone` meets its contract: refused, or what is due counted and the mark raised.
use native.Mathlib.Omega.{arith}
use Rattle.std.proofs.lemmas.Result.{err_from_is_err_and}
use Rattle.meaning.specs.declared.Action.TheVariants.{Deliver}
use Rattle.meaning.proofs.StepLaws.{refuse}
use Rattle.deliveries.proofs.LentLaws.{few, counted, stays_sound}
use Rattle.deliveries.proofs.deliver_alone.Goals as goal

pub returns-in_err-by-clause-done : goal.returns-in_err-by-clause-done
returns-in_err-by-clause-done c =
    let p = err_from_is_err_and c.from_residual.result c.from_residual.ensures.1 in
    rw (p.1, p.2) (refuse c.args.t.now.words.now (Deliver c.args.node) c.in_err-by.field-0.0 c.in_err-by.ensures)

pub overflow_cast-records : goal.overflow_cast-records
overflow_cast-records c =
    let f = few c.args.t.now.words.now c.in_ok-by.by c.in_ok-by.ensures.1 in
    omega (arith, c.due_of-records.ensures.1)

pub invariant_of-t : goal.invariant_of-t
invariant_of-t c =
    record {
      is_sound = stays_sound c.args.t.now.words.now c.in_ok-by.by c.in_ok-by.ensures.1 c.raise_mark.new.t c.raise_mark.ensures;
    }

pub returns-clause-done : goal.returns-clause-done
returns-clause-done c =
    let by = c.in_ok-by.ensures in
    rw by.0 at
    (counted c.args.t.now.words.now c.in_ok-by.by by.1 c.raise_mark.new.t c.raise_mark.ensures c.due_of-records.result c.due_of-records.ensures.0)
