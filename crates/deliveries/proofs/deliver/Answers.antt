-- `deliveries::deliver` meets its contract: refused before the list is looked at or by its length, or the list filled and the mark raised.
use native.Mathlib.Omega.{arith}
use Rattle.std.proofs.lemmas.Result.{err_from_is_err_and}
use Rattle.deliveries.proofs.LentLaws.{few, lent_refused, short, room, filled, stays_sound}
use Rattle.deliveries.proofs.deliver.Goals as goal

pub returns-in_err-by-clause-done : goal.returns-in_err-by-clause-done
returns-in_err-by-clause-done c =
    let p = err_from_is_err_and c.from_residual.result c.from_residual.ensures.1 in
    rw (p.1, p.2) (lent_refused c.args.t.now.words.now c.args.list.now c.args.node c.in_err-by.field-0.0 c.in_err-by.ensures)

pub returns-then-lacks-clause-done : goal.returns-then-lacks-clause-done
returns-then-lacks-clause-done c =
    let by = c.in_ok-by.ensures in
    rw by.0 at (short c.args.t.now.words.now c.args.list.now c.in_ok-by.by by.1 c.lacks.result c.lacks.ensures c.if-lacks.true)

pub fill-records-requires : goal.fill-records-requires
fill-records-requires c =
    let g = c.in_ok-by.ensures.1 in
    record { goes = g; room = room c.args.t.now.words.now c.args.list.now c.in_ok-by.by g c.lacks.result c.lacks.ensures c.if-lacks.false }

pub overflow_cast-records : goal.overflow_cast-records
overflow_cast-records c =
    let f = few c.args.t.now.words.now c.in_ok-by.by c.in_ok-by.ensures.1 in
    omega (arith, c.fill-records.ensures.value.1)

pub invariant_of-t : goal.invariant_of-t
invariant_of-t c =
    record {
      is_sound = stays_sound c.args.t.now.words.now c.in_ok-by.by c.in_ok-by.ensures.1 c.raise_mark.new.t c.raise_mark.ensures;
    }

pub returns-clause-done : goal.returns-clause-done
returns-clause-done c =
    let by = c.in_ok-by.ensures in
    rw by.0 at
    (filled c.args.t.now.words.now c.args.list.now c.in_ok-by.by by.1 c.lacks.result c.lacks.ensures c.if-lacks.false
    c.fill-records.result c.raise_mark.new.t c.fill-records.new.list c.fill-records.ensures.value.0 c.fill-records.ensures.list_after
    c.raise_mark.ensures)
