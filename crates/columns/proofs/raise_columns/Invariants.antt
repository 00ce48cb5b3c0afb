-- `columns::raise_columns` meets its contract: the columns passed are raised, the others as they were.
use Rattle.std.proofs.Common.{◌≡◌, length}
use Rattle.columns.specs.Merged.{columns_of, brought, put_columns}
use Rattle.columns.proofs.RaiseLaws.{raise_first}
use Rattle.columns.proofs.raise_columns.Given as goal

abbrev pub invariant-loop-k : goal.invariant-loop-k
invariant-loop-k l =
    l.t ≡ put_columns l.p (raise_first l.k (columns_of (length l.sq) l.p l.initial.t) (brought (length l.sq) l.q l.sq l.initial.t)) l.initial.t
