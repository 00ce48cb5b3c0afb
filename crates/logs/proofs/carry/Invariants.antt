-- `logs::carry` meets its contract: the invariant says that the newer records of the rows passed stand at `to` and the rest is as it was.
use mathlib.Core.Path.{◌≡◌}
use mathlib.Core.List.{List}
use Prim.Native.Nat.{ℕ}
use lib.ListN.{length}
use Rattle.meaning.specs.declared.Record.{Record}
use Rattle.meaning.specs.Rows.{newer, words}
use Rattle.meaning.specs.Table.{place}
use Rattle.logs.specs.Carry.{log_records}
use Rattle.logs.proofs.carry.Given as goal

-- the newer of the first i records, and the table with them carried
abbrev pub sent : List ℕ → ℕ → ℕ → List ℕ → List Record
sent s from i t = newer s (log_records from i t)

abbrev pub carried_to : List ℕ → ℕ → ℕ → ℕ → List ℕ → List ℕ
carried_to s from to i t = place to (words (sent s from i t)) t

abbrev pub invariant-loop-row : goal.invariant-loop-row
invariant-loop-row l = (length l.t ≡ length l.initial.t) × (l.carried ≡ length (sent l.summary l.from l.row l.initial.t)) ×
    (l.t ≡ carried_to l.summary l.from l.to l.row l.initial.t)
