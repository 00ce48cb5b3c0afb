-- `logs::record_at` meets its contract.
use mathlib.Core.Path.{refl}
use Rattle.meaning.specs.Rows.{record_at}
use Rattle.records.proofs.record_at.Goals as goal

pub returns : goal.returns
unfolding record_at
returns c = refl
