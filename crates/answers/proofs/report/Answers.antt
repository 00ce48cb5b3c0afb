-- `report` meets its contract.
use native.Mathlib.Omega.{arith}
use Rattle.answers.proofs.ValueLaws.{length_case}
use Rattle.answers.proofs.report.Goals as goal

pub overflow_cast-length : goal.overflow_cast-length
overflow_cast-length c =
    omega (arith, length_case c.args.answer c.in-Ok.bytes c.in-Ok.is c.requires)
