-- `held_number` meets its contract: the held number.
use mathlib.Core.Bool.{not}
use mathlib.Core.Path.{ap}
use native.Mathlib.Omega.{arith}
use Rattle.entries.proofs.EntryLaws.{absent, there, is_sound_lem, below, no_held, held_is}
use Rattle.entries.proofs.held_number.Goals as goal

pub returns-then-not-is_present : goal.returns-then-not-is_present
returns-then-not-is_present c = no_held _ _ (absent _ _ c.is_present.result c.is_present.ensures (ap not c.if-not-is_present.true))

pub held_of-requires : goal.held_of-requires
held_of-requires c =
    let h = there _ _ c.is_present.result c.is_present.ensures (ap not c.if-not-is_present.false) in
    ((is_sound_lem _ _ h).long, omega (arith, below _ _ h))

pub returns : goal.returns
returns c =
    held_is _ _ _ (there _ _ c.is_present.result c.is_present.ensures (ap not c.if-not-is_present.false)) c.held_of.ensures
