-- `summary_of` meets its contract: the entry of the summary row.
use mathlib.Core.Bool.{not}
use mathlib.Core.Path.{ap}
use native.Mathlib.Omega.{arith}
use Rattle.entries.proofs.EntryLaws.{absent, there, is_sound_lem, below, no_summary, summary_is}
use Rattle.entries.proofs.summary_of.Goals as goal

pub returns-then-not-is_present : goal.returns-then-not-is_present
returns-then-not-is_present c = no_summary _ _ _ (absent _ _ c.is_present.result c.is_present.ensures (ap not c.if-not-is_present.true))

pub summary_at-requires : goal.summary_at-requires
summary_at-requires c =
    let h = there _ _ c.is_present.result c.is_present.ensures (ap not c.if-not-is_present.false) in
    ((is_sound_lem _ _ h).long, omega (arith, below _ _ h))

pub entry-requires : goal.entry-requires
entry-requires c =
    let h = there _ _ c.is_present.result c.is_present.ensures (ap not c.if-not-is_present.false) in
    (is_sound_lem _ _ h, c.summary_at.ensures.1)

pub returns : goal.returns
returns c =
    let h = there _ _ c.is_present.result c.is_present.ensures (ap not c.if-not-is_present.false) in
    summary_is _ _ _ _ _ h c.summary_at.ensures.0 c.entry.ensures
