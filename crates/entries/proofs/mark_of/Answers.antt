-- `mark_of` meets its contract: the word where the mark stands.
use mathlib.Core.Bool.{not}
use mathlib.Core.Path.{ap}
use native.Mathlib.Omega.{arith}
use Rattle.entries.proofs.EntryLaws.{absent, there, is_sound_lem, below, no_mark, mark_is}
use borrow.Author.Rules.{rules}
use Rattle.entries.proofs.mark_of.Goals as goal

pub returns-then-not-is_present : goal.returns-then-not-is_present
returns-then-not-is_present c = no_mark _ _ (absent _ _ c.is_present.result c.is_present.ensures (ap not c.if-not-is_present.true))

pub mark_at-requires : goal.mark_at-requires
mark_at-requires c =
    let h = there _ _ c.is_present.result c.is_present.ensures (ap not c.if-not-is_present.false) in
    ((is_sound_lem _ _ h).long, omega (arith, below _ _ h))

pub offset_bounds-table-mark_at : goal.offset_bounds-table-mark_at
offset_bounds-table-mark_at c =
    let h = there _ _ c.is_present.result c.is_present.ensures (ap not c.if-not-is_present.false) in
    let l = (is_sound_lem _ _ h).long in
    let b = below _ _ h in
    search rules

pub bounds-table-mark_at : goal.bounds-table-mark_at
bounds-table-mark_at c =
    let h = there _ _ c.is_present.result c.is_present.ensures (ap not c.if-not-is_present.false) in
    omega (arith, (is_sound_lem _ _ h).long, below _ _ h, c.mark_at.ensures)

pub returns : goal.returns
returns c =
    let h = there _ _ c.is_present.result c.is_present.ensures (ap not c.if-not-is_present.false) in
    mark_is _ _ _ h c.mark_at.ensures
