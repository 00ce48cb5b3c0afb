-- `ack_of` meets its contract: the entry of the acknowledgement row, where the table has one.
use mathlib.Core.Bool.{not}
use mathlib.Core.Path.{ap}
use Rattle.layout.proofs.FormLaws.{has_columns, has_vectors}
use Rattle.entries.proofs.EntryLaws.{absent, there, is_sound_lem, below, acks_fit, no_ack, ack_none, ack_is}
use Rattle.entries.proofs.ack_of.Goals as goal

pub returns-then-not-is_present : goal.returns-then-not-is_present
returns-then-not-is_present c = no_ack _ _ _ (absent _ _ c.is_present.result c.is_present.ensures (ap not c.if-not-is_present.true))

pub returns-then-has_columns : goal.returns-then-has_columns
returns-then-has_columns c =
    ack_none _ _ _ (there _ _ c.is_present.result c.is_present.ensures (ap not c.if-not-is_present.false))
    (has_columns _ c.has_columns.result c.has_columns.ensures c.if-has_columns.true)

pub acks_at-requires : goal.acks_at-requires
acks_at-requires c =
    below _ _ (there _ _ c.is_present.result c.is_present.ensures (ap not c.if-not-is_present.false))

pub entry-requires : goal.entry-requires
entry-requires c =
    let h = there _ _ c.is_present.result c.is_present.ensures (ap not c.if-not-is_present.false) in
    let f = has_vectors _ c.has_columns.result c.has_columns.ensures c.if-has_columns.false in
    (is_sound_lem _ _ h, acks_fit _ _ _ h f c.acks_at.ensures)

pub returns : goal.returns
returns c =
    let h = there _ _ c.is_present.result c.is_present.ensures (ap not c.if-not-is_present.false) in
    let f = has_vectors _ c.has_columns.result c.has_columns.ensures c.if-has_columns.false in
    ack_is _ _ _ _ _ h f c.acks_at.ensures c.entry.ensures
