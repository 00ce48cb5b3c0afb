-- Two replies that a public contract of this crate allows are equal.
use mathlib.Core.Path.{sym, ◌∙◌}
use Rattle.meaning.proofs.OneReply.{OneResult}
use Rattle.entries.proofs.summary_of.Kinds as summary_kinds
use Rattle.entries.proofs.summary_of.Reads as summary
use Rattle.entries.proofs.ack_of.Kinds as ack_kinds
use Rattle.entries.proofs.ack_of.Reads as ack
use Rattle.entries.proofs.column_of.Kinds as column_kinds
use Rattle.entries.proofs.column_of.Reads as column
use Rattle.entries.proofs.held_number.Kinds as held_kinds
use Rattle.entries.proofs.held_number.Reads as held
use Rattle.entries.proofs.record_word.Kinds as word_kinds
use Rattle.entries.proofs.record_word.Reads as word
use Rattle.entries.proofs.mark_of.Kinds as mark_kinds
use Rattle.entries.proofs.mark_of.Reads as mark

pub one_summary_entry : OneResult 1 summary_kinds.ps summary_kinds.r summary.Post
one_summary_entry κs a x y s s' p q = p ∙ sym q

pub one_ack_entry : OneResult 1 ack_kinds.ps ack_kinds.r ack.Post
one_ack_entry κs a x y s s' p q = p ∙ sym q

pub one_column_entry : OneResult 1 column_kinds.ps column_kinds.r column.Post
one_column_entry κs a x y s s' p q = p ∙ sym q

pub one_held-number : OneResult 1 held_kinds.ps held_kinds.r held.Post
one_held-number κs a x y s s' p q = p ∙ sym q

pub one_record_word : OneResult 1 word_kinds.ps word_kinds.r word.Post
one_record_word κs a x y s s' p q = p ∙ sym q

pub one_mark_entry : OneResult 1 mark_kinds.ps mark_kinds.r mark.Post
one_mark_entry κs a x y s s' p q = p ∙ sym q
