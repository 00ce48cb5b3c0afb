-- Two replies that a public contract of this crate allows are equal.
use mathlib.Core.Path.{sym, ◌∙◌}
use Rattle.meaning.proofs.OneReply.{OneResult}
use Rattle.contents.proofs.write_field.Kinds as write_field_kinds
use Rattle.contents.proofs.write_field.Reads as write_field
use Rattle.contents.proofs.session_field.Kinds as session_field_kinds
use Rattle.contents.proofs.session_field.Reads as session_field
use Rattle.contents.proofs.short_field.Kinds as short_field_kinds
use Rattle.contents.proofs.short_field.Reads as short_field

pub one_write_field : OneResult 1 write_field_kinds.ps write_field_kinds.r write_field.Post
one_write_field κs a x y s s' p q = p ∙ sym q

pub one_session_field : OneResult 1 session_field_kinds.ps session_field_kinds.r session_field.Post
one_session_field κs a x y s s' p q = p ∙ sym q

pub one_short_field : OneResult 1 short_field_kinds.ps short_field_kinds.r short_field.Post
one_short_field κs a x y s s' p q = p ∙ sym q
