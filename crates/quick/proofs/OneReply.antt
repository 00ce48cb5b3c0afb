-- Two replies that a public contract of this crate allows are equal.
use mathlib.Core.Path.{sym, ◌∙◌}
use Rattle.meaning.proofs.OneReply.{OneResult}
use Rattle.quick.proofs.sure.Kinds as sure_kinds
use Rattle.quick.proofs.sure.Reads as sure
use Rattle.quick.proofs.short_held.Kinds as short_held_kinds
use Rattle.quick.proofs.short_held.Reads as short_held
use Rattle.quick.proofs.is_write.Kinds as is_write_kinds
use Rattle.quick.proofs.is_write.Reads as is_write
use Rattle.quick.proofs.is_session.Kinds as is_session_kinds
use Rattle.quick.proofs.is_session.Reads as is_session

pub one_sure : OneResult 1 sure_kinds.ps sure_kinds.r sure.Post
one_sure κs a x y s s' p q = p ∙ sym q

pub one_short_held : OneResult 1 short_held_kinds.ps short_held_kinds.r short_held.Post
one_short_held κs a x y s s' p q = p ∙ sym q

pub one_is_write : OneResult 1 is_write_kinds.ps is_write_kinds.r is_write.Post
one_is_write κs a x y s s' p q = p ∙ sym q

pub one_is_session : OneResult 1 is_session_kinds.ps is_session_kinds.r is_session.Post
one_is_session κs a x y s s' p q = p ∙ sym q
