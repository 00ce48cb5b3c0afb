-- Two replies that the public contract of this crate allows are equal.
use mathlib.Core.Path.{sym, ◌∙◌}
use Rattle.meaning.proofs.OneReply.{OneResult}
use Rattle.actions.proofs.said.Kinds as said_kinds
use Rattle.actions.proofs.said.Reads as said

pub one_said : OneResult 1 said_kinds.ps said_kinds.r said.Post
one_said κs a x y s s' p q = p ∙ sym q
