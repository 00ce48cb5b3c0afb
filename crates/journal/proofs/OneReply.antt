-- Two replies that a public contract of this crate allows are equal. Nothing is lent to be written.
use mathlib.Core.Path.{sym, ◌∙◌}
use Rattle.meaning.proofs.OneReply.{OneResult}
use Rattle.journal.proofs.next_at.Kinds as next_at_kinds
use Rattle.journal.proofs.next_at.Reads as next_at
use Rattle.journal.proofs.next_in.Kinds as next_in_kinds
use Rattle.journal.proofs.next_in.Reads as next_in
use Rattle.journal.proofs.said.Kinds as said_kinds
use Rattle.journal.proofs.said.Reads as said

pub one_next_at : OneResult 1 next_at_kinds.ps next_at_kinds.r next_at.Post
one_next_at κs a x y s s' p q = p ∙ sym q

pub one_next_in : OneResult 1 next_in_kinds.ps next_in_kinds.r next_in.Post
one_next_in κs a x y s s' p q = p ∙ sym q

pub one_said : OneResult 1 said_kinds.ps said_kinds.r said.Post
one_said κs a x y s s' p q = p ∙ sym q
