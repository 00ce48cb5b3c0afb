-- Two replies that a public contract of this crate allows are equal.
use mathlib.Core.Path.{sym, ◌∙◌}
use Rattle.meaning.proofs.OneReply.{OneResult}
use Rattle.verdicts.proofs.class_of.Kinds as class_of_kinds
use Rattle.verdicts.proofs.class_of.Reads as class_of
use Rattle.verdicts.proofs.count.Kinds as count_kinds
use Rattle.verdicts.proofs.count.Reads as count
use Rattle.verdicts.proofs.count_node.Kinds as count-node_kinds
use Rattle.verdicts.proofs.count_node.Reads as count-node

pub one_class : OneResult 0 class_of_kinds.ps class_of_kinds.r class_of.Post
one_class κs a x y s s' p q = p ∙ sym q

pub one_count : OneResult 1 count_kinds.ps count_kinds.r count.Post
one_count κs a x y s s' p q = p ∙ sym q

pub one_node-count : OneResult 1 count-node_kinds.ps count-node_kinds.r count-node.Post
one_node-count κs a x y s s' p q = p ∙ sym q
