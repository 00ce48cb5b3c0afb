-- Two replies that a contract of counts.rt allows are equal: the number returned and the three words at exit.
use mathlib.Core.Path.{sym, ◌∙◌}
use mathlib.Core.List.{[], ◌∷◌}
use Rattle.meaning.proofs.OneReply.{OneReply}
use Rattle.pollencart.proofs.counts.pollencart_count.Kinds as count_kinds
use Rattle.pollencart.proofs.counts.pollencart_count.Reads as count
use Rattle.pollencart.proofs.counts.pollencart_count_node.Kinds as count-node_kinds
use Rattle.pollencart.proofs.counts.pollencart_count_node.Reads as count-node

pub one_count : OneReply 4 count_kinds.ps count_kinds.r count.Post (λ κs x s. x ∷ s.1.0.now ∷ s.1.1.0.now ∷ s.1.1.1.0.now ∷ [])
one_count κs a x y s s' p q = p ∙ sym q

pub one_node-count :
    OneReply 4 count-node_kinds.ps count-node_kinds.r count-node.Post (λ κs x s. x ∷ s.1.1.0.now ∷ s.1.1.1.0.now ∷ s.1.1.1.1.0.now ∷ [])
one_node-count κs a x y s s' p q = p ∙ sym q
