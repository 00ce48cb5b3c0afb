-- Two replies that the contract of replays.rt allows are equal: the length returned, every word of the table and every lent byte at exit.
use mathlib.Core.Path.{sym, ap₂, ◌∙◌}
use mathlib.Core.List.{List, ◌∷◌}
use Prim.Native.Nat.{ℕ}
use Rattle.meaning.proofs.OneReply.{OneReply}
use Rattle.pollencart.proofs.replays.pollencart_replay.Kinds as replay_kinds
use Rattle.pollencart.proofs.replays.pollencart_replay.Reads as replay

pub one_replay : OneReply 3 replay_kinds.ps replay_kinds.r replay.Post {R = List ℕ × List ℕ} (λ κs x s. (x ∷ s.1.0.now, s.1.1.0.now))
one_replay κs a x y s s' p q =
    ap₂ (λ (t out : List ℕ). (t, out))
    (ap₂ ◌∷◌ (p.shown.long ∙ sym q.shown.long) (p.table ∙ sym q.table)) (p.shown.is ∙ sym q.shown.is)
