-- Two replies that a public contract of this crate allows are equal: the outcome or the length returned, every word of the table and every lent byte at exit.
use mathlib.Core.Path.{sym, ap₂, ◌∙◌}
use mathlib.Core.List.{List, ◌∷◌}
use Prim.Native.Nat.{ℕ}
use Rattle.meaning.specs.Journals.{Outcome}
use Rattle.meaning.proofs.OneReply.{OneReply}
use Rattle.run.proofs.run.Kinds as run_kinds
use Rattle.run.proofs.run.Reads as run
use Rattle.run.proofs.replay.Kinds as replay_kinds
use Rattle.run.proofs.replay.Reads as replay

pub one_run : OneReply 2 run_kinds.ps run_kinds.r run.Post {R = Outcome × List ℕ} (λ κs x s. (x, s.1.0.now))
one_run κs a x y s s' p q = ap₂ (λ (o : Outcome) (t : List ℕ). (o, t)) (p.outcome ∙ sym q.outcome) (p.table ∙ sym q.table)

pub one_replay : OneReply 3 replay_kinds.ps replay_kinds.r replay.Post {R = List ℕ × List ℕ} (λ κs x s. (x ∷ s.1.0.now, s.1.1.0.now))
one_replay κs a x y s s' p q =
    ap₂ (λ (t out : List ℕ). (t, out))
    (ap₂ ◌∷◌ (p.shown.long ∙ sym q.shown.long) (p.table ∙ sym q.table)) (p.shown.is ∙ sym q.shown.is)
