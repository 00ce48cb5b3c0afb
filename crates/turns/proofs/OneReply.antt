-- Two replies that a public contract of this crate allows are equal: what is answered, and every word of the table at exit.
use mathlib.Core.Path.{sym, ap₂, ◌∙◌}
use mathlib.Core.List.{List}
use Prim.Native.Nat.{ℕ}
use Rattle.steplines.specs.declared.Turn.{Turn}
use Rattle.meaning.proofs.OneReply.{OneReply, OneResult}
use Rattle.turns.proofs.due_at.Kinds as due_at_kinds
use Rattle.turns.proofs.due_at.Reads as due_at
use Rattle.turns.proofs.turn.Kinds as turn_kinds
use Rattle.turns.proofs.turn.Reads as turn

pub one_due : OneResult 1 due_at_kinds.ps due_at_kinds.r due_at.Post
one_due κs a x y s s' p q = p ∙ sym q

pub one_turn : OneReply 3 turn_kinds.ps turn_kinds.r turn.Post {R = Turn × List ℕ} (λ κs x s. (x, s.1.1.1.0.now.words.now))
one_turn κs a x y s s' p q = ap₂ (λ (r : Turn) (t : List ℕ). (r, t)) (p.0.tells ∙ sym q.0.tells) (p.0.leaves ∙ sym q.0.leaves)
