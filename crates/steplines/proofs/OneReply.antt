-- Two replies that a public contract of this crate allows are equal: what is answered, and every word of the table at exit.
use mathlib.Core.Path.{sym, ap₂, ◌∙◌}
use mathlib.Core.List.{List}
use Prim.Native.Nat.{ℕ}
use Rattle.steplines.specs.declared.Turn.{Turn}
use Rattle.meaning.proofs.OneReply.{OneReply}
use Rattle.steplines.proofs.short_step.Kinds as short_step_kinds
use Rattle.steplines.proofs.short_step.Reads as short_step
use Rattle.steplines.proofs.write_line.Kinds as write_line_kinds
use Rattle.steplines.proofs.write_line.Reads as write_line

pub one_write_line : OneReply 3 write_line_kinds.ps write_line_kinds.r write_line.Post {R = Turn × List ℕ} (λ κs x s. (x, s.1.0.now.words.now))
one_write_line κs a x y s s' p q = ap₂ (λ (r : Turn) (t : List ℕ). (r, t)) (p.0.tells ∙ sym q.0.tells) (p.0.leaves ∙ sym q.0.leaves)

pub one_short_step : OneReply 3 short_step_kinds.ps short_step_kinds.r short_step.Post {R = Turn × List ℕ} (λ κs x s. (x, s.1.0.now.words.now))
one_short_step κs a x y s s' p q = ap₂ (λ (r : Turn) (t : List ℕ). (r, t)) (p.0.tells ∙ sym q.0.tells) (p.0.leaves ∙ sym q.0.leaves)
