-- Two replies that a public contract of this crate allows are equal: what is answered, and every word of the table at exit.
use mathlib.Core.Path.{sym, ap₂, ◌∙◌}
use mathlib.Core.List.{List}
use Prim.Native.Nat.{ℕ}
use Rattle.steplines.specs.declared.Turn.{Turn}
use Rattle.meaning.proofs.OneReply.{OneReply}
use Rattle.sessionline.proofs.session_line.Kinds as session_line_kinds
use Rattle.sessionline.proofs.session_line.Reads as session_line

pub one_session_line : OneReply 3 session_line_kinds.ps session_line_kinds.r session_line.Post {R = Turn × List ℕ} (λ κs x s. (x, s.1.0.now.words.now))
one_session_line κs a x y s s' p q = ap₂ (λ (r : Turn) (t : List ℕ). (r, t)) (p.0.tells ∙ sym q.0.tells) (p.0.leaves ∙ sym q.0.leaves)
