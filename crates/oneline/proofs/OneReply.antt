-- Two replies that a public contract of this crate allows are equal: what is answered, and every word of the table at exit.
use mathlib.Core.Path.{sym, ap₂, ◌∙◌}
use mathlib.Core.List.{List}
use Prim.Native.Nat.{ℕ}
use Rattle.meaning.specs.Lines.{Answer}
use Rattle.meaning.proofs.OneReply.{OneReply}
use Rattle.oneline.proofs.apply_line.Kinds as apply_line_kinds
use Rattle.oneline.proofs.apply_line.Reads as apply_line

pub one_line : OneReply 2 apply_line_kinds.ps apply_line_kinds.r apply_line.Post {R = Answer × List ℕ} (λ κs x s. (x, s.0.now))
one_line κs a x y s s' p q = ap₂ (λ (r : Answer) (t : List ℕ). (r, t)) (p.0 ∙ sym q.0) (p.1 ∙ sym q.1)
