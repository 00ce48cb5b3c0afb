-- Two replies that a public contract of this crate allows are equal: what is answered, and every word of the table at exit.
use mathlib.Core.Path.{sym, ap₂, ◌∙◌}
use mathlib.Core.List.{List}
use Prim.Native.Nat.{ℕ}
use Rattle.meaning.specs.declared.Progress.{Progress}
use Rattle.meaning.proofs.OneReply.{OneReply}
use Rattle.lines.proofs.apply_lines.Kinds as apply_lines_kinds
use Rattle.lines.proofs.apply_lines.Reads as apply_lines
use Rattle.lines.proofs.apply_from.Kinds as apply_from_kinds
use Rattle.lines.proofs.apply_from.Reads as apply_from

pub one_lines : OneReply 2 apply_lines_kinds.ps apply_lines_kinds.r apply_lines.Post {R = Progress × List ℕ} (λ κs x s. (x, s.0.now))
one_lines κs a x y s s' p q = ap₂ (λ (r : Progress) (t : List ℕ). (r, t)) (p.0 ∙ sym q.0) (p.1 ∙ sym q.1)

pub one_from : OneReply 3 apply_from_kinds.ps apply_from_kinds.r apply_from.Post {R = Progress × List ℕ} (λ κs x s. (x, s.1.1.1.0.now.words.now))
one_from κs a x y s s' p q = ap₂ (λ (r : Progress) (t : List ℕ). (r, t)) (p.0.answer ∙ sym q.0.answer) (p.0.table ∙ sym q.0.table)
