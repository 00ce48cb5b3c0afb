-- Two replies that a public contract of this crate allows are equal.
use Rattle.std.proofs.Common.{ℕ, List, Option, sym, ◌∙◌}
use Rattle.meaning.proofs.OneReply.{OneResult, OneReply}
use Rattle.digits.proofs.stray_at.Kinds as stray_at_kinds
use Rattle.digits.proofs.stray_at.Reads as stray_at
use Rattle.digits.proofs.total.Kinds as total_kinds
use Rattle.digits.proofs.total.Reads as total
use Rattle.digits.proofs.values.Kinds as values_kinds
use Rattle.digits.proofs.values.Reads as values

pub one_stray_at : OneResult 1 stray_at_kinds.ps stray_at_kinds.r stray_at.Post
one_stray_at κs a x y s s' p q = p ∙ sym q

pub one_total : OneResult 1 total_kinds.ps total_kinds.r total.Post
one_total κs a x y s s' p q = p ∙ sym q

pub one_values : OneReply 2 values_kinds.ps values_kinds.r values.Post {R = Option ℕ × List ℕ} (λ κs x s. (x, s.1.0.now))
one_values κs a x y s s' p q = λ i. ((p.0 ∙ sym q.0) i, (p.1 ∙ sym q.1) i)
