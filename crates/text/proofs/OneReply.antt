-- Two replies that the public contract of this crate allows are equal: the length returned and every lent byte at exit.
use mathlib.Core.Path.{sym, ap₂, ◌∙◌}
use mathlib.Core.List.{◌∷◌}
use Rattle.meaning.proofs.OneReply.{OneReply}
use Rattle.text.proofs.show.Kinds as show_kinds
use Rattle.text.proofs.show.Reads as show

pub one_text : OneReply 2 show_kinds.ps show_kinds.r show.Post (λ κs x s. x ∷ s.0.now)
one_text κs a x y s s' p q = ap₂ ◌∷◌ (p.long ∙ sym q.long) (p.is ∙ sym q.is)
