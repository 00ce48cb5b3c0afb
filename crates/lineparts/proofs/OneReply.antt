-- Two replies that a public contract of this crate allows are equal. Nothing is lent to be written.
-- A part that is handed back is settled in the place at which it stands and in its bytes.
use mathlib.Core.Path.{sym, ◌∙◌}
use Rattle.meaning.proofs.OneReply.{OneReply, OneResult}
use Rattle.finder.proofs.OnePart.{seen, one_part}
use Rattle.lineparts.proofs.part_at.Kinds as part_at_kinds
use Rattle.lineparts.proofs.part_at.Reads as part_at
use Rattle.lineparts.proofs.position_at.Kinds as position_at_kinds
use Rattle.lineparts.proofs.position_at.Reads as position_at

pub one_part_at : OneReply 1 part_at_kinds.ps part_at_kinds.r part_at.Post (λ κs x s. seen x)
one_part_at κs a x y s s' p q = one_part p q

pub one_position_at : OneResult 1 position_at_kinds.ps position_at_kinds.r position_at.Post
one_position_at κs a x y s s' p q = p ∙ sym q
