-- Two replies that a public contract of this crate allows are equal. Nothing is lent to be written.
-- A part that is handed back is settled in the place at which it stands and in its bytes.
use mathlib.Core.Path.{sym, ◌∙◌}
use Rattle.meaning.proofs.OneReply.{OneReply, OneResult}
use Rattle.finder.proofs.OnePart.{seen, one_part}
use Rattle.finder.proofs.find.Kinds as find_kinds
use Rattle.finder.proofs.find.Reads as find
use Rattle.finder.proofs.line.Kinds as line_kinds
use Rattle.finder.proofs.line.Reads as line

pub one_find : OneResult 1 find_kinds.ps find_kinds.r find.Post
one_find κs a x y s s' p q = p ∙ sym q

pub one_line : OneReply 1 line_kinds.ps line_kinds.r line.Post (λ κs x s. seen x)
one_line κs a x y s s' p q = one_part p q
