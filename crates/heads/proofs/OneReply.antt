-- Two replies that a public contract of this crate allows are equal.
use mathlib.Core.Path.{sym, ◌∙◌}
use Rattle.meaning.proofs.OneReply.{OneResult}
use Rattle.heads.proofs.kinds.Kind.digits.Kinds as digits_kinds
use Rattle.heads.proofs.kinds.Kind.digits.Reads as digits
use Rattle.heads.proofs.short_line.Kinds as short_line_kinds
use Rattle.heads.proofs.short_line.Reads as short_line

pub one_short_line : OneResult 0 short_line_kinds.ps short_line_kinds.r short_line.Post
one_short_line κs a x y s s' p q = p ∙ sym q

pub one_digits : OneResult 0 digits_kinds.ps digits_kinds.r digits.Post
one_digits κs a x y s s' p q = p ∙ sym q
