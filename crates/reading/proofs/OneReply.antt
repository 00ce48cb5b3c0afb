-- Two replies that a public contract of this crate allows are equal.
use mathlib.Core.Path.{sym, ◌∙◌}
use Rattle.meaning.proofs.OneReply.{OneResult}
use Rattle.reading.proofs.check.Kinds as check_kinds
use Rattle.reading.proofs.check.Reads as check
use Rattle.reading.proofs.kind.Kinds as kind_kinds
use Rattle.reading.proofs.kind.Reads as kind
use Rattle.reading.proofs.field.Kinds as field_kinds
use Rattle.reading.proofs.field.Reads as field
use Rattle.reading.proofs.read_line.Kinds as read_line_kinds
use Rattle.reading.proofs.read_line.Reads as read_line

pub one_check : OneResult 1 check_kinds.ps check_kinds.r check.Post
one_check κs a x y s s' p q = p ∙ sym q

pub one_kind : OneResult 1 kind_kinds.ps kind_kinds.r kind.Post
one_kind κs a x y s s' p q = p ∙ sym q

pub one_field : OneResult 1 field_kinds.ps field_kinds.r field.Post
one_field κs a x y s s' p q = p ∙ sym q

pub one_line : OneResult 1 read_line_kinds.ps read_line_kinds.r read_line.Post
one_line κs a x y s s' p q = p ∙ sym q
