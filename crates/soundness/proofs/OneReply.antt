-- Two replies that the public contract of this crate allows are equal.
use mathlib.Core.Path.{sym, ◌∙◌}
use Rattle.meaning.proofs.OneReply.{OneResult}
use Rattle.soundness.proofs.is_sound.Kinds as is_sound_kinds
use Rattle.soundness.proofs.is_sound.Reads as is_sound

pub one_soundness : OneResult 1 is_sound_kinds.ps is_sound_kinds.r is_sound.Post
one_soundness κs a x y s s' p q = p ∙ sym q
