-- Two replies that a public contract of this crate allows are equal.
use mathlib.Core.Path.{sym, ◌∙◌}
use Rattle.meaning.proofs.OneReply.{OneResult}
use Rattle.numbers.proofs.byte.Kinds as byte_kinds
use Rattle.numbers.proofs.byte.Reads as byte
use Rattle.numbers.proofs.word.Kinds as word_kinds
use Rattle.numbers.proofs.word.Reads as word
use Rattle.numbers.proofs.byte_of.Kinds as byte_of_kinds
use Rattle.numbers.proofs.byte_of.Reads as byte_of
use Rattle.numbers.proofs.word_of.Kinds as word_of_kinds
use Rattle.numbers.proofs.word_of.Reads as word_of

pub one_byte : OneResult 1 byte_kinds.ps byte_kinds.r byte.Post
one_byte κs a x y s s' p q = p ∙ sym q

pub one_word : OneResult 1 word_kinds.ps word_kinds.r word.Post
one_word κs a x y s s' p q = p ∙ sym q

pub one_byte_of : OneResult 1 byte_of_kinds.ps byte_of_kinds.r byte_of.Post
one_byte_of κs a x y s s' p q = p ∙ sym q

pub one_word_of : OneResult 1 word_of_kinds.ps word_of_kinds.r word_of.Post
one_word_of κs a x y s s' p q = p ∙ sym q
