-- Two replies that the public contract of this crate allows are equal: what is answered, and every lent word at exit.
use mathlib.Core.Path.{sym, ◌∙◌}
use mathlib.Core.List.{List}
use Prim.Native.Nat.{ℕ}
use Rattle.std.specs.Prelude.{Option}
use Rattle.meaning.specs.declared.Fault.{Fault}
use Rattle.meaning.proofs.OneReply.{OneReply}
use Rattle.words.proofs.read_words.Kinds as read_words_kinds
use Rattle.words.proofs.read_words.Reads as read_words

pub one_words : OneReply 2 read_words_kinds.ps read_words_kinds.r read_words.Post {R = Option Fault × List ℕ} (λ κs x s. (x, s.1.0.now))
one_words κs a x y s s' p q = λ i. ((p.0 ∙ sym q.0) i, (p.1 ∙ sym q.1) i)
