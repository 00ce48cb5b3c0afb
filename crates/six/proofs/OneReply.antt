-- Two replies that a public contract of this crate allows are equal: what is answered, and every lent word at exit.
use mathlib.Core.Path.{sym, ◌∙◌}
use mathlib.Core.Bool.{Bool}
use mathlib.Core.List.{List}
use Prim.Native.Nat.{ℕ}
use Rattle.meaning.proofs.OneReply.{OneReply}
use Rattle.six.proofs.put_write.Kinds as put_write_kinds
use Rattle.six.proofs.put_write.Reads as put_write
use Rattle.six.proofs.put.Kinds as put_kinds
use Rattle.six.proofs.put.Reads as put

pub one_put_write : OneReply 2 put_write_kinds.ps put_write_kinds.r put_write.Post {R = Bool × List ℕ} (λ κs x s. (x, s.1.0.now))
one_put_write κs a x y s s' p q = λ i. ((p.0 ∙ sym q.0) i, (p.1 ∙ sym q.1) i)

pub one_put : OneReply 1 put_kinds.ps put_kinds.r put.Post {R = List ℕ} (λ κs x s. s.0.now)
one_put κs a x y s s' p q = p ∙ sym q
