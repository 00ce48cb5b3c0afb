-- Two replies that the public contract of this crate allows are equal: what is answered, and every lent word at exit.
use mathlib.Core.Path.{sym, ◌∙◌}
use mathlib.Core.Bool.{Bool}
use mathlib.Core.List.{List}
use Prim.Native.Nat.{ℕ}
use Rattle.meaning.proofs.OneReply.{OneReply}
use Rattle.sessionwords.proofs.put_session.Kinds as put_session_kinds
use Rattle.sessionwords.proofs.put_session.Reads as put_session

pub one_put_session : OneReply 2 put_session_kinds.ps put_session_kinds.r put_session.Post {R = Bool × List ℕ} (λ κs x s. (x, s.1.0.now))
one_put_session κs a x y s s' p q = λ i. ((p.0 ∙ sym q.0) i, (p.1 ∙ sym q.1) i)
