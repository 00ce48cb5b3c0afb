-- Two replies that a public contract of this crate allows are equal: what is answered, and every lent byte at exit.
use mathlib.Core.Path.{◌≡◌, sym, ap₂, ◌∙◌}
use mathlib.Core.List.{List}
use Prim.Native.Nat.{ℕ}
use Rattle.meaning.specs.Frames.{Framed}
use Rattle.meaning.proofs.OneReply.{OneReply}
use Rattle.writing.proofs.write_step.Kinds as write_step_kinds
use Rattle.writing.proofs.write_step.Reads as write_step
use Rattle.writing.proofs.write.write.Kinds as write_kinds
use Rattle.writing.proofs.write.write.Reads as write
use Rattle.writing.proofs.write.session.Kinds as session_kinds
use Rattle.writing.proofs.write.session.Reads as session
use Rattle.writing.proofs.write.purge.Kinds as purge_kinds
use Rattle.writing.proofs.write.purge.Reads as purge
use Rattle.writing.proofs.write.deliver.Kinds as deliver_kinds
use Rattle.writing.proofs.write.deliver.Reads as deliver
use Rattle.writing.proofs.write_start.Kinds as write_start_kinds
use Rattle.writing.proofs.write_start.Reads as write_start

-- an answer and the bytes at exit
abbrev Written : Type 0
Written = Framed × List ℕ

same : {x y f : Framed} {u v w : List ℕ} → (x ≡ f) × (u ≡ w) → (y ≡ f) × (v ≡ w) → ◌≡◌ {A = Written} (x, u) (y, v)
same p q = ap₂ (λ (x : Framed) (u : List ℕ). (x, u)) (p.0 ∙ sym q.0) (p.1 ∙ sym q.1)

pub one_step_frame : OneReply 1 write_step_kinds.ps write_step_kinds.r write_step.Post {R = Written} (λ κs x s. (x, s.0.now))
one_step_frame κs a x y s s' p q = same p q

pub one_write_frame : OneReply 1 write_kinds.ps write_kinds.r write.Post {R = Written} (λ κs x s. (x, s.0.now))
one_write_frame κs a x y s s' p q = same p q

pub one_session_frame : OneReply 1 session_kinds.ps session_kinds.r session.Post {R = Written} (λ κs x s. (x, s.0.now))
one_session_frame κs a x y s s' p q = same p q

pub one_purge_frame : OneReply 1 purge_kinds.ps purge_kinds.r purge.Post {R = Written} (λ κs x s. (x, s.0.now))
one_purge_frame κs a x y s s' p q = same p q

pub one_delivery_frame : OneReply 1 deliver_kinds.ps deliver_kinds.r deliver.Post {R = Written} (λ κs x s. (x, s.0.now))
one_delivery_frame κs a x y s s' p q = same p q

pub one_start_frame : OneReply 1 write_start_kinds.ps write_start_kinds.r write_start.Post {R = Written} (λ κs x s. (x, s.0.now))
one_start_frame κs a x y s s' p q = same p q
