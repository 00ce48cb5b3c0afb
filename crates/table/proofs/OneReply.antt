-- Two replies that a public contract of this crate allows are equal: what is answered, and every word of the table at exit.
use mathlib.Core.Path.{◌≡◌, sym, ap₂, ◌∙◌}
use mathlib.Core.List.{List}
use Prim.Native.Nat.{ℕ}
use Rattle.std.specs.Prelude.{Result}
use Rattle.meaning.specs.declared.Refusal.{Refusal}
use Rattle.meaning.specs.Steps.{Reply}
use Rattle.meaning.proofs.OneReply.{OneReply}
use Rattle.table.proofs.fresh.Kinds as fresh_kinds
use Rattle.table.proofs.fresh.Reads as fresh
use Rattle.table.proofs.apply.Kinds as apply_kinds
use Rattle.table.proofs.apply.Reads as apply
use Rattle.table.proofs.act.write.Kinds as write_kinds
use Rattle.table.proofs.act.write.Reads as write
use Rattle.table.proofs.act.session.Kinds as session_kinds
use Rattle.table.proofs.act.session.Reads as session
use Rattle.table.proofs.act.purge.Kinds as purge_kinds
use Rattle.table.proofs.act.purge.Reads as purge
use Rattle.table.proofs.act.deliver.Kinds as deliver_kinds
use Rattle.table.proofs.act.deliver.Reads as deliver
use Rattle.table.proofs.act.deliver_alone.Kinds as deliver_alone_kinds
use Rattle.table.proofs.act.deliver_alone.Reads as deliver_alone
use Rattle.table.proofs.apply_sound.Kinds as apply_sound_kinds
use Rattle.table.proofs.apply_sound.Reads as apply_sound

-- a reply and the words at exit
abbrev Applied : Type 0
Applied = Reply × List ℕ

same : {A : Type 0} {x y r : A} {u v w : List ℕ} → (x ≡ r) × (u ≡ w) → (y ≡ r) × (v ≡ w) → ◌≡◌ {A = A × List ℕ} (x, u) (y, v)
same p q = ap₂ (λ x u. (x, u)) (p.0 ∙ sym q.0) (p.1 ∙ sym q.1)

pub one_fresh : OneReply 1 fresh_kinds.ps fresh_kinds.r fresh.Post {R = Result Unit Refusal × List ℕ} (λ κs x s. (x, s.0.now))
one_fresh κs a x y s s' p q = same p q

pub one_step : OneReply 1 apply_kinds.ps apply_kinds.r apply.Post {R = Applied} (λ κs x s. (x, s.0.now))
one_step κs a x y s s' p q = same p q

pub one_write : OneReply 1 write_kinds.ps write_kinds.r write.Post {R = Applied} (λ κs x s. (x, s.0.now))
one_write κs a x y s s' p q = same p q

pub one_session : OneReply 1 session_kinds.ps session_kinds.r session.Post {R = Applied} (λ κs x s. (x, s.0.now))
one_session κs a x y s s' p q = same p q

pub one_purge : OneReply 1 purge_kinds.ps purge_kinds.r purge.Post {R = Applied} (λ κs x s. (x, s.0.now))
one_purge κs a x y s s' p q = same p q

-- of a delivery the words of the list at exit too
pub one_deliver : OneReply 2 deliver_kinds.ps deliver_kinds.r deliver.Post {R = Applied × List ℕ} (λ κs x s. ((x, s.0.now), s.1.0.now))
one_deliver κs a x y s s' p q =
    ap₂ (λ (z : Applied) (l : List ℕ). (z, l)) (same (p.0, p.1) (q.0, q.1)) (p.2 ∙ sym q.2)

pub one_deliver_alone : OneReply 1 deliver_alone_kinds.ps deliver_alone_kinds.r deliver_alone.Post {R = Applied} (λ κs x s. (x, s.0.now))
one_deliver_alone κs a x y s s' p q = same p q

pub one_sound_step : OneReply 2 apply_sound_kinds.ps apply_sound_kinds.r apply_sound.Post {R = Applied} (λ κs x s. (x, s.0.now.words.now))
one_sound_step κs a x y s s' p q = same p.0 q.0
