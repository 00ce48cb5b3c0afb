-- Two replies that a contract of framing.rt allows are equal: the number returned, the place or the length stored and every lent byte at
-- exit.
use mathlib.Core.Path.{sym, ◌∙◌}
use mathlib.Core.List.{[], ◌∷◌, ◌++◌}
use Rattle.meaning.proofs.OneReply.{OneReply, OneResult}
use Rattle.answers.proofs.ValueLaws.{both}
use Rattle.pollencart.proofs.framing.pollencart_check_line.Kinds as check_kinds
use Rattle.pollencart.proofs.framing.pollencart_check_line.Reads as check
use Rattle.pollencart.proofs.framing.pollencart_read_line.Kinds as read_kinds
use Rattle.pollencart.proofs.framing.pollencart_read_line.Reads as read
use Rattle.pollencart.proofs.framing.pollencart_kind.Kinds as kind_kinds
use Rattle.pollencart.proofs.framing.pollencart_kind.Reads as kind
use Rattle.pollencart.proofs.framing.pollencart_field.Kinds as field_kinds
use Rattle.pollencart.proofs.framing.pollencart_field.Reads as field
use Rattle.pollencart.proofs.framing.pollencart_frame_start.Kinds as start_kinds
use Rattle.pollencart.proofs.framing.pollencart_frame_start.Reads as start
use Rattle.pollencart.proofs.framing.pollencart_frame_write.Kinds as write_kinds
use Rattle.pollencart.proofs.framing.pollencart_frame_write.Reads as write
use Rattle.pollencart.proofs.framing.pollencart_frame_session.Kinds as session_kinds
use Rattle.pollencart.proofs.framing.pollencart_frame_session.Reads as session
use Rattle.pollencart.proofs.framing.pollencart_frame_purge.Kinds as purge_kinds
use Rattle.pollencart.proofs.framing.pollencart_frame_purge.Reads as purge
use Rattle.pollencart.proofs.framing.pollencart_frame_deliver.Kinds as deliver_kinds
use Rattle.pollencart.proofs.framing.pollencart_frame_deliver.Reads as deliver

pub one_check : OneReply 2 check_kinds.ps check_kinds.r check.Post (λ κs x s. x ∷ s.1.0.now ∷ [])
one_check κs a x y s s' p q = p ∙ sym q

pub one_read : OneReply 3 read_kinds.ps read_kinds.r read.Post (λ κs x s. (x ∷ s.1.1.0.now ∷ []) ++ s.1.0.now)
one_read κs a x y s s' p q = both p.0 q.0 p.1 q.1

pub one_kind : OneResult 1 kind_kinds.ps kind_kinds.r kind.Post
one_kind κs a x y s s' p q = p ∙ sym q

pub one_field : OneResult 1 field_kinds.ps field_kinds.r field.Post
one_field κs a x y s s' p q = p ∙ sym q

pub one_start : OneReply 2 start_kinds.ps start_kinds.r start.Post (λ κs x s. (x ∷ s.1.1.0.now ∷ []) ++ s.0.now)
one_start κs a x y s s' p q = both p.0 q.0 p.1 q.1

pub one_write : OneReply 2 write_kinds.ps write_kinds.r write.Post (λ κs x s. (x ∷ s.1.1.1.1.1.0.now ∷ []) ++ s.0.now)
one_write κs a x y s s' p q = both p.0 q.0 p.1 q.1

pub one_session : OneReply 2 session_kinds.ps session_kinds.r session.Post (λ κs x s. (x ∷ s.1.1.1.1.1.1.0.now ∷ []) ++ s.0.now)
one_session κs a x y s s' p q = both p.0 q.0 p.1 q.1

pub one_purge : OneReply 2 purge_kinds.ps purge_kinds.r purge.Post (λ κs x s. (x ∷ s.1.1.0.now ∷ []) ++ s.0.now)
one_purge κs a x y s s' p q = both p.0 q.0 p.1 q.1

pub one_deliver : OneReply 2 deliver_kinds.ps deliver_kinds.r deliver.Post (λ κs x s. (x ∷ s.1.1.0.now ∷ []) ++ s.0.now)
one_deliver κs a x y s s' p q = both p.0 q.0 p.1 q.1
