-- Two replies that a contract of tables.rt or entries.rt allows are equal: the number returned, each count stored and every word of the table
-- and of the list at exit.
use mathlib.Core.Path.{ap, ap₂, sym, ◌∙◌}
use mathlib.Core.List.{List, [], ◌∷◌, ◌++◌}
use Prim.Native.Nat.{ℕ}
use Rattle.meaning.proofs.OneReply.{OneReply, OneResult}
use Rattle.answers.proofs.ValueLaws.{both}
use Rattle.pollencart.proofs.tables.pollencart_fresh.Kinds as fresh_kinds
use Rattle.pollencart.proofs.tables.pollencart_fresh.Reads as fresh
use Rattle.pollencart.proofs.tables.pollencart_write.Kinds as write_kinds
use Rattle.pollencart.proofs.tables.pollencart_write.Reads as write
use Rattle.pollencart.proofs.tables.pollencart_session.Kinds as session_kinds
use Rattle.pollencart.proofs.tables.pollencart_session.Reads as session
use Rattle.pollencart.proofs.tables.pollencart_purge.Kinds as purge_kinds
use Rattle.pollencart.proofs.tables.pollencart_purge.Reads as purge
use Rattle.pollencart.proofs.tables.pollencart_deliver.Kinds as deliver_kinds
use Rattle.pollencart.proofs.tables.pollencart_deliver.Reads as deliver
use Rattle.pollencart.proofs.reads.pollencart_summary.Kinds as summary_kinds
use Rattle.pollencart.proofs.reads.pollencart_summary.Reads as summary
use Rattle.pollencart.proofs.reads.pollencart_acknowledgement.Kinds as acknowledgement_kinds
use Rattle.pollencart.proofs.reads.pollencart_acknowledgement.Reads as acknowledgement
use Rattle.pollencart.proofs.reads.pollencart_column.Kinds as column_kinds
use Rattle.pollencart.proofs.reads.pollencart_column.Reads as column
use Rattle.pollencart.proofs.reads.pollencart_held.Kinds as held_kinds
use Rattle.pollencart.proofs.reads.pollencart_held.Reads as held
use Rattle.pollencart.proofs.reads.pollencart_record.Kinds as record_kinds
use Rattle.pollencart.proofs.reads.pollencart_record.Reads as record_of
use Rattle.pollencart.proofs.reads.pollencart_mark.Kinds as mark_kinds
use Rattle.pollencart.proofs.reads.pollencart_mark.Reads as mark

pub one_fresh : OneReply 1 fresh_kinds.ps fresh_kinds.r fresh.Post (λ κs x s. (x ∷ []) ++ s.0.now)
one_fresh κs a x y s s' p q = both (ap (λ (k : ℕ). k ∷ []) p.0) (ap (λ (k : ℕ). k ∷ []) q.0) p.1 q.1

pub one_write : OneReply 1 write_kinds.ps write_kinds.r write.Post (λ κs x s. (x ∷ []) ++ s.0.now)
one_write κs a x y s s' p q = both p.0 q.0 p.1 q.1

pub one_session :
    OneReply 3 session_kinds.ps session_kinds.r session.Post
    (λ κs x s. (x ∷ s.1.1.1.1.1.1.0.now ∷ s.1.1.1.1.1.1.1.0.now ∷ []) ++ s.0.now)
one_session κs a x y s s' p q = both p.0 q.0 p.1 q.1

pub one_purge : OneReply 3 purge_kinds.ps purge_kinds.r purge.Post (λ κs x s. (x ∷ s.1.1.0.now ∷ s.1.1.1.0.now ∷ []) ++ s.0.now)
one_purge κs a x y s s' p q = both p.0 q.0 p.1 q.1

pub one_deliver :
    OneReply 3 deliver_kinds.ps deliver_kinds.r deliver.Post {R = List ℕ × List ℕ}
    (λ κs x s. ((x ∷ s.1.1.1.0.now ∷ []) ++ s.0.now, s.1.1.0.now))
one_deliver κs a x y s s' p q = ap₂ (λ (t out : List ℕ). (t, out)) (both p.0 q.0 p.1 q.1) (p.2 ∙ sym q.2)

pub one_summary : OneResult 1 summary_kinds.ps summary_kinds.r summary.Post
one_summary κs a x y s s' p q = p ∙ sym q

pub one_acknowledgement : OneResult 1 acknowledgement_kinds.ps acknowledgement_kinds.r acknowledgement.Post
one_acknowledgement κs a x y s s' p q = p ∙ sym q

pub one_column : OneResult 1 column_kinds.ps column_kinds.r column.Post
one_column κs a x y s s' p q = p ∙ sym q

pub one_held : OneResult 1 held_kinds.ps held_kinds.r held.Post
one_held κs a x y s s' p q = p ∙ sym q

pub one_record : OneResult 1 record_kinds.ps record_kinds.r record_of.Post
one_record κs a x y s s' p q = p ∙ sym q

pub one_mark : OneResult 1 mark_kinds.ps mark_kinds.r mark.Post
one_mark κs a x y s s' p q = p ∙ sym q
