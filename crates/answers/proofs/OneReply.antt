-- Two replies that a contract of this crate allows are equal.
use mathlib.Core.Path.{sym, ◌∙◌}
use mathlib.Core.List.{[], ◌∷◌}
use Rattle.meaning.proofs.OneReply.{OneReply, OneResult}
use Rattle.answers.proofs.number_of.Kinds as number_kinds
use Rattle.answers.proofs.number_of.Reads as number
use Rattle.answers.proofs.first_of.Kinds as first_kinds
use Rattle.answers.proofs.first_of.Reads as first
use Rattle.answers.proofs.second_of.Kinds as second_kinds
use Rattle.answers.proofs.second_of.Reads as second
use Rattle.answers.proofs.locate.Kinds as locate_kinds
use Rattle.answers.proofs.locate.Reads as locate
use Rattle.answers.proofs.store.Kinds as store_kinds
use Rattle.answers.proofs.store.Reads as store

pub one_number : OneResult 0 number_kinds.ps number_kinds.r number.Post
one_number κs a x y s s' p q = p ∙ sym q

pub one_first : OneResult 0 first_kinds.ps first_kinds.r first.Post
one_first κs a x y s s' p q = p ∙ sym q

pub one_second : OneResult 0 second_kinds.ps second_kinds.r second.Post
one_second κs a x y s s' p q = p ∙ sym q

pub one_store : OneReply 3 store_kinds.ps store_kinds.r store.Post (λ κs x s. x ∷ s.1.0.now ∷ s.1.1.0.now ∷ s.1.1.1.0.now ∷ [])
one_store κs a x y s s' p q = p ∙ sym q

pub one_locate : OneReply 1 locate_kinds.ps locate_kinds.r locate.Post (λ κs x s. x ∷ s.1.0.now ∷ [])
one_locate κs a x y s s' p q = p ∙ sym q
