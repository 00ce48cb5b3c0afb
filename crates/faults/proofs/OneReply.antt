-- Two replies that a public contract of this crate allows are equal.
use mathlib.Core.Path.{◌≡◌, sym, ◌∙◌, ap}
use mathlib.Core.List.{List}
use Prim.Native.Nat.{ℕ}
use Rattle.std.specs.Prelude.{Result, Ok, Err}
use Rattle.meaning.specs.declared.Fault.{Fault}
use Rattle.meaning.proofs.OneReply.{OneResult}
use Rattle.heads.specs.declared.kinds.Kind.{Kind}
use Rattle.heads.proofs.KindLaws.{one_kind}
use Rattle.faults.specs.Faults.{Settles}
use Rattle.faults.proofs.refusal.Kinds as refusal_kinds
use Rattle.faults.proofs.refusal.Reads as refusal
use Rattle.faults.proofs.settle.Kinds as settle_kinds
use Rattle.faults.proofs.settle.Reads as settle

pub one_refusal : OneResult 1 refusal_kinds.ps refusal_kinds.r refusal.Post
one_refusal κs a x y s s' p q = p ∙ sym q

settles_one : (l : List ℕ) (x y : Result Kind Fault) → Settles l x → Settles l y → x ≡ y
settles_one l (Ok x) (Ok y) p q = ap Ok (one_kind x y (sym p.1.is ∙ q.1.is))
settles_one l (Ok x) (Err y) p q = cc (p.0, q)
settles_one l (Err x) (Ok y) p q = cc (p, q.0)
settles_one l (Err x) (Err y) p q = cc (p, q)

pub one_settle : OneResult 1 settle_kinds.ps settle_kinds.r settle.Post
one_settle κs a x y s s' p q = settles_one a.0.now x y p q
