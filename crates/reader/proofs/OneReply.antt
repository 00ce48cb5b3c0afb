-- Two replies that a public contract of this crate allows are equal. Nothing is lent to be written.
-- A part is settled in the place at which it stands and in its bytes; a reader whole: its journal is the caller's own reference.
use mathlib.Core.Path.{◌≡◌, refl, sym, ap₂, ◌∙◌}
use mathlib.Core.List.{List}
use Prim.Native.Nat.{ℕ}
use seplogic.Ra.Ura.{Ura}
use base.Logic.{SProp}
use prog.Memory.{Memory}
use prog.Routine.{Routine}
use types.Logic.{Logic}
use contract.Lifetimes.{Lfts}
use contract.Monad.{Fun}
use contract.Notation.{connectives}
use denote.Ref.{Bor}
use denote.Triple.Clauses.{AtExit}
use denote.Triple.Entry.{Args, Res}
use Rattle.meaning.specs.Journals.{Next, next_at}
use Rattle.meaning.proofs.OneReply.{OneReply, OneResult}
use Rattle.finder.specs.Parts.{Part}
use Rattle.lineparts.specs.Reached.{part_at, position_at}
use Rattle.finder.proofs.OnePart.{seen, one_part}
use Rattle.reader.specs.declared.Reader.{Reader}
use Rattle.reader.specs.Standing.{Stands}
use Rattle.reader.specs.contracts.Reader.new as new
use Rattle.reader.specs.contracts.Reader.next as next
use Rattle.reader.specs.contracts.Reader.part as part
use Rattle.reader.specs.contracts.Reader.moved as moved
use Rattle.reader.proofs.next_from.Kinds as next_from_kinds
use Rattle.reader.proofs.next_from.Reads as next_from
use Rattle.reader.proofs.part_from.Kinds as part_from_kinds
use Rattle.reader.proofs.part_from.Reads as part_from
use Rattle.reader.proofs.place_from.Kinds as place_from_kinds
use Rattle.reader.proofs.place_from.Reads as place_from

pub one_next_from : OneResult 1 next_from_kinds.ps next_from_kinds.r next_from.Post
one_next_from κs a x y s s' p q = p ∙ sym q

pub one_part_from : OneReply 1 part_from_kinds.ps part_from_kinds.r part_from.Post (λ κs x s. seen x)
one_part_from κs a x y s s' p q = one_part p q

pub one_place_from : OneResult 1 place_from_kinds.ps place_from_kinds.r place_from.Post
one_place_from κs a x y s s' p q = p ∙ sym q

-- A contract over a `Reader` has no generated reading of this form. What it says is written out here instead, and the equations hold it to the
-- generated clause.
module _ {M : Type 1} {𝓤 : Ura M} (𝓛 : Logic 𝓤) (mem : Memory → SProp 𝓤) (run : Routine → Fun 𝓤) (κs : Lfts 1) where
  open connectives 𝓤 use {⌜◌⌝}

  pub new_says : (a : Args new.signature κs) (x : Res new.signature κs) (s : AtExit new.ended κs)
      → (new.clauses 𝓛 mem run κs a).ensures tt x s ≡ ⌜ Stands a.0 a.1.0 x ⌝
  new_says a x s = refl

  pub next_says : (a : Args next.signature κs) (x : Res next.signature κs) (s : AtExit next.ended κs)
      → (next.clauses 𝓛 mem run κs a).ensures tt x s ≡ ⌜ x ≡ next_at a.0.journal.now a.0.at a.1.0 ⌝
  next_says a x s = refl

  pub part_says : (a : Args part.signature κs) (x : Res part.signature κs) (s : AtExit part.ended κs)
      → (part.clauses 𝓛 mem run κs a).ensures tt x s ≡ ⌜ Part a.0.journal a.0.at (part_at a.0.journal.now a.0.at a.1.0) x ⌝
  part_says a x s = refl

  pub moved_says : (a : Args moved.signature κs) (x : Res moved.signature κs) (s : AtExit moved.ended κs)
      → (moved.clauses 𝓛 mem run κs a).ensures tt x s ≡ ⌜ Stands a.0.journal (position_at a.0.journal.now a.0.at a.1.0) x ⌝
  moved_says a x s = refl

-- a reader by its two fields
pub one_reader : (journal : Bor (List ℕ)) (at : ℕ) (x y : Reader) → Stands journal at x → Stands journal at y → x ≡ y
one_reader journal at x y p q = ap₂ (λ (j : Bor (List ℕ)) (k : ℕ). record { journal = j; at = k }) (p.0 ∙ sym q.0) (p.1 ∙ sym q.1)

pub one_new : (journal : Bor (List ℕ)) (at : ℕ) (x y : Reader) → Stands journal at x → Stands journal at y → x ≡ y
one_new = one_reader

pub one_next : (r : Reader) (line : ℕ) (x y : Next) → x ≡ next_at r.journal.now r.at line → y ≡ next_at r.journal.now r.at line → x ≡ y
one_next r line x y p q = p ∙ sym q

module _ (r : Reader) (line : ℕ) where
  pub one_part_of : (x y : Bor (List ℕ)) → Part r.journal r.at (part_at r.journal.now r.at line) x
      → Part r.journal r.at (part_at r.journal.now r.at line) y → seen x ≡ seen y
  one_part_of x y p q = one_part p q

  pub one_moved : (x y : Reader) → Stands r.journal (position_at r.journal.now r.at line) x
      → Stands r.journal (position_at r.journal.now r.at line) y → x ≡ y
  one_moved = one_reader r.journal (position_at r.journal.now r.at line)
