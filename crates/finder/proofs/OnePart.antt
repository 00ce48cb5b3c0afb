-- A part that is handed back is one part of the caller's journal.
use mathlib.Core.Path.{◌≡◌, sym, ap₂, ◌∙◌}
use mathlib.Core.List.{List}
use Prim.Native.Nat.{ℕ}
use denote.Ref.{Bor}
use Rattle.finder.specs.Parts.{Part}

-- what a program sees of a part: the memory, the place and the bytes
abbrev pub seen : Bor (List ℕ) → (ℕ × ℕ) × List ℕ
seen r = (r.ref_ptr, r.now)

pub one_part : {s : Bor (List ℕ)} {at : ℕ} {bytes : List ℕ} {x y : Bor (List ℕ)} → Part s at bytes x → Part s at bytes y → seen x ≡ seen y
one_part p q =
    ap₂ (λ (u : ℕ × ℕ) (l : List ℕ). (u, l)) (ap₂ (λ (i j : ℕ). (i, j)) (p.memory ∙ sym q.memory) (p.place ∙ sym q.place)) (p.is ∙ sym q.is)
