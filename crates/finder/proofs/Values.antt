-- The values of what the finder answers, by place and bytes.
use mathlib.Core.Path.{◌≡◌, refl}
use mathlib.Core.Bool.{Bool, true, false, cond}
use mathlib.Core.List.{List, [], ◌∷◌}
use Prim.Native.Nat.{ℕ, ◌+◌}
use lib.ListN.{length}
use lib.Dec.{leb}
use Rattle.meaning.specs.Journals.{unended, line_at}
use Rattle.finder.specs.Found.{found_at, found_values}
use Rattle.finder.specs.declared.Found.TheVariants.{Line as Ended, Unended, Over}

pub found_values_lem : (s : List ℕ) (at : ℕ)
    → found_values (found_at s at) ≡ cond (leb (length s) at) (0 ∷ []) (cond (unended s at) (14 ∷ []) (0 ∷ (at + length (line_at s at)) ∷ []))
unfolding found_at
found_values_lem s at = go (leb (length s) at) (unended s at)
  where
    go : (a b : Bool) → found_values (cond a Over (cond b Unended (Ended (at + length (line_at s at)))))
        ≡ cond a (0 ∷ []) (cond b (14 ∷ []) (0 ∷ (at + length (line_at s at)) ∷ []))
    go true b = refl
    go false true = refl
    go false false = refl
