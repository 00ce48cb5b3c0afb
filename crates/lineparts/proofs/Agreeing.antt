-- The part, the place and the answer at one place of a journal agree.
use mathlib.Core.Path.{◌≡◌, refl, sym}
use mathlib.Core.List.{List, []}
use Prim.Native.Nat.{ℕ, ◌-◌, ◌≤◌, ◌<◌}
use native.Mathlib.Omega.{arith}
use lib.Dec.{eqb}
use lib.ListN.{get_or, take, drop}
use Rattle.std.specs.Prelude.{Ok, Err, Some, None}
use Rattle.meaning.specs.declared.NextLine.TheVariants.{Begin, Act}
use Rattle.meaning.specs.Journals.{Next, line_at, next_at, handed_back, position}
use Rattle.lineparts.specs.Reached.{part_at, position_at}
use Rattle.journal.proofs.Passing.{Passed, begun, acted}

-- the part is what stands between the position before and the position after, less the LF
pub record Agree (s : List ℕ) (at : ℕ) (part : List ℕ) (after : ℕ) : Type 0 where
  pub between : part ≡ take (after - 1 - at) (drop at s)
  pub forward : at ≤ after
  pub ended : at < after → get_or s (after - 1) 0 ≡ 10

stayed : (s : List ℕ) (at : ℕ) → Agree s at [] at
stayed s at =
    let none : at - 1 - at ≡ 0 = omega arith in
    record { between = rw none; forward = omega arith; ended = λ h. absurd (omega arith) }

went : (s : List ℕ) (at next : ℕ) → Passed s at next → Agree s at (line_at s at) next
went s at next p = record { between = sym p.part; forward = omega arith; ended = λ h. p.lf }

-- `next_at`, `part_at` and `position_at` agree at every place of every journal, whatever the line number
pub agree : (s : List ℕ) (at line : ℕ) → Agree s at (part_at s at line) (position_at s at line)
agree s at line = go (next_at s at line) refl
  where
    go : (x : Next) → next_at s at line ≡ x → Agree s at (handed_back x (line_at s at)) (position at x)
    go (Ok (Some (Begin n next))) e = went s at next (begun (eqb at 0) s at line e)
    go (Ok (Some (Act x next))) e = went s at next (acted (eqb at 0) s at line e)
    go (Err f) e = stayed s at
    go (Ok None) e = stayed s at
