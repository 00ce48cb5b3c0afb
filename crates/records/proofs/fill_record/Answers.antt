-- `logs::fill_record` meets its contract: four stores over a list of four words leave the record's words.
use mathlib.Core.Path.{◌≡◌, refl}
use mathlib.Core.List.{List, [], ◌∷◌}
use Prim.Native.Nat.{ℕ}
use native.Mathlib.Omega.{arith}
use lib.ListN.{length, set}
use Rattle.meaning.specs.Rows.{words}
use Rattle.records.proofs.fill_record.Goals as goal

four : (t : List ℕ) (a b c d : ℕ) → length t ≡ 4 → set (set (set (set t 0 a) 1 b) 2 c) 3 d ≡ a ∷ b ∷ c ∷ d ∷ []
four [] a b c d h = absurd (omega arith)
four (x ∷ []) a b c d h = absurd (omega arith)
four (x ∷ y ∷ []) a b c d h = absurd (omega arith)
four (x ∷ y ∷ z ∷ []) a b c d h = absurd (omega arith)
four (x ∷ y ∷ z ∷ w ∷ []) a b c d h = refl
four (x ∷ y ∷ z ∷ w ∷ v ∷ t) a b c d h = absurd (omega arith)

pub returns : goal.returns
unfolding words
returns c = four c.args.row.now c.args.r.origin c.args.r.timestamp c.args.r.block c.args.r.verdict c.requires
