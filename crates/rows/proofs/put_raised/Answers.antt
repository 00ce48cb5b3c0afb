-- `rows::put_raised` meets its contract: the part that was lent comes back as the greater of the two rows.
use mathlib.Core.Path.{◌≡◌, refl, ap, ◌∙◌}
use mathlib.Core.List.{List, ◌++◌}
use Prim.Native.Nat.{ℕ, ◌+◌, ◌-◌}
use native.Mathlib.Omega.{arith}
use lib.ListN.{length, take, drop}
use Rattle.meaning.specs.Rows.{raise}
use Rattle.meaning.specs.Table.{place}
use Rattle.meaning.proofs.PlaceLaws.{mid_place}
use Rattle.meaning.proofs.RowLaws.{length-raise}
use Rattle.rows.proofs.put_raised.Goals as goal

back :
    (t mine theirs w : List ℕ) (at : ℕ) → length theirs ≡ length mine → w ≡ raise mine theirs →
    take at t ++ (w ++ drop ((at + length mine) - at) (drop at t)) ≡ place at (raise mine theirs) t
back t mine theirs w at same e =
    let lr = length-raise mine theirs (length mine) refl same in
    let l : length w ≡ (at + length mine) - at = ap length e ∙ omega arith in
    mid_place at ((at + length mine) - at) t w l ∙ ap (λ (z : List ℕ). place at z t) e

pub returns : goal.returns
returns c =
    back c.args.t.now c.args.mine.now c.args.theirs.now c.fill_raised.new.row c.args.at
    c.requires.1 c.fill_raised.ensures
