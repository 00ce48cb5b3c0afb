-- `rows::put_entry` meets its contract: the row that stands there with one entry changed, put back, is that one word put.
use mathlib.Core.Path.{◌≡◌, refl, sym, ap, ◌∙◌}
use mathlib.Core.List.{List, [], ◌∷◌}
use Prim.Native.Nat.{ℕ, ◌+◌, ◌≤◌, ◌<◌}
use native.Mathlib.Omega.{arith}
use lib.ListN.{length, get_or, set}
use Rattle.meaning.specs.Table.{part, place}
use Rattle.meaning.proofs.PlaceLaws.{length_part, place_inner, set-place}
use Rattle.rows.specs.Entry.{OneEntry}
use Rattle.rows.proofs.put_entry.Goals as goal

one :
    (t row : List ℕ) (at i : ℕ) → (at + length row ≤ length t) × (i < length row) × OneEntry t at i row →
    set t (at + i) (get_or row i 0) ≡ place at row t
one t row at i pre =
    let fits = pre.0 in
    let here = pre.1 in
    let v : ℕ = get_or row i 0 in
    let old : List ℕ = part at (length row) t in
    let long : length old ≡ length row = length_part at (length row) t fits in
    set-place t (at + i) v (omega arith) ∙
    sym
    (ap (λ (z : List ℕ). place at z t) (pre.2 ∙ set-place old i v (omega arith)) ∙
    place_inner at (length row) i (at + i) (v ∷ []) t refl (omega arith) fits)

pub returns : goal.returns
returns c =
    one c.args.t.now c.args.row.now c.args.at c.args.i c.requires
