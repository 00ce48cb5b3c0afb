-- Laws of a row that is another but for one entry.
use mathlib.Core.Path.{◌≡◌, sym, ap, ap₂, ◌∙◌}
use mathlib.Core.List.{List}
use Prim.Native.Nat.{ℕ, ◌+◌, ◌≤◌, ◌<◌}
use native.Mathlib.Omega.{arith}
use lib.ListN.{length, get_or, set, length-set}
use lib.Seq.{get_or-set_same}
use Rattle.meaning.specs.Table.{part}
use Rattle.meaning.proofs.PlaceLaws.{length_part}
use Rattle.rows.specs.Entry.{OneEntry}

-- the row there with any word at i
pub entry_set : (t row : List ℕ) (at k i v : ℕ) → at + k ≤ length t → i < k → row ≡ set (part at k t) i v → OneEntry t at i row
entry_set t row at k i v fits h e =
    let l = length_part at k t fits in
    let long : length row ≡ k = ap length e ∙ length-set (part at k t) i v ∙ l in
    let word : get_or row i 0 ≡ v = ap (λ (z : List ℕ). get_or z i 0) e ∙ get_or-set_same (part at k t) i v 0 (omega arith) in
    e ∙ sym (ap₂ (λ (m x : ℕ). set (part at m t) i x) long word)

-- it stays so where the row there does not change
pub entry_kept : (t u row : List ℕ) (at i : ℕ) → part at (length row) u ≡ part at (length row) t → OneEntry t at i row → OneEntry u at i row
entry_kept t u row at i same e = e ∙ ap (λ (z : List ℕ). set z i (get_or row i 0)) (sym same)
