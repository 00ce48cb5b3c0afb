-- `logs::put_record` meets its contract: the part that was lent comes back as the record's words.
use mathlib.Core.Path.{◌≡◌, ap, ◌∙◌}
use mathlib.Core.List.{[], ◌∷◌}
use Prim.Native.Nat.{ℕ, ◌+◌, ◌-◌}
use native.Mathlib.Omega.{arith}
use lib.ListN.{length}
use Rattle.meaning.specs.Rows.{words}
use Rattle.meaning.proofs.PlaceLaws.{mid_place}
use Rattle.meaning.proofs.RowLaws.{length-words}
use Rattle.records.proofs.put_record.Goals as goal

pub returns : goal.returns
returns c =
    let at = c.args.at in
    let r = c.args.r in
    let e : c.fill_record.new.row ≡ words (r ∷ []) = c.fill_record.ensures in
    let l = length-words (r ∷ []) in
    let k : length c.fill_record.new.row ≡ (at + 4) - at = ap length e ∙ omega arith in
    mid_place at ((at + 4) - at) c.args.t.now c.fill_record.new.row k ∙ ap
    (λ (ys : mathlib.Core.List.List ℕ). Rattle.meaning.specs.Table.place at ys c.args.t.now) e
