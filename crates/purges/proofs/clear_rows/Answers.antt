-- `purges::clear_rows` meets its contract: the rows that were lent come back as zeros.
use mathlib.Core.Path.{◌≡◌, ap, ap₂, ◌∙◌}
use Prim.Native.Nat.{ℕ, ◌+◌, ◌*◌, ◌-◌, ◌<◌, ◌≤◌}
use native.Mathlib.Omega.{arith}
use mathlib.Core.List.{List, ◌++◌}
use lib.ListN.{length, take, drop, replicate, length-take, length-drop, length-replicate}
use Rattle.meaning.specs.Table.{form_of, form_words, place, nodes_most, log_most}
use Rattle.meaning.proofs.PlaceLaws.{mid_place}
use Rattle.purges.specs.Dropped.{log_from}
use Rattle.purges.proofs.clear_rows.Goals as goal

cleared :
    (t : List ℕ) (p at left held : ℕ) (w : List ℕ) → length t ≡ form_words (form_of t) → p < nodes_most → left ≤ held → held ≤ log_most → at ≡ log_from p t →
    w ≡ replicate (length (take ((at + 4 * held) - (at + 4 * left)) (drop (at + 4 * left) t))) 0 →
    take (at + 4 * left) t ++ (w ++ drop ((at + 4 * held) - (at + 4 * left)) (drop (at + 4 * left) t)) ≡ place (log_from p t + 4 * left)
    (replicate (4 * (held - left)) 0) t
cleared t p at left held w l b h r e q =
    let k : ℕ = (at + 4 * held) - (at + 4 * left) in
    let n : length (take k (drop (at + 4 * left) t)) ≡ 4 * (held - left) = simp (length-take, length-drop) (omega arith) in
    let f : w ≡ replicate (4 * (held - left)) 0 = q ∙ ap (λ (m : ℕ). replicate m 0) n in
    let g : length w ≡ k = ap length f ∙ length-replicate (4 * (held - left)) 0 ∙ omega arith in
    mid_place (at + 4 * left) k t w g ∙ ap₂ (λ (a : ℕ) (x : List ℕ). place (a + 4 * left) x t) e f

pub returns : goal.returns
returns c =
    cleared c.args.t.now c.args.p c.log_at-at.result c.args.left c.args.held c.clear.new.row
    c.requires.0 c.requires.1 c.requires.2 c.requires.3 c.log_at-at.ensures c.clear.ensures
