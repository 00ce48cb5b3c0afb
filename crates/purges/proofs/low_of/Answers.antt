-- `purges::low_of` meets its contract: the part that is lent is the node's row, and its first word stands where it stood.
use mathlib.Core.Path.{◌≡◌, ap, sym, ◌∙◌}
use Prim.Native.Nat.{ℕ, ◌+◌, ◌-◌, ◌<◌}
use native.Mathlib.Omega.{arith}
use mathlib.Core.List.{List}
use lib.ListN.{take, drop, get_or, set}
use lib.Seq.{set-get_or}
use Rattle.meaning.specs.Rows.{least, least_at}
use Rattle.meaning.specs.Node.{lows}
use Rattle.meaning.specs.Steps.{lagging}
use Rattle.meaning.specs.Table.{Form, acks_wide, count, node, Sound}
use Rattle.meaning.proofs.PlaceLaws.{part_lent, inside_lent, get_d_part}
use Rattle.meaning.proofs.RowLaws.{least_at_below}
use Rattle.meaning.proofs.TableLaws.{node_shaped, sound_facts}
use Rattle.purges.proofs.PurgeLaws.{acks_lent}
use Rattle.purges.proofs.low_of.Goals as goal

-- a row in which the first word is put where it stood
own : (t : List ℕ) (at n : ℕ) → 0 < n → set (take ((at + n) - at) (drop at t)) 0 (get_or t at 0) ≡ take ((at + n) - at) (drop at t)
own t at n h =
    let e : get_or (take ((at + n) - at) (drop at t)) 0 0 ≡ get_or t at 0 =
    ap (λ (l : List ℕ). get_or l 0 0) (part_lent at n t) ∙ get_d_part at n t 0 at (omega arith) h
    in
    ap (set (take ((at + n) - at) (drop at t)) 0) (sym e) ∙ set-get_or (take ((at + n) - at) (drop at t)) 0 0

pub least_with-requires : goal.least_with-requires
least_with-requires c =
    let s : Sound c.args.t.now.words.now = sound_facts c.args.t.now.words.now c.args.t.now.is_sound in
    let l = s.long in
    let a = s.low in
    let b = s.high in
    inside_lent c.acks_at-at.result _ c.args.t.now.words.now 0 (omega arith) (omega arith)

pub returns : goal.returns
unfolding lagging lows
returns c =
    let t = c.args.t.now.words.now in
    let s : Sound t = sound_facts t c.args.t.now.is_sound in
    let a = s.low in
    let here = c.requires.0 in
    let nodes = c.requires.1 in
    let form = c.requires.2 in
    let row =
    own t c.acks_at-at.result c.args.n (omega arith) ∙
    acks_lent t c.args.p c.acks_at-at.result c.args.n form c.acks_at-at.ensures nodes
    in
    let found = c.least_with.ensures in
    let at = found.1 ∙ ap least_at row ∙ ap (λ (f : Form). least_at (lows f (node t c.args.p))) (sym form) in
    let wide = (node_shaped t s c.args.p here).acks_long ∙ ap (λ (f : Form). acks_wide f (count t)) form in
    let e = found.1 ∙ ap least_at row in
    let below = least_at_below (node t c.args.p).acks (omega arith) in
    (found.0 ∙ ap least row, at, omega arith)
