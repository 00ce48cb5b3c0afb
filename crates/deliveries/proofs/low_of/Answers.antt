-- `deliveries::low_of` meets its contract: the part that is lent is the node's row, and its first word stands where it stood.
use mathlib.Core.Path.{◌≡◌, ap, ap₂, sym, ◌∙◌}
use Prim.Native.Nat.{ℕ, ◌+◌, ◌-◌, ◌<◌}
use native.Mathlib.Omega.{arith}
use mathlib.Core.List.{List}
use lib.ListN.{take, drop, get_or, set}
use lib.Seq.{set-get_or}
use Rattle.meaning.specs.Rows.{least}
use Rattle.meaning.specs.Table.{form_of, count, node, part, summary_at}
use Rattle.meaning.proofs.PlaceLaws.{part_lent, inside_lent, get_d_part}
use Rattle.meaning.proofs.TableLaws.{sound_facts}
use Rattle.deliveries.proofs.low_of.Goals as goal

lent : (t : List ℕ) (p at n : ℕ) → at ≡ summary_at (form_of t) p → n ≡ count t → take ((at + n) - at) (drop at t) ≡ (node t p).summary
unfolding node
lent t p at n e f = part_lent at n t ∙ ap₂ (λ (a m : ℕ). part a m t) e f

-- a row in which the first word is put where it stood
own : (t : List ℕ) (at n : ℕ) → 0 < n → set (take ((at + n) - at) (drop at t)) 0 (get_or t at 0) ≡ take ((at + n) - at) (drop at t)
own t at n h =
    let e : get_or (take ((at + n) - at) (drop at t)) 0 0 ≡ get_or t at 0 =
    ap (λ (l : List ℕ). get_or l 0 0) (part_lent at n t) ∙ get_d_part at n t 0 at (omega arith) h
    in
    ap (set (take ((at + n) - at) (drop at t)) 0) (sym e) ∙ set-get_or (take ((at + n) - at) (drop at t)) 0 0

pub summary_at-at-requires : goal.summary_at-at-requires
summary_at-at-requires c =
    let s = sound_facts c.args.t.now.words.now c.args.t.now.is_sound in
    (s.long, omega (arith, s.high, c.requires.0))

pub overflow_add-end : goal.overflow_add-end
overflow_add-end c =
    let s = sound_facts c.args.t.now.words.now c.args.t.now.is_sound in
    omega (arith, s.high, c.summary_at-at.ensures.1, c.requires.1)

pub slice_bounds-least_with-end : goal.slice_bounds-least_with-end
slice_bounds-least_with-end c =
    let s = sound_facts c.args.t.now.words.now c.args.t.now.is_sound in
    omega (arith, s.high, c.summary_at-at.ensures.1, c.requires.1)

pub least_with-low-requires : goal.least_with-low-requires
least_with-low-requires c =
    let s = sound_facts c.args.t.now.words.now c.args.t.now.is_sound in
    let l = s.long in
    let a = s.low in
    let b = s.high in
    let e = c.summary_at-at.ensures.1 in
    inside_lent c.summary_at-at.result _ c.args.t.now.words.now 0 (omega arith) (omega arith)

pub returns : goal.returns
returns c =
    let t = c.args.t.now.words.now in
    let s = sound_facts t c.args.t.now.is_sound in
    let a = s.low in
    let at = c.summary_at-at.result in
    c.least_with-low.ensures.0 ∙
    ap least (own t at c.args.n (omega arith) ∙ lent t c.args.p at c.args.n c.summary_at-at.ensures.0 c.requires.1)
