-- `word` puts the word's bytes over the part of the buffer from the printer's place on.
use mathlib.Core.Path.{◌≡◌, refl, ap, ap₂, ◌∙◌}
use mathlib.Core.List.{List, ◌++◌}
use Prim.Native.Nat.{ℕ, ◌+◌, ◌-◌}
use native.Mathlib.Omega.{arith}
use lib.ListN.{length, take, drop}
use lib.Seq.{drop-drop}
use borrow.Rule.Slice.PartMut.{put_mid}
use Rattle.meaning.specs.Table.{place}
use Rattle.meaning.proofs.PlaceLaws.{length-place}
use Rattle.wording.proofs.word.Goals as goal

put_over : (at k : ℕ) (ys zs t : List ℕ) → ys ≡ zs → k ≡ length zs → put_mid at k t ys ≡ place at zs t
unfolding place
put_over at k ys zs t e l =
    ap (λ (rest : List ℕ). take at t ++ rest) (ap₂ ◌++◌ e (drop-drop k at t ∙ ap (λ (n : ℕ). drop (at + n) t) l))

pub returns : goal.returns
returns c =
    let p = c.args.printer.now in
    let w = c.args.w.now in
    let over = put_over p.at (p.at + length w - p.at) _ w p.out.now c.copy_from_slice.ensures.after (omega arith) in
    let long = ap length over ∙ length-place p.at w p.out.now c.requires in
    record {
      same = refl;
      long = long;
      fits = omega arith;
      wrote = record { to = refl; within = omega arith; is = over };
    }
