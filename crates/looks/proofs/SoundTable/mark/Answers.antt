-- `mark` meets its contract: the place that `mark_at` gives is the definition's.
use mathlib.Core.Path.{◌≡◌, ap}
use Prim.Native.Nat.{ℕ}
use native.Mathlib.Omega.{arith}
use mathlib.Core.List.{List}
use lib.ListN.{get_or}
use Rattle.meaning.specs.Table.{form_of, mark_at, mark}
use Rattle.meaning.proofs.TableLaws.{sound_facts}
use Rattle.looks.proofs.SoundTable.mark.Goals as goal

word : (t : List ℕ) (p at : ℕ) → at ≡ mark_at (form_of t) p → get_or t at 0 ≡ mark t p
unfolding mark
word t p at e = ap (λ (i : ℕ). get_or t i 0) e

pub mark_at-requires : goal.mark_at-requires
mark_at-requires c =
    let s = sound_facts c.args.self.now.words.now c.args.self.now.is_sound in
    (s.long, omega (arith, s.high, c.requires))

pub returns : goal.returns
returns c =
    word c.args.self.now.words.now c.args.p c.mark_at.result c.mark_at.ensures

pub bounds-self-mark_at : goal.bounds-self-mark_at
bounds-self-mark_at c =
    let s = sound_facts c.args.self.now.words.now c.args.self.now.is_sound in
    omega (arith, c.mark_at.ensures, s.long, s.high, c.requires)

pub offset_bounds-self-mark_at : goal.offset_bounds-self-mark_at
offset_bounds-self-mark_at c =
    let s = sound_facts c.args.self.now.words.now c.args.self.now.is_sound in
    omega (arith, c.mark_at.ensures, s.long, s.high, c.requires)
