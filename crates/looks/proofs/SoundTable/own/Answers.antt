use mathlib.Core.Path.{◌≡◌, sym}
use Prim.Native.Nat.{ℕ, ◌+◌, ◌<◌}
use mathlib.Core.List.{List}
use lib.ListN.{get_or}
use Rattle.meaning.specs.Table.{form_of, count, node, summary_at}
use Rattle.meaning.specs.Node.{own}
use Rattle.meaning.proofs.PlaceLaws.{get_d_part}
use native.Mathlib.Omega.{arith}
use Rattle.meaning.proofs.TableLaws.{sound_facts}
use Rattle.looks.proofs.SoundTable.own.Goals as goal

entry : (t : List ℕ) (p at : ℕ) → p < count t → at ≡ summary_at (form_of t) p → get_or t (at + p) 0 ≡ own p (node t p)
unfolding own node
entry t p at h e = sym (get_d_part (summary_at (form_of t) p) (count t) t p (at + p) (omega arith) h)

pub summary_at-requires : goal.summary_at-requires
summary_at-requires c = let s = sound_facts c.args.self.now.words.now c.args.self.now.is_sound in (s.long, omega (arith, s.high, c.requires))

pub bounds-self-at : goal.bounds-self-at
bounds-self-at c = let s = sound_facts c.args.self.now.words.now c.args.self.now.is_sound in omega (arith, c.summary_at.ensures.1, s.high, c.requires)

pub returns : goal.returns
returns c =
    entry c.args.self.now.words.now c.args.p c.summary_at.result c.requires c.summary_at.ensures.0
