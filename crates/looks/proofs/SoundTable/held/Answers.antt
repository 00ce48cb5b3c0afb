use native.Mathlib.Omega.{arith}
use Rattle.meaning.proofs.TableLaws.{sound_facts}
use Rattle.looks.proofs.SoundTable.held.Goals as goal

pub held_of-requires : goal.held_of-requires
held_of-requires c = let s = sound_facts c.args.self.now.words.now c.args.self.now.is_sound in (s.long, omega (arith, s.high, c.requires))

pub returns : goal.returns
returns c = let s = sound_facts c.args.self.now.words.now c.args.self.now.is_sound in (c.held_of.ensures, rw c.held_of.ensures (s.room c.args.p c.requires))
