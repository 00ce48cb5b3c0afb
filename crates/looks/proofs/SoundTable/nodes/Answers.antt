use Rattle.meaning.proofs.TableLaws.{sound_facts}
use Rattle.looks.proofs.SoundTable.nodes.Goals as goal

pub count_of-requires : goal.count_of-requires
count_of-requires c = (sound_facts c.args.self.now.words.now c.args.self.now.is_sound).long

pub returns : goal.returns
returns c = (c.count_of.ensures, let s = sound_facts c.args.self.now.words.now c.args.self.now.is_sound in rw c.count_of.ensures s.high)
