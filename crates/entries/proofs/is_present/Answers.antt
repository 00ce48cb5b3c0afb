-- `is_present` meets its contract: the scan, then the count.
use mathlib.Core.Path.{sym, ◌∙◌}
use Rattle.meaning.proofs.TableLaws.{sound_facts}
use Rattle.entries.proofs.EntryLaws.{unsound_absent, sound-present}
use Rattle.entries.proofs.is_present.Goals as goal

pub count_of-requires : goal.count_of-requires
count_of-requires c = (sound_facts _ (sym c.is_sound.ensures ∙ c.if-is_sound.true)).long

pub returns-then-is_sound : goal.returns-then-is_sound
returns-then-is_sound c =
    sound-present _ _ _ (sym c.is_sound.ensures ∙ c.if-is_sound.true) c.count_of.ensures

pub returns-else-is_sound : goal.returns-else-is_sound
returns-else-is_sound c = c.if-is_sound.false ∙ unsound_absent _ _ (sym c.is_sound.ensures ∙ c.if-is_sound.false)
