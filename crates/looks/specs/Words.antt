-- A sound table that is lent on comes back as the same words.
use Rattle.std.specs.Prelude.{◌≡◌, length}
use Rattle.looks.specs.declared.SoundTable.{SoundTable}

-- the same lent words, as many of them; what they hold is told beside this
abbrev pub SameWords : SoundTable → SoundTable → Type 0
SameWords t t' = (t'.words.ghost_name ≡ t.words.ghost_name) × (length t'.words.now ≡ length t.words.now)
