-- `soundness::is_sound`: the tests in the order of the definition.
use mathlib.Core.Path.{ap}
use mathlib.Core.Path.{◌≡◌, sym, ◌∙◌}
use mathlib.Core.Bool.{Bool, false, not}
use mathlib.Core.List.{List}
use Prim.Native.Nat.{ℕ}
use borrow.Author.Tests.{eqb-true, eqb-false, not-true, not-false}
use native.Mathlib.Omega.{arith}
use lib.ListN.{length}
use Rattle.meaning.specs.Table.{form_of, form_words, length_right}
use Rattle.meaning.proofs.SoundLaws.{unsound_length, unsound_few, unsound_many, sound_logs}
use Rattle.soundness.proofs.is_sound.Goals as goal

-- what the test of the length says where it passes
long : (t : List ℕ) (r : Bool) → r ≡ length_right t → not r ≡ false → length t ≡ form_words (form_of t)
long t r e passed = eqb-true _ _ (sym e ∙ not-false r passed)

pub returns-then-not-is_long : goal.returns-then-not-is_long
returns-then-not-is_long c =
    unsound_length _ (eqb-false _ _ (sym c.is_long.ensures ∙ not-true c.is_long.result (ap not c.if-not-is_long.true)))

pub count_of-n-requires : goal.count_of-n-requires
count_of-n-requires c = long _ c.is_long.result c.is_long.ensures (ap not c.if-not-is_long.false)

pub returns-then-n-lt2 : goal.returns-then-n-lt2
returns-then-n-lt2 c =
    let right = long _ c.is_long.result c.is_long.ensures (ap not c.if-not-is_long.false) in
    unsound_few _ _ right c.count_of-n.ensures (omega arith)

pub returns-then-n-gt-NODES_MOST : goal.returns-then-n-gt-NODES_MOST
returns-then-n-gt-NODES_MOST c =
    let right = long _ c.is_long.result c.is_long.ensures (ap not c.if-not-is_long.false) in
    unsound_many _ _ right c.count_of-n.ensures (omega arith) (omega arith)

pub logs_sound-requires : goal.logs_sound-requires
logs_sound-requires c =
    (long _ c.is_long.result c.is_long.ensures (ap not c.if-not-is_long.false), c.count_of-n.ensures, omega arith)

pub returns : goal.returns
returns c =
    let right = long _ c.is_long.result c.is_long.ensures (ap not c.if-not-is_long.false) in
    sound_logs _ _ _ right c.count_of-n.ensures (omega arith) (omega arith) c.logs_sound.ensures
