-- `verdicts::count_node`: the refusals in their order; a sound table has what `count_log` requires.
use mathlib.Core.Path.{◌≡◌, sym, ◌∙◌}
use mathlib.Core.Bool.{true}
use Prim.Native.Nat.{◌<◌}
use native.Mathlib.Omega.{arith}
use Rattle.meaning.specs.Table.{count, sound}
use Rattle.meaning.proofs.TableLaws.{sound_facts}
use Rattle.meaning.proofs.VerdictLaws.{node_unsound, node-absent}
use Rattle.verdicts.proofs.count_node.Goals as goal

pub returns-then-not-is_sound : goal.returns-then-not-is_sound
returns-then-not-is_sound c = node_unsound _ _ (sym c.is_sound.ensures ∙ c.if-not-is_sound.true)

pub count_of-requires : goal.count_of-requires
count_of-requires c = (sound_facts _ (sym c.is_sound.ensures ∙ c.if-not-is_sound.false)).long

pub returns-then-count_of-p : goal.returns-then-count_of-p
returns-then-count_of-p c =
    node-absent _ _ _ (sym c.is_sound.ensures ∙ c.if-not-is_sound.false)
    c.count_of.ensures c.if-count_of-p.true

pub count_log-requires : goal.count_log-requires
count_log-requires c =
    let t = c.args.t.now in
    let good : sound t ≡ true = sym c.is_sound.ensures ∙ c.if-not-is_sound.false in
    let s = sound_facts t good in
    let present : c.args.node < count t = omega (arith, c.count_of.ensures, c.if-count_of-p.false) in
    record { t_len = (s.long, omega (arith, s.high), s.room c.args.node present); t_value = (good, present) }
