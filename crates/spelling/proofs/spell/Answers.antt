-- `spell` meets its contract: the digits of the bytes passed stand from place 0.
use Rattle.spelling.proofs.SpellLaws.{spell_all}
use Rattle.spelling.proofs.spell.Goals as goal

pub returns : goal.returns
returns c =
    let l = c.loop-k in
    spell_all c.args.b.now c.args.d.now l.d l.k c.loop-k-test.false c.requires l.invariant
