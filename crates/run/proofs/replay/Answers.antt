-- `replay` goes by the three tests of the definition.
use Rattle.run.proofs.Telling.{replay_none, replay_short, replay_long, replay_right}
use Rattle.run.proofs.replay.Goals as goal

pub returns-then-t-ne-TABLE_WORDS : goal.returns-then-t-ne-TABLE_WORDS
returns-then-t-ne-TABLE_WORDS c =
    let a = c.args in
    replay_none a.s.now a.t.now a.out.now c.if-t-ne-TABLE_WORDS.true

pub returns-then-out-lt-TEXT_MOST : goal.returns-then-out-lt-TEXT_MOST
returns-then-out-lt-TEXT_MOST c =
    let a = c.args in
    replay_short a.s.now a.t.now a.out.now c.if-t-ne-TABLE_WORDS.false c.if-out-lt-TEXT_MOST.true

pub returns-then-s-gt-JOURNAL_MOST : goal.returns-then-s-gt-JOURNAL_MOST
returns-then-s-gt-JOURNAL_MOST c =
    let a = c.args in
    replay_long a.s.now a.t.now a.out.now c.if-t-ne-TABLE_WORDS.false c.if-out-lt-TEXT_MOST.false c.if-s-gt-JOURNAL_MOST.true c.show.ensures

pub returns : goal.returns
returns c =
    let a = c.args in
    replay_right a.s.now a.t.now a.out.now c.if-t-ne-TABLE_WORDS.false c.if-out-lt-TEXT_MOST.false c.if-s-gt-JOURNAL_MOST.false c.told.ensures
