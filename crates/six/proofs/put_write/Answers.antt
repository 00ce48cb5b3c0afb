-- `put_write` meets its contract: what a line of 24 characters must be, and its words.
use mathlib.Core.Path.{◌≡◌, ◌∙◌}
use Rattle.std.specs.Prelude.{Some}
use Rattle.meaning.proofs.FrameLaws.{clear}
use Rattle.digits.specs.Digits.{sum_of}
use Rattle.heads.proofs.QuickLaws.{write_good}
use Rattle.six.proofs.SixLaws.{puts_is, told_not, joins_12, six_write}
use Rattle.six.proofs.put_write.Goals as goal

pub put_written-requires : goal.put_written-requires
put_written-requires c =
    let values = c.values in
    let zero : Some 0 ≡ sum_of c.args.s.now = told_not values.result 0 c.if-ne.ensures ∙ values.ensures.0 in
    (joins_12 c.args.s.now values.new.v 0 c.requires.0 zero values.ensures.1, c.requires.1)

pub returns : goal.returns
returns c =
    let s = c.args.s.now in
    let long = c.requires.0 in
    let values = c.values in
    let zero : Some 0 ≡ sum_of s = told_not values.result 0 c.if-ne.ensures ∙ values.ensures.0 in
    puts_is s c.args.words.now c.put_written.new.words (clear s (write_good s long c.if-s-ne48.false c.if-s-ne49.false zero))
    (c.put_written.ensures ∙ six_write s values.new.v long c.if-s-ne48.false c.if-s-ne49.false zero values.ensures.1)
