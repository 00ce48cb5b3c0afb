-- `put_session` meets its contract: what a line of 26 characters must be, and its words.
use mathlib.Core.Path.{◌≡◌, ◌∙◌, ap}
use native.Mathlib.Omega.{arith}
use lib.ListN.{drop, length-drop}
use Rattle.std.specs.Prelude.{Some}
use Rattle.digits.specs.Digits.{sum_of, values_of}
use Rattle.heads.proofs.QuickLaws.{rest_part}
use Rattle.six.proofs.SixLaws.{told_not, joins_12}
use Rattle.sessionwords.proofs.SessionWordLaws.{puts_met}
use Rattle.sessionwords.proofs.put_session.Goals as goal

pub put_met-requires : goal.put_met-requires
put_met-requires c =
    let s = c.args.s.now in
    let long = c.requires.0 in
    let values = c.values in
    let v = values.new.v in
    let rest = rest_part s long in
    let is : Some 254 ≡ sum_of (drop 2 s) = told_not values.result 254 c.if-ne.ensures ∙ values.ensures.0 ∙ ap sum_of rest in
    let told : v ≡ values_of (drop 2 s) = values.ensures.1 ∙ ap values_of rest in
    let joins = joins_12 (drop 2 s) v 254 (omega (arith, length-drop 2 s, long)) is told in
    (joins, c.requires.1)

pub returns : goal.returns
returns c =
    let s = c.args.s.now in
    let long = c.requires.0 in
    let values = c.values in
    let v = values.new.v in
    let rest = rest_part s long in
    let is : Some 254 ≡ sum_of (drop 2 s) = told_not values.result 254 c.if-ne.ensures ∙ values.ensures.0 ∙ ap sum_of rest in
    let told : v ≡ values_of (drop 2 s) = values.ensures.1 ∙ ap values_of rest in
    let put = c.put_met in
    puts_met s v c.args.words.now put.new.words put.result long c.if-s-ne48.false c.if-s-ne50.false is told
    put.ensures.0 put.ensures.1
