-- `find`: the first LF is the definition's place.
use Rattle.std.proofs.Common.{sym, ◌∙◌, arith}
use Rattle.std.proofs.lemmas.List.{take_rest}
use Rattle.finder.proofs.Finding.{found_over, found_some, found_none}
use Rattle.finder.proofs.find.Goals as goal

pub returns-then-s-at : goal.returns-then-s-at
returns-then-s-at c = found_over c.args.s.now c.args.at c.if-s-at.true

pub returns-in-Some : goal.returns-in-Some
returns-in-Some c = found_some c.args.s.now _ c.args.at c.in-Some.past (omega arith) (take_rest c.args.s.now c.args.at) (sym c.first_lf.ensures ∙ c.in-Some.is)

pub returns-in-None : goal.returns-in-None
returns-in-None c = found_none c.args.s.now _ c.args.at (omega arith) (take_rest c.args.s.now c.args.at) (sym c.first_lf.ensures ∙ c.in-None.is)
