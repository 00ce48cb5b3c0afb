-- `put_short` meets its contract: by what the line holds.
use mathlib.Core.Path.{sym, ◌∙◌}
use Rattle.words.proofs.WordLaws.{short_put, short_refused}
use Rattle.words.proofs.put_short.Goals as goal

pub returns-in_default : goal.returns-in_default
returns-in_default c =
    short_refused c.args.s.now c.args.words.now (sym c.in_default.is ∙ c.short_held.ensures)

pub returns : goal.returns
returns c =
    short_put c.args.s.now c.in-Some.held c.requires.0 (sym c.in-Some.is ∙ c.short_held.ensures) c.args.words.now c.put.new.words c.put.ensures
