-- `apply_lines` goes by the one look over the table.
use mathlib.Core.Path.{sym, ◌∙◌}
use borrow.Author.Rules.{rules}
use Rattle.lines.proofs.Applying.{lines_unsound, lines_sound}
use Rattle.lines.proofs.apply_lines.Goals as goal

pub returns-then-not-is_sound : goal.returns-then-not-is_sound
returns-then-not-is_sound c =
    let a = c.args in
    rw (c.halted.ensures, c.into.ensures) (lines_unsound a.t.now a.s.now (sym c.is_sound.ensures ∙ c.if-not-is_sound.true))

pub returns : goal.returns
returns c =
    let a = c.args in
    let done = lines_sound a.t.now a.s.now (sym c.is_sound.ensures ∙ c.if-not-is_sound.false) c.apply_from.ensures.applied in
    search (rules, done.0, done.1)
