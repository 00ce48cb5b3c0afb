-- `short_held` meets its contract: no other short line is accepted.
use mathlib.Core.Path.{◌∙◌, ap}
use native.Mathlib.Omega.{arith}
use Rattle.heads.specs.Heads.{short_of}
use Rattle.heads.proofs.HeadLaws.{six_of}
use Rattle.heads.proofs.QuickLaws.{short_none, no_length}
use Rattle.quick.proofs.short_held.Goals as goal

pub returns-then-s-ne6 : goal.returns-then-s-ne6
returns-then-s-ne6 c =
    let s = c.args.s.now in
    short_none s (λ g. no_length s g c.if-s-ne6.true (omega (arith, c.requires)) (omega (arith, c.requires)))

pub returns : goal.returns
returns c =
    let s = c.args.s.now in
    c.short_line.ensures ∙ ap short_of (six_of s c.if-s-ne6.false)
