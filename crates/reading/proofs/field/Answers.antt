-- `field` meets its contract: an arm for each length.
use mathlib.Core.Path.{◌∙◌, ap}
use mathlib.Core.List.{List}
use Prim.Native.Nat.{ℕ, ◌+◌}
use native.Mathlib.Omega.{arith}
use lib.ListN.{get_or}
use Rattle.meaning.specs.Frames.{line_values, read_line}
use Rattle.heads.proofs.HeadLaws.{whole_part}
use Rattle.heads.proofs.QuickLaws.{other_refused}
use Rattle.contents.proofs.ContentLaws.{refused_field}
use Rattle.reading.proofs.field.Goals as goal

pub returns-then-s-lt24 : goal.returns-then-s-lt24
returns-then-s-lt24 c = c.short_field.ensures

pub returns-in-24 : goal.returns-in-24
returns-in-24 c =
    let s = c.args.s.now in
    c.write_field.ensures
    ∙ ap (λ (l : List ℕ). get_or (line_values (read_line 0 l)) (3 + c.args.index) 0) (whole_part s 24 (omega (arith, c.in-24.is)))

pub returns-in-26 : goal.returns-in-26
returns-in-26 c =
    let s = c.args.s.now in
    c.session_field.ensures
    ∙ ap (λ (l : List ℕ). get_or (line_values (read_line 0 l)) (3 + c.args.index) 0) (whole_part s 26 (omega (arith, c.in-26.is)))

pub returns-in_default : goal.returns-in_default
returns-in_default c =
    let s = c.args.s.now in
    refused_field s c.args.index (other_refused s c.if-s-lt24.false (omega arith) (omega arith))
