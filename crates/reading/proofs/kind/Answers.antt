-- `kind` meets its contract: an arm for each length.
use mathlib.Core.Path.{sym, ◌∙◌, ap}
use native.Mathlib.Omega.{arith}
use Rattle.heads.specs.Heads.{accepted}
use Rattle.heads.proofs.HeadLaws.{whole_part, accepted_clear, accepted_refused}
use Rattle.heads.proofs.QuickLaws.{other_refused}
use Rattle.reading.proofs.LineLaws.{refused_kind, kind_write, kind_session}
use Rattle.reading.proofs.kind.Goals as goal

pub returns-then-s-lt24 : goal.returns-then-s-lt24
returns-then-s-lt24 c = c.short_kind.ensures

pub returns-then-is_write : goal.returns-then-is_write
returns-then-is_write c =
    let s = c.args.s.now in
    let long = c.in-24.is in
    let whole = whole_part s 24 (omega (arith, long)) in
    let is = sym (c.is_write.ensures ∙ ap accepted whole) ∙ c.if-is_write.true in
    kind_write s (accepted_clear s is) long

pub returns-else-is_write : goal.returns-else-is_write
returns-else-is_write c =
    let s = c.args.s.now in
    let long = c.in-24.is in
    let whole = whole_part s 24 (omega (arith, long)) in
    let is = sym (c.is_write.ensures ∙ ap accepted whole) ∙ c.if-is_write.false in
    refused_kind s (accepted_refused s is)

pub returns-then-is_session : goal.returns-then-is_session
returns-then-is_session c =
    let s = c.args.s.now in
    let long = c.in-26.is in
    let whole = whole_part s 26 (omega (arith, long)) in
    let is = sym (c.is_session.ensures ∙ ap accepted whole) ∙ c.if-is_session.true in
    kind_session s (accepted_clear s is) long

pub returns-else-is_session : goal.returns-else-is_session
returns-else-is_session c =
    let s = c.args.s.now in
    let long = c.in-26.is in
    let whole = whole_part s 26 (omega (arith, long)) in
    let is = sym (c.is_session.ensures ∙ ap accepted whole) ∙ c.if-is_session.false in
    refused_kind s (accepted_refused s is)

pub returns-in_default : goal.returns-in_default
returns-in_default c =
    let s = c.args.s.now in
    refused_kind s (other_refused s c.if-s-lt24.false (omega arith) (omega arith))
