-- `is_session` meets its contract: what a line of 26 characters must be.
use mathlib.Core.Path.{◌≡◌, sym, ◌∙◌, ap}
use mathlib.Core.Bool.{true, true≢false}
use lib.ListN.{get_or, drop}
use native.Mathlib.Omega.{arith}
use lib.Dec.{eqb}
use Rattle.std.specs.Prelude.{Some}
use Rattle.std.specs.Option.{option_eq}
use Rattle.digits.proofs.DigitLaws.{told_some, some_told}
use Rattle.digits.specs.Digits.{sum_of}
use Rattle.heads.specs.Heads.{is_outcome}
use Rattle.heads.proofs.HeadLaws.{accepted_not, accepted_by}
use Rattle.heads.proofs.QuickLaws.{session_good, good_session, outcome_is, outcome_right, outcome_chars, rest_part}
use Rattle.quick.proofs.is_session.Goals as goal

pub returns-then-s-ne48 : goal.returns-then-s-ne48
returns-then-s-ne48 c =
    let s = c.args.s.now in
    sym (accepted_not s (λ g. c.if-s-ne48.true (good_session s c.requires g).0))

pub returns-then-s-ne50 : goal.returns-then-s-ne50
returns-then-s-ne50 c =
    let s = c.args.s.now in
    sym (accepted_not s (λ g. c.if-s-ne50.true (good_session s c.requires g).1))

pub returns-then-not-is_outcome : goal.returns-then-not-is_outcome
returns-then-not-is_outcome c =
    let s = c.args.s.now in
    let not_so = sym c.is_outcome.ensures ∙ c.if-not-is_outcome.true in
    sym (accepted_not s (λ g.
    let within = (good_session s c.requires g).2 in
    let so : is_outcome (get_or s 22 0) (get_or s 23 0) ≡ true =
    outcome_chars (get_or s 22 0) (get_or s 23 0) (omega (arith, outcome_is s c.requires, within)) in
    true≢false (sym so ∙ not_so)))

pub returns : goal.returns
returns c =
    let s = c.args.s.now in
    let sum = c.total.result in
    let is : sum ≡ sum_of (drop 2 s) = c.total.ensures ∙ ap sum_of (rest_part s c.requires) in
    let so = sym c.is_outcome.ensures ∙ c.if-not-is_outcome.false in
    let within = outcome_right (get_or s 22 0) (get_or s 23 0) so in
    let few = outcome_is s c.requires in
    c.eq.ensures
    ∙ accepted_by s (option_eq eqb sum (Some 254))
    (λ e. session_good s c.requires c.if-s-ne48.false c.if-s-ne50.false (omega (arith, within, few)) (told_some sum 254 e ∙ is))
    (λ g. some_told sum 254 ((good_session s c.requires g).3 ∙ sym is))
