-- `spelled` meets its contract: a law for each clause, in their order.
use mathlib.Core.Path.{sym, ◌∙◌, ap}
use Prim.Native.Nat.{ℕ, ◌-◌, min}
use lib.ListN.{length}
use lib.Dec.{eqb}
use Rattle.std.specs.Prelude.{Option, Some}
use Rattle.std.specs.Option.{option_eq}
use Rattle.std.proofs.lemmas.Result.{err_from_is_err_and}
use Rattle.meaning.specs.declared.Refusal.{Refusal}
use Rattle.meaning.specs.declared.Refusal.TheVariants.{LengthWrong}
use Rattle.heads.specs.Kinds.{kind_number}
use Rattle.faults.proofs.FaultLaws.{whole_of, line_unknown, line_length, line_late}
use Rattle.faults.proofs.spelled.Goals as goal

pub returns-in_err-kind : goal.returns-in_err-kind
returns-in_err-kind c =
    let pre = c.requires in
    let p = err_from_is_err_and c.from_residual.result c.from_residual.ensures.1 in
    rw (p.1, p.2) (
    ap (λ (r : Refusal). Some (record { refusal = r; place = 0 })) c.in_err-kind.ensures.0
    ∙ line_unknown c.args.s.now c.byte.result pre.0 pre.1 pre.2 c.byte.ensures c.in_err-kind.ensures.1
    )

pub returns-then-s-due : goal.returns-then-s-due
returns-then-s-due c =
    let pre = c.requires in
    let s = c.args.s.now in
    let place = c.min.ensures ∙ ap (min (length s)) c.digits-due.ensures in
    ap (λ (p : ℕ). Some (record { refusal = LengthWrong; place = p })) place
    ∙ line_length s c.in_ok-kind.kind pre.0 (c.in_ok-kind.ensures ∙ c.byte.ensures) pre.1 pre.2 (λ e. c.if-s-due.true (e ∙ sym c.digits-due.ensures))

pub outcome_above-requires : goal.outcome_above-requires
outcome_above-requires c =
    whole_of c.args.s.now c.in_ok-kind.kind c.requires.0 (c.in_ok-kind.ensures ∙ c.byte.ensures) (c.if-s-due.false ∙ c.digits-due.ensures)

pub start_wrong-requires : goal.start_wrong-requires
start_wrong-requires c =
    whole_of c.args.s.now c.in_ok-kind.kind c.requires.0 (c.in_ok-kind.ensures ∙ c.byte.ensures) (c.if-s-due.false ∙ c.digits-due.ensures)

pub returns-in_err-late : goal.returns-in_err-late
returns-in_err-late c =
    let s = c.args.s.now in
    let by_kind = c.in_ok-kind.ensures ∙ c.byte.ensures in
    let whole = whole_of s c.in_ok-kind.kind c.requires.0 by_kind (c.if-s-due.false ∙ c.digits-due.ensures) in
    let sums = c.eq.ensures ∙ ap (λ (o : Option ℕ). option_eq eqb o (Some 0)) c.total.ensures in
    let told =
    line_late s (kind_number c.in_ok-kind.kind) (c.digits-due.result - 2) c.outcome_above.result c.eq.result c.start_wrong.result whole
    (ap (λ (n : ℕ). n - 2) (sym c.if-s-due.false)) c.outcome_above.ensures sums c.start_wrong.ensures in
    let p = err_from_is_err_and c.from_residual-in_err-late.result c.from_residual-in_err-late.ensures.1 in
    rw (p.1, p.2) (c.in_err-late.ensures ∙ told)

pub returns : goal.returns
returns c =
    let s = c.args.s.now in
    let by_kind = c.in_ok-kind.ensures ∙ c.byte.ensures in
    let whole = whole_of s c.in_ok-kind.kind c.requires.0 by_kind (c.if-s-due.false ∙ c.digits-due.ensures) in
    let sums = c.eq.ensures ∙ ap (λ (o : Option ℕ). option_eq eqb o (Some 0)) c.total.ensures in
    let told =
    line_late s (kind_number c.in_ok-kind.kind) (c.digits-due.result - 2) c.outcome_above.result c.eq.result c.start_wrong.result whole
    (ap (λ (n : ℕ). n - 2) (sym c.if-s-due.false)) c.outcome_above.ensures sums c.start_wrong.ensures in
    (c.in_ok-late.ensures ∙ told, whole)
