-- `session_line` meets its contract: the sum is not zero, the outcome is above 3, or the session's step.
use mathlib.Core.Path.{sym, ◌∙◌}
use native.Mathlib.Omega.{arith}
use Rattle.steplines.proofs.StepLineLaws.{sum_told, sum_other}
use Rattle.sessionline.proofs.SessionLineLaws.{session_joins, session_unsure, session_above, session_turned}
use Rattle.sessionline.proofs.session_line.Goals as goal

pub returns-then-ne-clause-turned : goal.returns-then-ne-clause-turned
returns-then-ne-clause-turned c =
    let values = c.values in
    session_unsure c.args.t.now.words.now c.args.s.now values.new.v c.requires values.ensures.1
    (λ e. sum_other values.result 254 c.ne.result c.ne.ensures c.if-ne.true (e ∙ sym values.ensures.0))

pub byte_of-outcome-requires : goal.byte_of-outcome-requires
byte_of-outcome-requires c =
    let values = c.values in
    session_joins c.args.t.now.words.now c.args.s.now values.new.v c.requires values.ensures.1
    (sum_told values.result 254 c.ne.result c.ne.ensures c.if-ne.false ∙ values.ensures.0) _ _ (omega arith)

pub returns-then-outcome-gt3-clause-turned : goal.returns-then-outcome-gt3-clause-turned
returns-then-outcome-gt3-clause-turned c =
    let values = c.values in
    session_above c.args.t.now.words.now c.args.s.now values.new.v c.requires values.ensures.1
    c.byte_of-outcome.ensures (omega (arith, c.if-outcome-gt3.true))

pub byte_of-requires : goal.byte_of-requires
byte_of-requires c =
    let values = c.values in
    session_joins c.args.t.now.words.now c.args.s.now values.new.v c.requires values.ensures.1
    (sum_told values.result 254 c.ne.result c.ne.ensures c.if-ne.false ∙ values.ensures.0) _ _ (omega arith)

pub byte_of-requires-2 : goal.byte_of-requires-2
byte_of-requires-2 c =
    let values = c.values in
    session_joins c.args.t.now.words.now c.args.s.now values.new.v c.requires values.ensures.1
    (sum_told values.result 254 c.ne.result c.ne.ensures c.if-ne.false ∙ values.ensures.0) _ _ (omega arith)

pub word_of-requires : goal.word_of-requires
word_of-requires c =
    let values = c.values in
    session_joins c.args.t.now.words.now c.args.s.now values.new.v c.requires values.ensures.1
    (sum_told values.result 254 c.ne.result c.ne.ensures c.if-ne.false ∙ values.ensures.0) _ _ (omega arith)

pub word_of-requires-2 : goal.word_of-requires-2
word_of-requires-2 c =
    let values = c.values in
    session_joins c.args.t.now.words.now c.args.s.now values.new.v c.requires values.ensures.1
    (sum_told values.result 254 c.ne.result c.ne.ensures c.if-ne.false ∙ values.ensures.0) _ _ (omega arith)

pub returns-clause-turned : goal.returns-clause-turned
returns-clause-turned c =
    let values = c.values in
    session_turned c.args.t.now.words.now c.args.s.now values.new.v c.requires values.ensures.1
    (sum_told values.result 254 c.ne.result c.ne.ensures c.if-ne.false ∙ values.ensures.0) c.byte_of.ensures c.byte_of-2.ensures
    c.word_of.ensures c.word_of-2.ensures c.byte_of-outcome.ensures (omega (arith, c.if-outcome-gt3.false))
    c.session-reply.ensures.done c.from.ensures
