-- `write_line` meets its contract: the sum is not zero, or the write's step.
use native.Mathlib.Omega.{arith}
use mathlib.Core.Path.{sym, ◌∙◌}
use Rattle.steplines.proofs.StepLineLaws.{sum_told, sum_other, write_joins, write_unsure, write_turned}
use Rattle.steplines.proofs.write_line.Goals as goal

pub returns-then-ne-clause-turned : goal.returns-then-ne-clause-turned
returns-then-ne-clause-turned c =
    let values = c.values in
    write_unsure c.args.t.now.words.now c.args.s.now values.new.v c.requires values.ensures.1
    (λ e. sum_other values.result 0 c.ne.result c.ne.ensures c.if-ne.true (e ∙ sym values.ensures.0))

pub byte_of-requires : goal.byte_of-requires
byte_of-requires c =
    let values = c.values in
    write_joins c.args.t.now.words.now c.args.s.now values.new.v c.requires values.ensures.1
    (sum_told values.result 0 c.ne.result c.ne.ensures c.if-ne.false ∙ values.ensures.0) _ _ (omega arith)

pub word_of-requires : goal.word_of-requires
word_of-requires c =
    let values = c.values in
    write_joins c.args.t.now.words.now c.args.s.now values.new.v c.requires values.ensures.1
    (sum_told values.result 0 c.ne.result c.ne.ensures c.if-ne.false ∙ values.ensures.0) _ _ (omega arith)

pub word_of-requires-2 : goal.word_of-requires-2
word_of-requires-2 c =
    let values = c.values in
    write_joins c.args.t.now.words.now c.args.s.now values.new.v c.requires values.ensures.1
    (sum_told values.result 0 c.ne.result c.ne.ensures c.if-ne.false ∙ values.ensures.0) _ _ (omega arith)

pub byte_of-requires-2 : goal.byte_of-requires-2
byte_of-requires-2 c =
    let values = c.values in
    write_joins c.args.t.now.words.now c.args.s.now values.new.v c.requires values.ensures.1
    (sum_told values.result 0 c.ne.result c.ne.ensures c.if-ne.false ∙ values.ensures.0) _ _ (omega arith)

pub returns-clause-turned : goal.returns-clause-turned
returns-clause-turned c =
    let values = c.values in
    write_turned c.args.t.now.words.now c.args.s.now values.new.v c.requires values.ensures.1
    (sum_told values.result 0 c.ne.result c.ne.ensures c.if-ne.false ∙ values.ensures.0)
    c.byte_of.ensures c.word_of.ensures c.word_of-2.ensures c.byte_of-2.ensures c.write-reply.ensures.done c.from.ensures
