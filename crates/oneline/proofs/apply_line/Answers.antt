-- `apply_line` goes by what is wrong with the line, and then by the first of its six words.
use mathlib.Core.Path.{ap, ◌∙◌}
use Rattle.std.specs.Prelude.{Err}
use Rattle.std.proofs.lemmas.Result.{err_from_is_err_and}
use Rattle.meaning.specs.declared.Fault.{Fault}
use Rattle.oneline.proofs.WordLaws.{word_refused, word_start, word_step, fits, stepped}
use Rattle.oneline.proofs.apply_line.Goals as goal

pub returns-in-Some : goal.returns-in-Some
returns-in-Some c =
    let read = c.read_words in
    word_refused c.args.t.now c.args.line.now read.new.words read.result read.ensures c.in-Some.fault c.in-Some.is

pub returns-then-words-eq0 : goal.returns-then-words-eq0
returns-then-words-eq0 c =
    let read = c.read_words in
    let d = word_start c.args.t.now c.args.line.now read.new.words read.result read.ensures c.in_default.is c.if-words-eq0.true in
    (ap (λ (f : Fault). Err f) c.into.ensures ∙ d.0, d.1)

pub apply_words-requires : goal.apply_words-requires
apply_words-requires c =
    let read = c.read_words in
    let v = read.new.words in
    fits c.args.line.now v (word_step c.args.t.now c.args.line.now v read.result read.ensures c.in_default.is c.if-words-eq0.false)

pub returns-in_err-apply_words : goal.returns-in_err-apply_words
returns-in_err-apply_words c =
    let read = c.read_words in
    let v = read.new.words in
    let x = word_step c.args.t.now c.args.line.now v read.result read.ensures c.in_default.is c.if-words-eq0.false in
    let p = err_from_is_err_and c.from_residual.result c.from_residual.ensures.1 in
    let d = stepped c.args.line.now v x c.args.t.now c.in_err-apply_words.ensures in
    rw (p.1, p.2) d

pub returns : goal.returns
returns c =
    let read = c.read_words in
    let v = read.new.words in
    let x = word_step c.args.t.now c.args.line.now v read.result read.ensures c.in_default.is c.if-words-eq0.false in
    stepped c.args.line.now v x c.args.t.now c.in_ok-apply_words.ensures
