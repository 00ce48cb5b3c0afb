-- `sides::settle` meets its contract: the own entries put are the rows put, since the rest of them is there.
use mathlib.Core.Path.{ap, ◌∙◌}
use mathlib.Core.Bool.{not}
use borrow.Author.Tests.{not-true, not-false}
use Rattle.meaning.specs.Table.{form_of}
use Rattle.meaning.specs.Steps.{on_columns}
use Rattle.layout.proofs.FormLaws.{has_columns, has_vectors}
use Rattle.sides.proofs.RowsLaws.{put_form_kept, settled_columns, acks_then, settled_vectors}
use Rattle.sides.proofs.settle.Goals as goal

pub put_entry-requires-then-not-has_columns : goal.put_entry-requires-then-not-has_columns
put_entry-requires-then-not-has_columns c =
    let kept = put_form_kept c.requires c.summary_at-at.result c.put_entry.new.t c.summary_at-at.ensures.0 c.put_entry.ensures in
    let none = not-true c.has_columns.result (ap not c.if-not-has_columns.true) in
    let form = has_vectors (form_of c.args.t.now) c.has_columns.result (c.has_columns.ensures ∙ ap on_columns kept) none in
    acks_then c.requires form c.summary_at-at.result c.acks_at.result c.put_entry.new.t
    c.summary_at-at.ensures.0 c.acks_at.ensures c.put_entry.ensures

pub returns-then-not-has_columns : goal.returns-then-not-has_columns
returns-then-not-has_columns c =
    let kept = put_form_kept c.requires c.summary_at-at.result c.put_entry.new.t c.summary_at-at.ensures.0 c.put_entry.ensures in
    let none = not-true c.has_columns.result (ap not c.if-not-has_columns.true) in
    let form = has_vectors (form_of c.args.t.now) c.has_columns.result (c.has_columns.ensures ∙ ap on_columns kept) none in
    settled_vectors c.requires form c.summary_at-at.result c.acks_at.result c.put_entry.new.t
    c.put_entry-then-not-has_columns.new.t c.summary_at-at.ensures.0 c.acks_at.ensures c.put_entry.ensures
    c.put_entry-then-not-has_columns.ensures

pub returns-else-not-has_columns : goal.returns-else-not-has_columns
returns-else-not-has_columns c =
    let kept = put_form_kept c.requires c.summary_at-at.result c.put_entry.new.t c.summary_at-at.ensures.0 c.put_entry.ensures in
    let some = not-false c.has_columns.result (ap not c.if-not-has_columns.false) in
    let form = has_columns (form_of c.args.t.now) c.has_columns.result (c.has_columns.ensures ∙ ap on_columns kept) some in
    c.put_entry.ensures ∙
    settled_columns c.requires form c.summary_at-at.result c.summary_at-at.ensures.0
