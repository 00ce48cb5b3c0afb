-- `deliveries::due_of` meets its contract: nothing is due below the mark, or the log is counted.
use mathlib.Core.Path.{sym, ap, ◌∙◌}
use mathlib.Core.List.{List}
use native.Mathlib.Omega.{arith}
use lib.ListN.{length}
use Rattle.meaning.specs.declared.Record.{Record}
use Rattle.meaning.specs.Rows.{due}
use Rattle.meaning.specs.Table.{node}
use Rattle.deliveries.proofs.LentLaws.{none-due, due_few}
use Rattle.deliveries.proofs.due_of.Goals as goal

pub returns-then-by : goal.returns-then-by
returns-then-by c =
    let by = c.args.by in
    (sym (ap length (none-due by.which.mark by.which.limit c.if-by.true (node c.args.t.now.words.now by.p).log)), omega arith)

pub returns : goal.returns
returns c =
    let by = c.args.by in
    let is = c.due_count.ensures ∙ ap (λ (rs : List Record). length (due by.which.mark by.which.limit rs)) c.log_of.ensures in
    let few = due_few c.args.t.now.words.now by c.requires in
    (is, omega arith)
