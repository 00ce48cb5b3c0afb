-- `deliveries::fill` meets its contract: the log that is lent is the node's.
use mathlib.Core.Path.{ap, ◌∙◌}
use mathlib.Core.List.{List}
use native.Mathlib.Omega.{arith}
use lib.ListN.{length}
use Rattle.meaning.specs.declared.Record.{Record}
use Rattle.meaning.specs.Rows.{due, in_order, words}
use Rattle.meaning.specs.Table.{place}
use Rattle.deliveries.proofs.LentLaws.{due_few}
use Rattle.deliveries.proofs.fill.Goals as goal

pub give-requires : goal.give-requires
give-requires c = rw c.log_of.ensures c.requires.room

pub returns : goal.returns
returns c =
    let by = c.args.by in
    let is = ap (due by.which.mark by.which.limit) c.log_of.ensures in
    let many = c.give.ensures.value ∙ ap length is in
    let few = due_few c.args.t.now.words.now by c.requires.goes in
    record {
      value = (many, omega arith);
      list_after = c.give.ensures.list_after ∙ ap (λ (rs : List Record). place 0 (words (in_order rs)) c.args.list.now) is;
    }
