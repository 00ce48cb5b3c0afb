-- `entry` meets its contract: the row has n entries, and no more.
use mathlib.Core.Path.{ap, ◌∙◌}
use native.Mathlib.Omega.{arith}
use Rattle.std.specs.Option.{unwrap_or}
use Rattle.entries.proofs.EntryLaws.{row_is}
use Rattle.entries.proofs.entry.Goals as goal

pub returns : goal.returns
returns c =
    c.unwrap_or.ensures ∙ ap (λ o. unwrap_or o 0) c.copied.ensures ∙ c.get.ensures.lookup.4 (omega arith) 0 ∙
    row_is c.args.t.now c.args.at _ _ c.args.o c.count_of-n.ensures
