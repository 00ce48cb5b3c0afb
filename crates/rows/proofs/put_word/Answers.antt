-- `rows::put_word` meets its contract: a store is a list of one word put there.
use Rattle.meaning.proofs.PlaceLaws.{set-place}
use borrow.Author.Rules.{rules}
use Rattle.rows.proofs.put_word.Goals as goal

pub returns : goal.returns
returns c = set-place c.args.t.now c.args.at c.args.v (search rules)
