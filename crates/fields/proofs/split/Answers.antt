-- `split` meets its contract: four bytes set are the word's.
use Rattle.fields.proofs.FieldLaws.{split_word}
use Rattle.fields.proofs.split.Goals as goal

pub returns : goal.returns
returns c = split_word c.args.b.now c.to_be_bytes.result c.args.at c.args.x c.requires c.to_be_bytes.ensures
