-- `logs::is_newer` meets its contract: the timestamp is above the entry where the summary does not cover the record.
use lib.ListN.{get_or}
use Rattle.meaning.specs.Rows.{covers}
use Rattle.meaning.proofs.RowLaws.{ltb_not_leb}
use Rattle.records.proofs.is_newer.Goals as goal

pub returns : goal.returns
unfolding covers
returns c =
    ltb_not_leb (get_or c.args.summary.now c.args.r.origin 0) c.args.r.timestamp
