-- `arrivals::newer_count` meets its contract: a sound log's records have an entry in the summary, and each is asked as the rule says.
use Rattle.std.proofs.Common.{rules, not, length, ◌*◌, ◌<◌, take, arith, ap, ◌∙◌}
use Rattle.meaning.specs.Rows.{covers, newer, record_at}
use Rattle.meaning.specs.Table.{record_sound}
use Rattle.meaning.proofs.RowLaws.{all_row}
use Rattle.meaning.proofs.TableLaws.{origin_below}
use Rattle.records.proofs.FrontLaws.{front_rows, front-record, front_records}
use Rattle.arrivals.proofs.newer_count.Goals as goal

pub count_of-requires : goal.count_of-requires
count_of-requires c = λ i h.
    let n = length c.args.summary.now in
    let w = c.args.log.now in
    let k = c.args.held in
    let here : i < k = omega (arith, front_rows k w c.requires.0) in
    let below : (record_at (take (4 * k) w) i).origin < n =
    rw (front-record k w i here) (origin_below n (record_at w i) (all_row (record_sound n) k w c.requires.1 i here))
    in
    search rules

pub returns : goal.returns
unfolding newer
returns c =
    let summary = c.args.summary.now in
    c.count_of.ensures (λ r. not (covers summary r)) (λ i b h e. search rules) ∙
    ap (λ rs. length (newer summary rs)) (front_records c.args.held c.args.log.now c.requires.0)
