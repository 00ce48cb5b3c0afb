-- `purges::purge` meets its contract: refused by its one test, or the purged node put.
use Rattle.meaning.proofs.TableLaws.{sound_facts}
use Rattle.purges.proofs.PurgeLaws.{absent, done}
use Rattle.purges.proofs.purge.Goals as goal

pub returns-then-n-p-clause-done : goal.returns-then-n-p-clause-done
returns-then-n-p-clause-done c =
    let t = c.args.t.now.words.now in
    absent t (sound_facts t c.args.t.now.is_sound) c.args.node c.nodes-n.result c.nodes-n.ensures.0 c.if-n-p.true

pub returns-clause-done : goal.returns-clause-done
returns-clause-done c =
    let t = c.args.t.now.words.now in
    let cut = c.cut_of-cut.ensures.done in
    done t (sound_facts t c.args.t.now.is_sound) c.args.node cut.dropped c.nodes-n.result c.held-held.result
    c.cut_of-cut.result.at c.nodes-n.ensures.0 c.if-n-p.false c.held-held.ensures.0 cut.lags
