-- `soundness::logs_sound`: a test at each number of a range is the test at every number below its end.
use Rattle.std.proofs.Common.{◌∙◌, refl, rules, tests, arith}
use Rattle.std.proofs.lemmas.Iterator.{YieldsList-from_range}
use Rattle.std.proofs.lemmas.Iterator.Search.{all_from_yields_List}
use Rattle.meaning.specs.Table.{log_sound}
use Rattle.soundness.proofs.ScanLaws.{every-all}
use Rattle.soundness.proofs.logs_sound.Goals as goal

pub returns : goal.returns
returns c =
    let n = c.args.n in
    all_from_yields_List (log_sound c.args.t.now) _ _ c.all.result c.all.ensures.ran (YieldsList-from_range 0 n n refl (omega arith))
    (λ x b q k. search (rules, tests)) ∙
    every-all n (log_sound c.args.t.now)
