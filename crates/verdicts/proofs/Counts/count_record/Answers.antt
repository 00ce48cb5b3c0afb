-- `verdicts::Counts::count_record`: a record that is not scrubbed leaves all as it is.
use mathlib.Core.Path.{sym, ap, ◌∙◌}
use Prim.Native.Nat.{ℕ}
use Rattle.meaning.specs.Verdicts.{class_of, is_scrubbed}
use Rattle.verdicts.proofs.NoteLaws.{passed}
use Rattle.verdicts.proofs.Counts.count_record.Goals as goal

pub returns-else-scrubs : goal.returns-else-scrubs
returns-else-scrubs c =
    let n = c.requires.number_value in
    passed _ _ n.0 n.1 _ _ _ _ c.requires.noted (sym (c.scrubs.ensures ∙ ap (λ (v : ℕ). is_scrubbed (class_of v)) n.2) ∙ c.if-scrubs.false)
