-- `pairs::Pair::of`: the two words of the record.
use mathlib.Core.Path.{◌≡◌}
use Prim.Native.Nat.{ℕ, ◌+◌, ◌-◌, ◌*◌, ◌<◌}
use mathlib.Core.List.{List}
use native.Mathlib.Omega.{arith}
use lib.ListN.{get_or}
use Rattle.meaning.specs.Rows.{record_at}
use Rattle.meaning.specs.Verdicts.{pair_of}
use Rattle.pairs.specs.Chains.{a_pair}
use Rattle.pairs.proofs.Pair.of.Goals as goal

pair_is : (w : List ℕ) (k : ℕ) → 0 < k → a_pair (get_or w (4 * k - 4) 0) (get_or w (4 * k - 2) 0) ≡ pair_of (record_at w (k - 1))
unfolding record_at
pair_is w k some =
    let eo : 4 * k - 4 ≡ 4 * (k - 1) = omega arith in
    let eb : 4 * k - 2 ≡ 4 * (k - 1) + 2 = omega arith in
    λ i. record { origin = get_or w (eo i) 0; block = get_or w (eb i) 0 }

pub returns : goal.returns
returns c = pair_is c.args.words.now c.args.number c.requires.0
