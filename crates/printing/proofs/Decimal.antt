-- A number printed in decimal is read back: no two numbers below 10^20 are printed alike.
use mathlib.Core.Path.{◌≡◌, refl, sym, ap, ◌∙◌}
use mathlib.Core.List.{List, [], ◌∷◌, ◌++◌}
use Prim.Native.Nat.{ℕ, zero, suc, ◌+◌, ◌-◌, ◌*◌, ◌/◌, ◌%◌, ◌^◌, ◌<◌}
use native.Mathlib.Nat.{pow-suc}
use native.Mathlib.Omega.{arith}
use native.Mathlib.Decide.{dec_lt}
use borrow.Author.Tests.{lt-ltb, le-ltb}
use Rattle.meaning.specs.Journals.{decimal_in, decimal}
use Rattle.printing.specs.Wrote.{value_from}

value_more : (v : ℕ) (cs : List ℕ) (c : ℕ) → value_from v (cs ++ (c ∷ [])) ≡ 10 * value_from v cs + (c - 48)
unfolding value_from
value_more v [] c = refl
value_more v (x ∷ cs) c = value_more (10 * v + (x - 48)) cs c

-- of one digit more
read_back_more : (k v : ℕ) → v < 10 ^ suc k → (v / 10 < 10 ^ k → value_from 0 (decimal_in k (v / 10)) ≡ v / 10) → Dec (v < 10)
    → value_from 0 (decimal_in (suc k) v) ≡ v
unfolding value_from decimal_in
read_back_more k v h shorter (yes l) = rw (lt-ltb v 10 l) (omega arith)
read_back_more k v h shorter (no l) =
    let up : 10 ^ suc k ≡ 10 ^ k * 10 = pow-suc 10 k in
    let before = shorter (omega arith) in
    rw (le-ltb v 10 (omega arith)) (value_more 0 (decimal_in k (v / 10)) (48 + v % 10) ∙ omega arith)

read_back_in : (k v : ℕ) → v < 10 ^ k → value_from 0 (decimal_in k v) ≡ v
unfolding value_from decimal_in
read_back_in zero v h = omega arith
read_back_in (suc k) v h = read_back_more k v h (read_back_in k (v / 10)) (dec_lt v 10)

pub read_back : (v : ℕ) → v < 10 ^ 20 → value_from 0 (decimal v) ≡ v
unfolding decimal
read_back v h = read_back_in 20 v h

pub printed_apart : (v w : ℕ) → v < 10 ^ 20 → w < 10 ^ 20 → decimal v ≡ decimal w → v ≡ w
printed_apart v w h h' e = sym (read_back v h) ∙ ap (value_from 0) e ∙ read_back w h'
