-- A verdict byte has the class in whose range it lies, and no other. Document 01, "Verdict count".
use mathlib.Core.Path.{◌≡◌, refl}
use mathlib.Core.Bool.{Bool, true, false, cond}
use Prim.Native.Nat.{ℕ, ◌≤◌}
use native.Mathlib.Omega.{arith}
use lib.Dec.{leb}
use lib.ListN.{get_or}
use borrow.Author.Tests.{leb-true, leb-false, le-leb, lt-leb}
use Rattle.meaning.specs.declared.Class.{Class}
use Rattle.meaning.specs.declared.Class.TheVariants.{NotRead, PageCache, PlatterGood, PlatterBad, Repaired, Reserved}
use Rattle.meaning.specs.Verdicts.{class_of, class_range}

-- the verdict lies in the class's range
abbrev pub InRange : Class → ℕ → Type 0
InRange x v = (get_or (class_range x) 0 0 ≤ v) × (v ≤ get_or (class_range x) 1 0)

pub class_range_lem : (v : ℕ) → v ≤ 0xff → InRange (class_of v) v
unfolding class_of
class_range_lem v h = go (leb v 0x0f) (leb v 0x1f) (leb v 0x2f) (leb v 0x3f) (leb v 0x4f) refl refl refl refl refl
  where
    go : (a b c d e : Bool) → leb v 0x0f ≡ a → leb v 0x1f ≡ b → leb v 0x2f ≡ c → leb v 0x3f ≡ d → leb v 0x4f ≡ e
        → InRange (cond a NotRead (cond b PageCache (cond c PlatterGood (cond d PlatterBad (cond e Repaired Reserved))))) v
    go true b c d e p q r s t = (omega arith, leb-true v 0x0f p)
    go false true c d e p q r s t = (omega (arith, leb-false v 0x0f p), leb-true v 0x1f q)
    go false false true d e p q r s t = (omega (arith, leb-false v 0x1f q), leb-true v 0x2f r)
    go false false false true e p q r s t = (omega (arith, leb-false v 0x2f r), leb-true v 0x3f s)
    go false false false false true p q r s t = (omega (arith, leb-false v 0x3f s), leb-true v 0x4f t)
    go false false false false false p q r s t = (omega (arith, leb-false v 0x4f t), h)

pub range_class : (v : ℕ) (x : Class) → InRange x v → class_of v ≡ x
unfolding class_of
range_class v NotRead h = rw (le-leb v 0x0f h.1)
range_class v PageCache h = rw (lt-leb v 0x0f (omega arith), le-leb v 0x1f h.1)
range_class v PlatterGood h = rw (lt-leb v 0x0f (omega arith), lt-leb v 0x1f (omega arith), le-leb v 0x2f h.1)
range_class v PlatterBad h = rw (lt-leb v 0x0f (omega arith), lt-leb v 0x1f (omega arith), lt-leb v 0x2f (omega arith), le-leb v 0x3f h.1)
range_class v Repaired h =
    rw (lt-leb v 0x0f (omega arith), lt-leb v 0x1f (omega arith), lt-leb v 0x2f (omega arith), lt-leb v 0x3f (omega arith), le-leb v 0x4f h.1)
range_class v Reserved h =
    rw (lt-leb v 0x0f (omega arith), lt-leb v 0x1f (omega arith), lt-leb v 0x2f (omega arith), lt-leb v 0x3f (omega arith), lt-leb v 0x4f (omega arith))
