-- Laws of the values that C is told of a writer's answer and of a step's reply.
use mathlib.Core.Path.{◌≡◌, refl, sym, ◌∙◌, ap, ap₂}
use mathlib.Core.List.{List, [], ◌∷◌, ◌++◌}
use Prim.Native.Nat.{ℕ, ◌≤◌}
use lib.ListN.{get_or, take}
use Rattle.std.specs.Prelude.{Ok, Err, Some}
use Rattle.meaning.specs.declared.Fault.{Fault}
use Rattle.meaning.specs.declared.Progress.{Progress}
use Rattle.meaning.specs.declared.Report.{Report}
use Rattle.meaning.specs.Refusals.{fault_values}
use Rattle.meaning.specs.declared.Report.TheVariants.{Written, Carried, Purged, Delivered}
use Rattle.meaning.specs.Frames.{Framed, framed_values}
use Rattle.meaning.specs.Steps.{Reply, reply_values}
use Rattle.meaning.specs.Lines.{Answer, answer_values, progress_values}

-- a writer's answer, handed on as a number and a length
pub short : (a b : Framed) → a ≡ b → get_or (framed_values b) 1 0 ≤ 27 → get_or (framed_values a) 1 0 ≤ 27
short a b e p = rw e p

-- the length of an answer that is one
pub length_case : (a : Framed) (k : ℕ) → a ≡ Ok k → get_or (framed_values a) 1 0 ≤ 27 → k ≤ 27
length_case a k e p = rw e at p

-- a reply's values are three, and read one by one
pub each : (x : Reply) → (get_or (reply_values x) 0 0 ∷ get_or (reply_values x) 1 0 ∷ get_or (reply_values x) 2 0 ∷ []) ≡ reply_values x
each (Ok Written) = refl
each (Ok (Carried a b)) = refl
each (Ok (Purged k q)) = refl
each (Ok (Delivered k)) = refl
each (Err k) = refl

-- the values of a reply that is another, and the first k of them
pub all_told : (x y : Reply) → x ≡ y → (a b c : ℕ) → a ≡ get_or (reply_values x) 0 0 → b ≡ get_or (reply_values x) 1 0 → c ≡ get_or (reply_values x) 2 0 →
    (a ∷ b ∷ c ∷ []) ≡ reply_values y
all_told x y e a b c p q r = rw (p, q, r, e) (each y)

pub told : (k : ℕ) (x y : Reply) → x ≡ y → (a b c : ℕ) → a ≡ get_or (reply_values x) 0 0 → b ≡ get_or (reply_values x) 1 0 → c ≡ get_or (reply_values x) 2 0 →
    take k (a ∷ b ∷ c ∷ []) ≡ take k (reply_values y)
told k x y e a b c p q r = ap (take k) (all_told x y e a b c p q r)

-- a line's answer that is another: its report's values, or what is wrong
pub line_done : (x : Report) (y : Answer) → Ok x ≡ y → (b c : ℕ) → b ≡ get_or (reply_values (Ok x)) 1 0 → c ≡ get_or (reply_values (Ok x)) 2 0 →
    (0 ∷ b ∷ c ∷ 0 ∷ []) ≡ answer_values y
line_done x y e b c p q = rw (p, q) (line_each x) ∙ ap answer_values e
  where
    line_each : (x : Report) → (0 ∷ get_or (reply_values (Ok x)) 1 0 ∷ get_or (reply_values (Ok x)) 2 0 ∷ 0 ∷ []) ≡ answer_values (Ok x)
    line_each Written = refl
    line_each (Carried a b) = refl
    line_each (Purged k q) = refl
    line_each (Delivered k) = refl

pub line_wrong : (f : Fault) (y : Answer) → Err f ≡ y → (a p : ℕ) → (a ∷ p ∷ []) ≡ fault_values (Some f) → (a ∷ 0 ∷ 0 ∷ p ∷ []) ≡ answer_values y
line_wrong f y e a p h = ap (λ (vs : List ℕ). get_or vs 0 0 ∷ 0 ∷ 0 ∷ get_or vs 1 0 ∷ []) h ∙ ap answer_values e

-- how far lines came: what is told of the fault, and what they counted
pub lines_told : (x y : Progress) → x ≡ y → (a p : ℕ) → (a ∷ p ∷ []) ≡ fault_values x.fault →
    (a ∷ x.steps ∷ x.refused ∷ x.stop ∷ p ∷ []) ≡ progress_values y
lines_told x y e a p h =
    ap (λ (vs : List ℕ). get_or vs 0 0 ∷ x.steps ∷ x.refused ∷ x.stop ∷ get_or vs 1 0 ∷ []) h ∙ ap progress_values e

-- two lists told and two contents of what was lent, each pair the same
pub both : {xs ys m us vs n : List ℕ} → xs ≡ m → ys ≡ m → us ≡ n → vs ≡ n → (xs ++ us) ≡ (ys ++ vs)
both p q r s = ap₂ ◌++◌ (p ∙ sym q) (r ∙ sym s)
