-- Columns raised twice by the same ones are raised once: "the greater starting value" of b's partner is the same, whether a has taken b's already or not.
use mathlib.Core.Path.{◌≡◌, refl, sym, ap, ap₂, ◌∙◌}
use mathlib.Core.Bool.{Bool, true, false}
use mathlib.Core.List.{List, [], ◌∷◌, ◌++◌}
use Prim.Native.Nat.{ℕ, zero, suc, ◌<◌, max}
use native.Mathlib.Omega.{arith}
use lib.ListN.{length, get_or, set}
use lib.Seq.{set-set}
use Rattle.meaning.specs.declared.Record.{Record}
use Rattle.meaning.specs.Rows.{raise, raise_each, newer}
use Rattle.meaning.specs.Table.{Node}
use Rattle.meaning.specs.Node.{merged, learnt, finished, ended}
use Rattle.meaning.proofs.ColumnLaws.{set_columns_own}

raise_again : (c d : List ℕ) → raise d (raise c d) ≡ raise d c
unfolding raise
raise_again c [] = refl
raise_again [] (y ∷ ys) = refl
raise_again (x ∷ xs) (y ∷ ys) =
    let e : max y (max x y) ≡ max y x = omega arith in
    ap₂ (λ (z : ℕ) (zs : List ℕ). z ∷ zs) e (raise_again xs ys)

each_again : (cs ds : List (List ℕ)) → raise_each ds (raise_each cs ds) ≡ raise_each ds cs
unfolding raise_each
each_again cs [] = refl
each_again [] (d ∷ ds) = refl
each_again (c ∷ cs) (d ∷ ds) = ap₂ (λ (z : List ℕ) (zs : List (List ℕ)). z ∷ zs) (raise_again c d) (each_again cs ds)

-- with one of them put back as it was
set_again :
    (cs ds : List (List ℕ)) (p : ℕ) (s : List ℕ) → (p < length cs → get_or cs p [] ≡ s) → raise_each ds (set (raise_each cs ds) p s) ≡ raise_each ds cs
unfolding raise_each
set_again cs [] p s own = refl
set_again [] (d ∷ ds) p s own = refl
set_again (c ∷ cs) (d ∷ ds) zero s own =
    ap₂ (λ (z : List ℕ) (zs : List (List ℕ)). z ∷ zs) (ap (raise d) (sym (own (omega arith)))) (each_again cs ds)
set_again (c ∷ cs) (d ∷ ds) (suc p) s own =
    ap₂ (λ (z : List ℕ) (zs : List (List ℕ)). z ∷ zs) (raise_again c d) (set_again cs ds p s (λ h. own (omega arith)))

-- The columns that side p of a session left, its own put back as it began: its partner takes from them what it takes from those that p began with
pub left_again :
    (g : Bool) (p : ℕ) (s k : List ℕ) (cs : List (List ℕ)) (l : List Record) (y : Node) →
    raise_each y.columns (set (ended g p (record { summary = s; acks = k; columns = set cs p s; log = l }) y).columns p s) ≡
    raise_each y.columns (set cs p s)
unfolding finished
left_again true p s k cs l y =
    let x : Node = record { summary = s; acks = k; columns = set cs p s; log = l } in
    ap (raise_each y.columns) (set-set (merged x y) p (learnt p x y) s) ∙ set_again (set cs p s) y.columns p s (set_columns_own cs p s)
left_again false p s k cs l y = ap (raise_each y.columns) (set-set cs p s s)

-- A side asks of its partner's columns only what they raise its own to
pub ended_again :
    (g : Bool) (q : ℕ) (y : Node) (s k : List ℕ) (cs ds : List (List ℕ)) (l : List Record) →
    raise_each y.columns cs ≡ raise_each y.columns ds →
    ended g q y (record { summary = s; acks = k; columns = cs; log = l }) ≡ ended g q y (record { summary = s; acks = k; columns = ds; log = l })
unfolding finished learnt
ended_again true q y s k cs ds l e =
    ap
    (λ (m : List (List ℕ)).
    record {
      summary = raise (get_or m q y.summary) s;
      acks = raise y.acks k;
      columns = set m q (raise (get_or m q y.summary) s);
      log = y.log ++ newer y.summary l;
    })
    e
ended_again false q y s k cs ds l e = refl
