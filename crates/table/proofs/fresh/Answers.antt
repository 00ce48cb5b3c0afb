-- `table::fresh` meets its contract: 1 for a wrong count or length, or zeros and the count.
use mathlib.Core.Path.{◌≡◌, refl, sym, ap, ◌∙◌}
use mathlib.Core.Bool.{Bool, true, false}
use mathlib.Core.List.{List, [], ◌∷◌}
use Prim.Native.Nat.{ℕ}
use borrow.Author.Tests.{eqb-true, eqb-false}
use native.Mathlib.Omega.{arith}
use lib.ListN.{length, replicate}
use Rattle.std.specs.Prelude.{Result, Ok, Err}
use Rattle.std.proofs.lemmas.Bool.Decides.{nat_tests}
use Rattle.meaning.specs.declared.Refusal.{Refusal}
use Rattle.meaning.specs.declared.Refusal.TheVariants.{Unsound}
use Rattle.meaning.specs.Refusals.{answered}
use Rattle.meaning.specs.Table.{Form, Vectors, Columns, form_of, form_words, count_right, length_right, fresh, fresh_refusal, made_fresh, place}
use Rattle.meaning.proofs.RefusalLaws.{answered_name, unless_name}
use Rattle.meaning.proofs.TableLaws.{fresh-count_wrong, fresh-length_wrong, fresh_right}
use Rattle.table.proofs.fresh.Goals as goal
use Rattle.table.proofs.fresh.Goals.{then-not-contains-via-then-not-contains, then-not-contains-via-else-not-contains+then-not-is_long}

-- the count put over zeros, and what the test of the length says where it passes
placed : (f : Form) (n : ℕ) → place 0 (n ∷ []) (replicate (form_words f) 0) ≡ fresh f n
unfolding place fresh
placed Vectors n = refl
placed Columns n = refl

long : (t : List ℕ) (r : Bool) → r ≡ length_right t → r ≡ true → length t ≡ form_words (form_of t)
long t r is h = eqb-true _ _ (sym is ∙ h)

module _ (t : List ℕ) (n : ℕ) where
  Right : Result Unit Refusal → List ℕ → Type 0
  Right r u = (r ≡ answered (fresh_refusal t n) tt) × (u ≡ made_fresh t n)

  wrong : fresh_refusal t n ≡ 1 → Right (Err Unsound) t
  unfolding Right made_fresh
  wrong e = (sym (answered_name Unsound (fresh_refusal t n) tt e), sym (unless_name Unsound (fresh_refusal t n) (fresh (form_of t) n) t e))

  wrong_length : (r : Bool) → r ≡ length_right t → r ≡ false → Right (Err Unsound) t
  wrong_length r is h = wrong (fresh-length_wrong t n (eqb-false _ _ (sym is ∙ h)))

  made : count_right n ≡ true → (r : Bool) → r ≡ length_right t → r ≡ true → (u v : List ℕ) → u ≡ replicate (length t) 0 → v ≡ place 0 (n ∷ []) u →
      Right (Ok tt) v
  unfolding Right made_fresh
  made right r is h u v eu ev =
      let l = long t r is h in
      let e = fresh_right t n right l in
      (rw e, rw e (ev ∙ ap (place 0 (n ∷ [])) (eu ∙ ap (λ (m : ℕ). replicate m 0) l) ∙ placed (form_of t) n))

pub returns-then-not-contains : goal.returns-then-not-contains
unfolding Right
returns-then-not-contains c =
    elim c.then-not-contains.branch [
      | then-not-contains-via-then-not-contains w ↦ wrong c.args.t.now c.args.n (fresh-count_wrong c.args.t.now c.args.n (grind (arith, nat_tests)))
      | then-not-contains-via-else-not-contains+then-not-is_long w ↦
          wrong_length c.args.t.now c.args.n w.is_long.result w.is_long.ensures w.if-not-is_long.true
    ]

pub put_word-requires : goal.put_word-requires
put_word-requires c =
    let l = long c.args.t.now c.is_long.result c.is_long.ensures c.if-not-is_long.false in
    omega (arith, l, c.clear.auto)

pub returns : goal.returns
unfolding Right
returns c =
    made c.args.t.now c.args.n (grind (arith, nat_tests)) c.is_long.result c.is_long.ensures
    c.if-not-is_long.false c.clear.new.row
    c.put_word.new.t c.clear.ensures c.put_word.ensures
