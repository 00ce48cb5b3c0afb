-- The finder's answer by the tests that led to it, and what each answer says of the line.
use mathlib.Core.Path.{◌≡◌, refl, sym, ap, ◌∙◌}
use mathlib.Core.Bool.{Bool, true, false, not, cond}
use mathlib.Core.List.{List, [], ◌∷◌}
use Prim.Native.Nat.{ℕ, ◌+◌, ◌-◌, ◌≤◌, ◌<◌}
use native.Mathlib.Omega.{arith}
use lib.Dec.{leb, ltb}
use lib.ListN.{length, take, drop, length-drop}
use Rattle.std.specs.Prelude.{Some, None, ◌||◌, eqb}
use Rattle.std.specs.List.{position, position_from}
use Rattle.std.proofs.lemmas.Iterator.Adapters.{position_from-zero}
use borrow.Author.Tests.{leb-true, leb-false, lt-ltb, le-leb, lt-leb, not-true, not-false}
use Rattle.meaning.specs.Journals.{unless_lf, until_lf, has_lf, unended, line_at, place_after}
use Rattle.meaning.proofs.JournalLaws.{has-none, until_front, until_short, line_ended, line_none, ended, not_ended}
use Rattle.meaning.proofs.RowLaws.{and_right}
use Rattle.finder.specs.declared.Found.TheVariants.{Line, Unended, Over}
use Rattle.finder.specs.Found.{found_at}

pub found_over : (s : List ℕ) (at : ℕ) → length s ≤ at → Over ≡ found_at s at
unfolding found_at
found_over s at h = rw (le-leb (length s) at h)

pub found_unended : (s : List ℕ) (at : ℕ) → at < length s → has_lf (drop at s) ≡ false → Unended ≡ found_at s at
unfolding found_at
found_unended s at h e = rw (lt-leb (length s) at h, not_ended s at h e)

pub found_line : (s : List ℕ) (at i : ℕ) → at < length s → has_lf (drop at s) ≡ true → at + length (until_lf (drop at s)) ≡ i → Line i ≡ found_at s at
unfolding found_at
found_line s at i h e p = rw (lt-leb (length s) at h, ended s at e, line_ended s at e) (ap Line (sym p))

-- the search for an LF: the place of the first, by how far off it is
is_lf_from : (i : ℕ) (xs : List ℕ) → position_from (λ c. eqb c 10) i xs ≡ cond (has_lf xs) (Some (i + length (until_lf xs))) None
unfolding has_lf until_lf
is_lf_from i [] = refl
is_lf_from i (c ∷ cs) = go (eqb c 10) (is_lf_from (i + 1) cs)
  where
    go : (b : Bool) → position_from (λ d. eqb d 10) (i + 1) cs ≡ cond (has_lf cs) (Some ((i + 1) + length (until_lf cs))) None
        → cond b (Some i) (position_from (λ d. eqb d 10) (i + 1) cs) ≡ cond (b || has_lf cs) (Some (i + length (unless_lf b c (until_lf cs)))) None
    go true h =
        let e : i ≡ i + length {A = ℕ} [] = omega arith in
        ap Some e
    go false h =
        let e : (i + 1) + length (until_lf cs) ≡ i + length (c ∷ until_lf cs) = omega arith in
        h ∙ ap (λ (n : ℕ). cond (has_lf cs) (Some n) None) e

is_lf_at : (xs : List ℕ) → position (λ c. eqb c 10) xs ≡ cond (has_lf xs) (Some (length (until_lf xs))) None
is_lf_at xs =
    let e : 0 + length (until_lf xs) ≡ length (until_lf xs) = omega arith in
    position_from-zero (λ c. eqb c 10) xs ∙ is_lf_from 0 xs ∙ ap (λ (n : ℕ). cond (has_lf xs) (Some n) None) e

pub found_some : (s xs : List ℕ) (at i : ℕ) → at < length s → xs ≡ drop at s → position (λ c. eqb c 10) xs ≡ Some i → Line (at + i) ≡ found_at s at
found_some s xs at i h d p = go (has_lf (drop at s)) refl (sym (is_lf_at (drop at s)) ∙ ap (position (λ c. eqb c 10)) (sym d) ∙ p)
  where
    go : (b : Bool) → has_lf (drop at s) ≡ b → cond b (Some (length (until_lf (drop at s)))) None ≡ Some i → Line (at + i) ≡ found_at s at
    go true e q =
        let is : length (until_lf (drop at s)) ≡ i = cc in
        found_line s at (at + i) h e (omega arith)
    go false e q = cc

pub found_none : (s xs : List ℕ) (at : ℕ) → at < length s → xs ≡ drop at s → position (λ c. eqb c 10) xs ≡ None → Unended ≡ found_at s at
found_none s xs at h d p = go (has_lf (drop at s)) refl (sym (is_lf_at (drop at s)) ∙ ap (position (λ c. eqb c 10)) (sym d) ∙ p)
  where
    go : (b : Bool) → has_lf (drop at s) ≡ b → cond b (Some (length (until_lf (drop at s)))) None ≡ None → Unended ≡ found_at s at
    go true e q = cc
    go false e q = found_unended s at h e

-- what is known of a line that was found: it lies within, and the part between is the definition's line
pub record Ended (s : List ℕ) (at end : ℕ) : Type 0 where
  pub start : at ≤ end
  pub below : end < length s
  pub part : take (end - at) (drop at s) ≡ line_at s at
  pub after : end + 1 ≡ place_after s at
  pub left : leb (length s) at ≡ false
  pub has : unended s at ≡ false

-- the part from a place to that place is empty
pub none_taken : (i : ℕ) (s : List ℕ) → take (i - i) (drop i s) ≡ []
none_taken i s =
    let none : i - i ≡ 0 = omega arith in
    rw none

pub never : {A : Type 0} → ◌≡◌ {A = ℕ} 0 1 → A
never e = absurd (omega arith)

pub ended-has : (s : List ℕ) (at : ℕ) → at < length s → unended s at ≡ false → has_lf (drop at s) ≡ true
unfolding unended
ended-has s at h e = not-false (has_lf (drop at s)) (cc (lt-ltb at (length s) h))

pub ended_facts : (s : List ℕ) (at end : ℕ) → leb (length s) at ≡ false → unended s at ≡ false → at + length (line_at s at) ≡ end → Ended s at end
unfolding place_after
ended_facts s at end l u e =
    let h : at < length s = leb-false (length s) at l in
    let has : has_lf (drop at s) ≡ true = ended-has s at h u in
    let is = line_ended s at has in
    let short : length (until_lf (drop at s)) < length (drop at s) = until_short (drop at s) has in
    let d = length-drop at s in
    let len : length (line_at s at) ≡ length (until_lf (drop at s)) = ap length is in
    let k : end - at ≡ length (until_lf (drop at s)) = omega arith in
    record {
      start = omega arith;
      below = omega arith;
      part = ap (λ (m : ℕ). take m (drop at s)) k ∙ until_front (drop at s) ∙ sym is;
      after = omega arith;
      left = l;
      has = u;
    }

pub line_facts : (s : List ℕ) (at end : ℕ) → found_at s at ≡ Line end → Ended s at end
unfolding found_at
line_facts s at end e = go (leb (length s) at) (unended s at) refl refl e
  where
    go : (a b : Bool) → leb (length s) at ≡ a → unended s at ≡ b → cond a Over (cond b Unended (Line (at + length (line_at s at)))) ≡ Line end → Ended s at end
    go true b p q r = never (cc)
    go false true p q r = never (cc)
    go false false p q r = ended_facts s at end p q (cc)

pub unended_facts : (s : List ℕ) (at : ℕ) → found_at s at ≡ Unended → (leb (length s) at ≡ false) × (unended s at ≡ true)
unfolding found_at
unended_facts s at e = go (leb (length s) at) (unended s at) refl refl e
  where
    go : (a b : Bool) → leb (length s) at ≡ a → unended s at ≡ b → cond a Over (cond b Unended (Line (at + length (line_at s at)))) ≡ Unended
        → (leb (length s) at ≡ false) × (unended s at ≡ true)
    go true b p q r = never (cc)
    go false true p q r = (p, q)
    go false false p q r = never (cc)

pub over_facts : (s : List ℕ) (at : ℕ) → found_at s at ≡ Over → leb (length s) at ≡ true
unfolding found_at
over_facts s at e = go (leb (length s) at) (unended s at) refl refl e
  where
    go : (a b : Bool) → leb (length s) at ≡ a → unended s at ≡ b → cond a Over (cond b Unended (Line (at + length (line_at s at)))) ≡ Over
        → leb (length s) at ≡ true
    go true b p q r = p
    go false true p q r = never (cc)
    go false false p q r = never (cc)

-- no line where none ends
pub unended_line : (s : List ℕ) (at : ℕ) → found_at s at ≡ Unended → [] ≡ line_at s at
unfolding unended
unended_line s at e =
    let none = and_right (ltb at (length s)) (not (has_lf (drop at s))) (unended_facts s at e).1 in
    sym (line_none s at (not-true (has_lf (drop at s)) none))

pub over_line : (s : List ℕ) (at : ℕ) → found_at s at ≡ Over → [] ≡ line_at s at
over_line s at e = sym (line_none s at (has-none s at (leb-true (length s) at (over_facts s at e))))
