-- Laws of a journal's lines: where the next LF stands, the line before it, what the reader finds there, and the steps from there on.
use mathlib.Core.Path.{◌≡◌, refl, sym, ap}
use mathlib.Core.Bool.{Bool, true, false, not, ◌&&◌, ◌||◌}
use mathlib.Core.List.{List, [], ◌∷◌}
use Prim.Native.Nat.{ℕ, zero, suc, ◌+◌, ◌≤◌, ◌<◌}
use native.Mathlib.Numerals.{add-one}
use native.Mathlib.Omega.{arith}
use lib.Dec.{ltb, eqb}
use lib.ListN.{length, get_or, take, drop, drop_of_length-le}
use lib.Seq.{drop-cons}
use borrow.Author.Tests.{lt-ltb, ne_eqb}
use Rattle.std.specs.Prelude.{Ok, Err, Some, None}
use Rattle.meaning.specs.declared.Step.{Step}
use Rattle.meaning.specs.declared.Fault.{Fault}
use Rattle.meaning.specs.Refusals.{number_of}
use Rattle.meaning.specs.declared.NextLine.TheVariants.{Begin as BeginAt, Act as ActAt}
use Rattle.meaning.specs.Journals.{Next, unless_lf, until_lf, has_lf, unended, line_at, next_in, none, broken, step∷, steps_from}

-- an LF at a place; another byte there; nothing at the end or beyond
module _ (s : List ℕ) (i : ℕ) (h : i < length s) where
  from_here : drop i s ≡ get_or s i 0 ∷ drop (i + 1) s
  from_here = rw add-one (drop-cons s i 0 h)

  pub has_here : get_or s i 0 ≡ 10 → has_lf (drop i s) ≡ true
  unfolding has_lf
  has_here e = rw (from_here, e)

  pub until_here : get_or s i 0 ≡ 10 → until_lf (drop i s) ≡ []
  unfolding until_lf
  until_here e = rw (from_here, e)

  pub has_past : (get_or s i 0 ≡ 10 → ⊥) → has_lf (drop i s) ≡ has_lf (drop (i + 1) s)
  unfolding has_lf
  has_past n = rw (from_here, ne_eqb (get_or s i 0) 10 n)

  pub until_past : (get_or s i 0 ≡ 10 → ⊥) → length (until_lf (drop i s)) ≡ length (until_lf (drop (i + 1) s)) + 1
  unfolding until_lf
  until_past n = rw (from_here, ne_eqb (get_or s i 0) 10 n) (sym (add-one (length (until_lf (drop (i + 1) s)))))

pub has-none : (s : List ℕ) (i : ℕ) → length s ≤ i → has_lf (drop i s) ≡ false
unfolding has_lf
has-none s i h = rw (drop_of_length-le s h)

-- the line is the front of what is left, and shorter than it where an LF follows
pub until_front : (l : List ℕ) → take (length (until_lf l)) l ≡ until_lf l
unfolding until_lf
until_front [] = refl
until_front (c ∷ cs) = go (eqb c 10) (until_front cs)
  where
    go : (b : Bool) → take (length (until_lf cs)) cs ≡ until_lf cs → take (length (unless_lf b c (until_lf cs))) (c ∷ cs) ≡ unless_lf b c (until_lf cs)
    go true p = refl
    go false p = ap (λ (l : List ℕ). c ∷ l) p

pub until_short : (l : List ℕ) → has_lf l ≡ true → length (until_lf l) < length l
unfolding until_lf has_lf
until_short [] e = let z : ◌≡◌ {A = ℕ} 0 1 = cc in omega arith
until_short (c ∷ cs) e = go (eqb c 10) e (until_short cs)
  where
    go : (b : Bool) → (b || has_lf cs) ≡ true → (has_lf cs ≡ true → length (until_lf cs) < length cs) → length (unless_lf b c (until_lf cs)) < length (c ∷ cs)
    go true p q = omega arith
    go false p q = let r = q p in omega arith

-- the line at a place, where an LF follows and where none does
pub line_ended : (s : List ℕ) (at : ℕ) → has_lf (drop at s) ≡ true → line_at s at ≡ until_lf (drop at s)
unfolding line_at
line_ended s at e = rw e

pub line_none : (s : List ℕ) (at : ℕ) → has_lf (drop at s) ≡ false → line_at s at ≡ []
unfolding line_at
line_none s at e = rw e

pub ended : (s : List ℕ) (at : ℕ) → has_lf (drop at s) ≡ true → unended s at ≡ false
unfolding unended
ended s at e = go (ltb at (length s))
  where
    go : (b : Bool) → (b && not (has_lf (drop at s))) ≡ false
    go true = rw e
    go false = refl

pub not_ended : (s : List ℕ) (at : ℕ) → at < length s → has_lf (drop at s) ≡ false → unended s at ≡ true
unfolding unended
not_ended s at h e = rw (lt-ltb at (length s) h, e)

-- the steps from a place on, by what stands there
module _ (k : ℕ) (s : List ℕ) (at line : ℕ) where
  pub steps_act : {x : Step} {next : ℕ} → next_in false s at line ≡ Ok (Some (ActAt x next))
      → steps_from (suc k) s at line ≡ step∷ x (steps_from k s next (line + 1))
  unfolding steps_from
  steps_act e = rw (e, steps_from)

  pub steps_begin : {n next : ℕ} → next_in false s at line ≡ Ok (Some (BeginAt n next)) → steps_from (suc k) s at line ≡ broken at line 15 0
  unfolding steps_from
  steps_begin e = rw (e, steps_from)

  pub steps_refused : {f : Fault} → next_in false s at line ≡ Err f → steps_from (suc k) s at line ≡ broken at line (number_of f.refusal) f.place
  unfolding steps_from
  steps_refused e = rw (e, steps_from)

pub steps_end : (k : ℕ) (s : List ℕ) (at line : ℕ) → next_in false s at line ≡ Ok None → steps_from k s at line ≡ none at
unfolding steps_from
steps_end zero s at line e = refl
steps_end (suc k) s at line e = rw (e, steps_from)

-- the steps are no more than their bound, and a refused line is the next after them
pub steps_few : (k : ℕ) (s : List ℕ) (at line : ℕ) → length (steps_from k s at line).steps ≤ k
unfolding steps_from
steps_few zero s at line = omega arith
steps_few (suc k) s at line = go (next_in false s at line) refl (λ next. steps_few k s next (line + 1))
  where
    go : (x : Next) → next_in false s at line ≡ x → ((next : ℕ) → length (steps_from k s next (line + 1)).steps ≤ k)
        → length (steps_from (suc k) s at line).steps ≤ suc k
    go (Ok (Some (BeginAt n next))) e few = rw (steps_begin k s at line e) (omega arith)
    go (Ok (Some (ActAt x next))) e few = let l = few next in rw (steps_act k s at line e) (omega arith)
    go (Err f) e few = rw (steps_refused k s at line e) (omega arith)
    go (Ok None) e few = rw (steps_end (suc k) s at line e) (omega arith)

pub bad_line_lem : (k : ℕ) (s : List ℕ) (at line : ℕ) → 0 < (steps_from k s at line).bad_number
    → (steps_from k s at line).bad_line ≡ line + length (steps_from k s at line).steps
unfolding steps_from
bad_line_lem zero s at line h = absurd (omega arith)
bad_line_lem (suc k) s at line h = go (next_in false s at line) refl h (λ next. bad_line_lem k s next (line + 1))
  where
    go : (x : Next) → next_in false s at line ≡ x → 0 < (steps_from (suc k) s at line).bad_number
        → ((next : ℕ) → 0 < (steps_from k s next (line + 1)).bad_number
        → (steps_from k s next (line + 1)).bad_line ≡ line + 1 + length (steps_from k s next (line + 1)).steps)
        → (steps_from (suc k) s at line).bad_line ≡ line + length (steps_from (suc k) s at line).steps
    go (Ok (Some (BeginAt n next))) e b rest = rw (steps_begin k s at line e) (omega arith)
    go (Ok (Some (ActAt x next))) e b rest =
        let d = steps_act k s at line e in
        let l = rest next (rw d at b) in
        rw d (omega arith)
    go (Err f) e b rest = rw (steps_refused k s at line e) (omega arith)
    go (Ok None) e b rest = absurd (let z : 0 < 0 = rw (steps_end (suc k) s at line e) at b in omega arith)
