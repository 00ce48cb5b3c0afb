-- What the reader finds, by what the finder found, and the line before the place that it goes on to.
use mathlib.Core.Path.{◌≡◌, refl, sym, ap, ◌∙◌}
use mathlib.Core.Bool.{Bool, true, false, ◌||◌, cond}
use mathlib.Core.List.{List, [], ◌∷◌}
use Prim.Native.Nat.{ℕ, ◌+◌, ◌-◌, ◌≤◌, ◌<◌}
use native.Mathlib.Omega.{arith}
use lib.Dec.{leb, eqb}
use lib.ListN.{length, get_or, take, drop, length-drop}
use lib.Seq.{get_or-drop}
use borrow.Author.Tests.{leb-false, eqb-true, eq-eqb}
use Rattle.meaning.specs.declared.Step.{Step}
use Rattle.std.specs.Prelude.{Ok, Err, Some, None}
use Rattle.meaning.specs.declared.Fault.{Fault}
use Rattle.meaning.specs.declared.Refusal.TheVariants.{LineUnended}
use Rattle.meaning.specs.declared.Said.TheVariants.{Begin, Act}
use Rattle.meaning.specs.declared.NextLine.{NextLine}
use Rattle.meaning.specs.declared.NextLine.TheVariants.{Begin as BeginAt, Act as ActAt}
use Rattle.meaning.specs.Refusals.{refusal_of, fault}
use Rattle.meaning.specs.Frames.{Line as Reads, read_line}
use Rattle.meaning.specs.Journals.{Next, position, unless_lf, until_lf, has_lf, unended, line_at, place_after, in_turn, next_in}
use Rattle.meaning.proofs.JournalLaws.{line_ended}
use Rattle.finder.specs.declared.Found.TheVariants.{Line, Unended, Over}
use Rattle.finder.specs.Found.{found_at}
use Rattle.finder.proofs.Finding.{Ended, never, ended-has, ended_facts, line_facts, unended_facts, over_facts}

-- what the reader finds, by what the finder found
pub next_over : (first : Bool) (s : List ℕ) (at line : ℕ) → found_at s at ≡ Over → Ok None ≡ next_in first s at line
unfolding next_in
next_over first s at line e = rw (over_facts s at e)

pub next_unended : (first : Bool) (s : List ℕ) (at line : ℕ) → found_at s at ≡ Unended
    → Err (record { refusal = LineUnended; place = length s - at }) ≡ next_in first s at line
unfolding next_in refusal_of
next_unended first s at line e =
    rw ((unended_facts s at e).0, (unended_facts s at e).1) (ap (λ (p : ℕ). Err (record { refusal = LineUnended; place = p })) (sym (length-drop at s)))

pub next_line : (first : Bool) (s : List ℕ) (at end line : ℕ) → found_at s at ≡ Line end
    → in_turn first (end + 1) (read_line line (take (end - at) (drop at s))) ≡ next_in first s at line
unfolding next_in
next_line first s at end line e =
    let x = line_facts s at end e in
    rw (x.left, x.has, x.part, x.after)

-- a refused line stands before the journal's end, and only the end is the end
turn_goes : (first : Bool) (k : ℕ) (l : Reads) → in_turn first k l ≡ Ok None → ◌≡◌ {A = ℕ} 0 1
turn_goes true k (Ok (Begin n)) e = cc
turn_goes true k (Ok (Act x)) e = cc
turn_goes true k (Err f) e = cc
turn_goes false k (Ok (Begin n)) e = cc
turn_goes false k (Ok (Act x)) e = cc
turn_goes false k (Err f) e = cc

pub refused_inside : (first : Bool) (s : List ℕ) (at line : ℕ) {f : Fault} → next_in first s at line ≡ Err f → leb (length s) at ≡ false
unfolding next_in
refused_inside first s at line {f} e = go (leb (length s) at) refl e
  where
    go : (a : Bool) → leb (length s) at ≡ a
        → cond a (Ok None) (cond (unended s at) (Err (fault 14 (length (drop at s)))) (in_turn first (place_after s at) (read_line line (line_at s at))))
        ≡ Err f
        → leb (length s) at ≡ false
    go true q r = never (cc)
    go false q r = q

pub end_over : (first : Bool) (s : List ℕ) (at line : ℕ) → next_in first s at line ≡ Ok None → leb (length s) at ≡ true
unfolding next_in
end_over first s at line e = go (leb (length s) at) (unended s at) refl e
  where
    go : (a b : Bool) → leb (length s) at ≡ a
        → cond a (Ok None) (cond b (Err (fault 14 (length (drop at s)))) (in_turn first (place_after s at) (read_line line (line_at s at)))) ≡ Ok None
        → leb (length s) at ≡ true
    go true b p r = p
    go false true p r = never (cc)
    go false false p r = never (turn_goes first (place_after s at) (read_line line (line_at s at)) r)

-- a refused line is refused in any turn
pub turn_refused : (first : Bool) (k : ℕ) (f : Fault) → Err f ≡ in_turn first k (Err f)
turn_refused true k f = refl
turn_refused false k f = refl

-- the reader goes on to the place after the line, if it does
abbrev pub on_to : ℕ → Next → Bool
on_to k (Ok (Some (BeginAt n next))) = eqb next k
on_to k (Ok (Some (ActAt x next))) = eqb next k
on_to k (Ok None) = false
on_to k (Err f) = false

turn_on : (first : Bool) (k to : ℕ) (l : Reads) → on_to to (in_turn first k l) ≡ true → k ≡ to
turn_on true k to (Ok (Begin n)) e = eqb-true k to e
turn_on true k to (Ok (Act x)) e = never (cc)
turn_on true k to (Err f) e = never (cc)
turn_on false k to (Ok (Begin n)) e = never (cc)
turn_on false k to (Ok (Act x)) e = eqb-true k to e
turn_on false k to (Err f) e = never (cc)

-- the line before the place that the reader goes on to, and the LF that ends it
pub record Passed (s : List ℕ) (at next : ℕ) : Type 0 where
  pub start : at < next
  pub within : next ≤ length s
  pub part : take (next - 1 - at) (drop at s) ≡ line_at s at
  pub left : leb (length s) at ≡ false
  pub lf : get_or s (next - 1) 0 ≡ 10

until_lf_lem : (l : List ℕ) → has_lf l ≡ true → get_or l (length (until_lf l)) 0 ≡ 10
unfolding until_lf has_lf
until_lf_lem [] e = never (cc)
until_lf_lem (c ∷ cs) e = go (eqb c 10) refl e (until_lf_lem cs)
  where
    go : (b : Bool) → eqb c 10 ≡ b → (b || has_lf cs) ≡ true → (has_lf cs ≡ true → get_or cs (length (until_lf cs)) 0 ≡ 10)
        → get_or (c ∷ cs) (length (unless_lf b c (until_lf cs))) 0 ≡ 10
    go true p q r = eqb-true c 10 p
    go false p q r = r q

-- the byte at the end of a line is its LF
ended_lf : (s : List ℕ) (at end : ℕ) → has_lf (drop at s) ≡ true → at + length (until_lf (drop at s)) ≡ end → get_or s end 0 ≡ 10
ended_lf s at end h e = ap (λ (i : ℕ). get_or s i 0) (sym e) ∙ sym (get_or-drop at s (length (until_lf (drop at s))) 0) ∙ until_lf_lem (drop at s) h

passed : (first : Bool) (s : List ℕ) (at line next : ℕ) (x : Next) → next_in first s at line ≡ x → on_to next x ≡ true → Passed s at next
unfolding next_in place_after
passed first s at line next x e on = go (leb (length s) at) (unended s at) refl refl e
  where
    go : (a b : Bool) → leb (length s) at ≡ a → unended s at ≡ b
        → cond a (Ok None) (cond b (Err (fault 14 (length (drop at s)))) (in_turn first (place_after s at) (read_line line (line_at s at)))) ≡ x
        → Passed s at next
    go true b p q r = never (cc)
    go false true p q r = never (cc)
    go false false p q r =
        let k : place_after s at ≡ next = turn_on first (place_after s at) next (read_line line (line_at s at)) (ap (on_to next) r ∙ on) in
        let f : Ended s at (next - 1) = ended_facts s at (next - 1) p q (omega arith) in
        let has : has_lf (drop at s) ≡ true = ended-has s at (leb-false (length s) at p) q in
        let len : length (line_at s at) ≡ length (until_lf (drop at s)) = ap length (line_ended s at has) in
        record { start = omega arith; within = omega arith; part = f.part; left = p; lf = ended_lf s at (next - 1) has (omega arith) }

pub begun : (first : Bool) (s : List ℕ) (at line : ℕ) {n next : ℕ} → next_in first s at line ≡ Ok (Some (BeginAt n next)) → Passed s at next
begun first s at line {n} {next} e = passed first s at line next (Ok (Some (BeginAt n next))) e (eq-eqb next next refl)

pub acted : (first : Bool) (s : List ℕ) (at line : ℕ) {x : Step} {next : ℕ} → next_in first s at line ≡ Ok (Some (ActAt x next)) → Passed s at next
acted first s at line {x} {next} e = passed first s at line next (Ok (Some (ActAt x next))) e (eq-eqb next next refl)

-- the line there, whichever it is
pub went_on : (first : Bool) (s : List ℕ) (at line : ℕ) (x : NextLine) → next_in first s at line ≡ Ok (Some x) → Passed s at (position 0 (Ok (Some x)))
went_on first s at line (BeginAt n next) e = begun first s at line e
went_on first s at line (ActAt x next) e = acted first s at line e
