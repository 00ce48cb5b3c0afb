-- Demand 3 of journals, which are replayed on vectors: the table that a journal's replay leaves is the table of a run, so no finding of a journal is lost.
use mathlib.Core.Path.{◌≡◌, refl, sym, ap, ◌∙◌}
use mathlib.Core.Bool.{Bool, true, false, not, ◌&&◌, cond}
use mathlib.Core.Logic.{◌⊎◌, inl, inr}
use mathlib.Core.List.{List}
use Prim.Native.Nat.{ℕ, zero, suc, ◌<◌}
use native.Mathlib.Omega.{arith}
use lib.ListN.{length, get_or}
use lib.Dec.{leb, eqb}
use borrow.Author.Tests.{leb-true, not-false}
use Rattle.std.specs.Prelude.{Ok, Err, Some, None}
use Rattle.meaning.specs.Refusals.{fault, answered_at}
use Rattle.meaning.specs.declared.Said.{Said}
use Rattle.meaning.specs.declared.Said.TheVariants.{Begin, Act}
use Rattle.meaning.specs.declared.NextLine.TheVariants.{Begin as BeginAt, Act as ActAt}
use Rattle.meaning.specs.Table.{Vectors, nodes_most, count_right, fresh}
use Rattle.meaning.specs.Frames.{bytes_of, line_kind, line_fields, line_refusal, line_place, meant, Line, read_line}
use Rattle.meaning.specs.Journals.{Next, unended, line_at, place_after, in_turn, next_in, next_at, journal, started_from, after_all, replay_after}
use Rattle.meaning.specs.Account.{events, run}
use Rattle.meaning.proofs.FrameLaws.{good}
use Rattle.meaning.proofs.RowLaws.{and_left, and_right}
use Rattle.meaning.proofs.AccountCorollaries.{run_table}
use Rattle.meaning.proofs.Demand3.{NothingLost, demand3}

-- a start that is not refused has 2 to 16 nodes
abbrev line_right : Line → Bool
line_right (Ok (Begin n)) = count_right n
line_right (Ok (Act s)) = true
line_right (Err f) = true

meant_right : (line : ℕ) (bs : List ℕ) (b : Bool) → b && not (count_right (get_or (line_fields bs) 0 0)) ≡ false → line_right (Ok (meant line bs b)) ≡ true
meant_right line bs true h = not-false (count_right (get_or (line_fields bs) 0 0)) h
meant_right line bs false h = refl

answered_right : (k p : ℕ) (x : Said) → (k ≡ 0 → line_right (Ok x) ≡ true) → line_right (answered_at k p x) ≡ true
answered_right zero p x h = h refl
answered_right (suc k) p x h = refl

line_right_lem : (line : ℕ) (l : List ℕ) → line_right (read_line line l) ≡ true
unfolding read_line
line_right_lem line l =
    let bs = bytes_of l in
    let start = eqb (line_kind bs) 0 in
    answered_right (line_refusal l) (line_place l) (meant line bs start) (λ h. meant_right line bs start (good l h).start)

abbrev next_right : Next → Bool
next_right (Ok (Some (BeginAt n next))) = count_right n
next_right (Ok (Some (ActAt s next))) = true
next_right (Err f) = true
next_right (Ok None) = true

in_turn_right : (first : Bool) (next : ℕ) (x : Line) → line_right x ≡ true → next_right (in_turn first next x) ≡ true
in_turn_right true next (Ok (Begin n)) h = h
in_turn_right true next (Ok (Act s)) h = refl
in_turn_right true next (Err f) h = refl
in_turn_right false next (Ok (Begin n)) h = refl
in_turn_right false next (Ok (Act s)) h = refl
in_turn_right false next (Err f) h = refl

cond_right : (b : Bool) (x y : Next) → next_right x ≡ true → next_right y ≡ true → next_right (cond b x y) ≡ true
cond_right true x y p q = p
cond_right false x y p q = q

next_right_lem : (first : Bool) (s : List ℕ) (at line : ℕ) → next_right (next_in first s at line) ≡ true
unfolding next_in
next_right_lem first s at line =
    cond_right (leb (length s) at) (Ok None) _ refl
    (cond_right (unended s at) (Err (fault 14 _)) _ refl
    (in_turn_right first (place_after s at) (read_line line (line_at s at)) (line_right_lem line (line_at s at))))

pub begin_right : (first : Bool) (s : List ℕ) (at line : ℕ) {n next : ℕ} → next_in first s at line ≡ Ok (Some (BeginAt n next)) → count_right n ≡ true
begin_right first s at line e = sym (ap next_right e) ∙ next_right_lem first s at line

-- a journal has no start, or one of 2 to 16 nodes
journal_right_at : (s : List ℕ) (x : Next) → next_at s 0 1 ≡ x → next_right x ≡ true → ((journal s).n ≡ 0) ⊎ (count_right (journal s).n ≡ true)
unfolding journal
journal_right_at s (Ok (Some (BeginAt n next))) e h = rw (e, journal) (inr h)
journal_right_at s (Ok (Some (ActAt x next))) e h = rw (e, journal) (inl refl)
journal_right_at s (Err f) e h = rw (e, journal) (inl refl)
journal_right_at s (Ok None) e h = rw (e, journal) (inl refl)

pub journal_right : (s : List ℕ) → ((journal s).n ≡ 0) ⊎ (count_right (journal s).n ≡ true)
journal_right s = journal_right_at s (next_at s 0 1) refl (next_right_lem true s 0 1)

pub started : (n : ℕ) (t : List ℕ) → 0 < n → started_from n t ≡ fresh Vectors n
started zero t h = absurd (omega arith)
started (suc n) t h = refl

-- DEMAND 3 of journals: whatever words were lent and whatever the journal holds, the table after its replay is that of the run of its steps, up to
-- the end or the first refused line, and at each of its nodes nothing is lost.
pub journal_demand3 : (t s : List ℕ) (p : ℕ) → p < (journal s).n →
    (replay_after t s ≡ (run Vectors (journal s).n (events (journal s).rest.steps)).table) ×
    NothingLost (journal s).n (run Vectors (journal s).n (events (journal s).rest.steps)) p
unfolding replay_after
journal_demand3 t s p h = (
  ap (λ (u : List ℕ). after_all u (journal s).rest.steps) (started (journal s).n t (omega arith)) ∙
      sym (run_table Vectors (journal s).n (journal s).rest.steps),
  within (journal_right s),
)
  where
    within : ((journal s).n ≡ 0) ⊎ (count_right (journal s).n ≡ true) →
        NothingLost (journal s).n (run Vectors (journal s).n (events (journal s).rest.steps)) p
    within (inl e) = absurd (omega arith)
    within (inr c) =
        demand3 Vectors (journal s).n (leb-true 2 (journal s).n (and_left (leb 2 (journal s).n) (leb (journal s).n nodes_most) c))
        (leb-true (journal s).n nodes_most (and_right (leb 2 (journal s).n) (leb (journal s).n nodes_most) c)) (events (journal s).rest.steps) p h
