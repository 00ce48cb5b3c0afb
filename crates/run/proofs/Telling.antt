-- Laws of what is printed of a run: the table that it leaves has the words to print, and where it prints any the lent words play no part.
use mathlib.Core.Path.{◌≡◌, refl, sym, ap, ◌∙◌}
use mathlib.Core.Bool.{true}
use mathlib.Core.Logic.{◌⊎◌, inl, inr}
use mathlib.Core.List.{List, [], ◌∷◌}
use Prim.Native.Nat.{ℕ, zero, suc, ◌≤◌, ◌<◌}
use native.Mathlib.Omega.{arith}
use lib.Dec.{leb}
use lib.ListN.{length}
use borrow.Author.Tests.{leb-true, le-leb, lt-leb, lt-ltb, le-ltb, eq-eqb, ne_eqb}
use Rattle.meaning.specs.declared.Step.{Step}
use Rattle.std.specs.Prelude.{Some, None, Ok, Err}
use Rattle.meaning.specs.declared.NextLine.TheVariants.{Begin as BeginAt, Act as ActAt}
use Rattle.meaning.specs.declared.Refusal.TheVariants.{JournalLong}
use Rattle.meaning.specs.declared.Stopped.TheVariants.{Unread}
use Rattle.meaning.specs.Table.{Vectors, form_words, nodes_most, count, count_right, fresh, place}
use Rattle.meaning.specs.Steps.{after}
use Rattle.meaning.specs.Journals.{Next, Outcome, Journal, next_at, journal, after_all, outcome_of, replayed, replay_after, printed, replay_text}
use Rattle.meaning.proofs.RowLaws.{and_left, and_right}
use Rattle.meaning.proofs.PlaceLaws.{place_none}
use Rattle.meaning.proofs.StepLaws.{after-count, fresh-count}
use Rattle.meaning.proofs.RefusalLaws.{number_above}
use Rattle.meaning.proofs.AccountJournals.{begin_right, started}
use Rattle.text.specs.Text.{Shown, text_most, has_nodes, text_for}
use Rattle.text.proofs.Lines.{text_values}
use Rattle.run.specs.Run.{journal_most, Ran, RunTold, Replayed, text_written, table_left}
use Rattle.run.proofs.Running.{begin_is, act_is, refused_is, end_is, run_right}

-- no step changes the count
count-all : (t : List ℕ) (xs : List Step) → count (after_all t xs) ≡ count t
unfolding after_all
count-all t [] = refl
count-all t (x ∷ xs) = count-all (after t x.action) xs ∙ after-count t x.action

-- a journal has a start of 2 to 16 nodes, or a refused line
begun_or_bad : (s : List ℕ) → (count_right (journal s).n ≡ true) ⊎ (0 < (journal s).rest.bad_number)
begun_or_bad s = go (next_at s 0 1) refl
  where
    go : (x : Next) → next_at s 0 1 ≡ x → (count_right (journal s).n ≡ true) ⊎ (0 < (journal s).rest.bad_number)
    go (Ok (Some (BeginAt n next))) e = inl (ap (λ (j : Journal). count_right j.n) (begin_is s e) ∙ begin_right true s 0 1 e)
    go (Ok (Some (ActAt x next))) e = inr (omega (arith, ap (λ (j : Journal). j.rest.bad_number) (act_is s e)))
    go (Err f) e = inr (omega (arith, ap (λ (j : Journal). j.rest.bad_number) (refused_is s e), number_above f.refusal))
    go (Ok None) e = inr (omega (arith, ap (λ (j : Journal). j.rest.bad_number) (end_is s e)))

-- with a start, the replay begins from the fresh table, whatever was lent
from_fresh : (t s : List ℕ) → count_right (journal s).n ≡ true → replay_after t s ≡ after_all (fresh Vectors (journal s).n) (journal s).rest.steps
unfolding replay_after
from_fresh t s c =
    let low : 2 ≤ (journal s).n = leb-true 2 (journal s).n (and_left (leb 2 (journal s).n) (leb (journal s).n nodes_most) c) in
    ap (λ (u : List ℕ). after_all u (journal s).rest.steps) (started (journal s).n t (omega arith))

-- the table that a run leaves has the words to print
nodes_of : (b : ℕ) (j : Journal) (t : List ℕ) → length t ≡ form_words Vectors → ((count_right j.n ≡ true) × (count t ≡ j.n)) ⊎ (0 < b)
    → has_nodes (outcome_of b j) t ≡ true
nodes_of zero j t l (inl p) =
    let high : j.n ≤ nodes_most = leb-true j.n nodes_most (and_right (leb 2 j.n) (leb j.n nodes_most) p.0) in
    rw (eq-eqb (length t) (form_words Vectors) l, p.1, le-leb j.n nodes_most high)
nodes_of zero j t l (inr h) = absurd (omega arith)
nodes_of (suc b) j t l h = refl

run_nodes : (t s : List ℕ) → length (replay_after t s) ≡ form_words Vectors → has_nodes (replayed s) (replay_after t s) ≡ true
unfolding replayed
run_nodes t s l = nodes_of (journal s).rest.bad_number (journal s) (replay_after t s) l (go (begun_or_bad s))
  where
    go : (count_right (journal s).n ≡ true) ⊎ (0 < (journal s).rest.bad_number)
        → ((count_right (journal s).n ≡ true) × (count (replay_after t s) ≡ (journal s).n)) ⊎ (0 < (journal s).rest.bad_number)
    go (inl c) = inl (c, ap count (from_fresh t s c) ∙ count-all (fresh Vectors (journal s).n) (journal s).rest.steps ∙ fresh-count Vectors (journal s).n)
    go (inr h) = inr h

-- what is printed does not depend on the words that were lent
same_text : (b : ℕ) (j : Journal) (t t' : List ℕ) → (t ≡ t') ⊎ (0 < b) → printed (outcome_of b j) t ≡ printed (outcome_of b j) t'
unfolding printed
same_text zero j t t' (inl e) = rw e
same_text zero j t t' (inr h) = absurd (omega arith)
same_text (suc b) j t t' h = refl

run_text : (t s : List ℕ) → printed (replayed s) (replay_after t s) ≡ printed (replayed s) (replay_after [] s)
unfolding replayed
run_text t s = same_text (journal s).rest.bad_number (journal s) (replay_after t s) (replay_after [] s) (go (begun_or_bad s))
  where
    go : (count_right (journal s).n ≡ true) ⊎ (0 < (journal s).rest.bad_number) → (replay_after t s ≡ replay_after [] s) ⊎ (0 < (journal s).rest.bad_number)
    go (inl c) = inl (from_fresh t s c ∙ sym (from_fresh [] s c))
    go (inr h) = inr h

-- a text written from place 0, by another name; nothing written
as_text : {out out' : List ℕ} {r : ℕ} {xs ys : List ℕ} → xs ≡ ys → Shown out xs r out' → Shown out ys r out'
as_text {out = out} e x =
    record { long = x.long ∙ ap length e; is = x.is ∙ ap (λ (zs : List ℕ). place 0 zs out) e; fits = x.fits; most = x.most }

no_text : (out : List ℕ) {ys : List ℕ} → [] ≡ ys → Shown out ys 0 out
no_text out e = as_text e (record { long = refl; is = sym (place_none 0 out); fits = omega arith; most = omega arith })

-- what `show` writes after a run is what the program prints
module _ (s t out : List ℕ) {x : Outcome} {t' out' : List ℕ} {r : ℕ} where
  pub told_text : length t ≡ form_words Vectors → text_most ≤ length out → Ran s t x t' → length t' ≡ form_words Vectors → Shown out (text_for out x t') r out'
      → RunTold s t out r t' out'
  told_text l room ran l' d =
      let w = run_right t s l in
      let is : t' ≡ replay_after t s = ran.table ∙ sym w.1 in
      let o : x ≡ replayed s = ran.outcome ∙ sym w.0 in
      let long : length (replay_after t s) ≡ form_words Vectors = sym (ap length is) ∙ l' in
      let e : text_for out x t' ≡ printed (replayed s) (replay_after [] s) =
      rw (o, is) (text_values out (replayed s) (replay_after t s) room (run_nodes t s long) ∙ run_text t s) in
      record { shown = as_text e d; table = is }

-- nothing written, by the test that led there; too long a journal; any other
module _ (s t out : List ℕ) where
  pub replay_none : (length t ≡ form_words Vectors → ⊥) → Replayed s t out 0 t out
  unfolding text_written table_left
  replay_none h =
      let e = ne_eqb (length t) (form_words Vectors) h in
      record { shown = no_text out (rw e); table = rw e }

  pub replay_short : length t ≡ form_words Vectors → length out < text_most → Replayed s t out 0 t out
  unfolding text_written table_left
  replay_short l h =
      let e = eq-eqb (length t) (form_words Vectors) l in
      let f = lt-leb text_most (length out) h in
      record { shown = no_text out (rw (e, f)); table = rw (e, f) }

  pub replay_long : {r : ℕ} {out' : List ℕ} → length t ≡ form_words Vectors → text_most ≤ length out → journal_most < length s
      → Shown out (text_for out (Err (Unread JournalLong)) t) r out' → Replayed s t out r t out'
  unfolding text_written table_left replay_text printed
  replay_long l room h d =
      let e = eq-eqb (length t) (form_words Vectors) l in
      let f = le-leb text_most (length out) room in
      let is : text_for out (Err (Unread JournalLong)) t ≡ text_written s t out =
      text_values out (Err (Unread JournalLong)) t room refl ∙ rw (e, f, lt-ltb journal_most (length s) h) in
      record { shown = as_text is d; table = rw (e, f, lt-leb (length s) journal_most h) }

  pub replay_right : {r : ℕ} {t' out' : List ℕ} → length t ≡ form_words Vectors → text_most ≤ length out → length s ≤ journal_most
      → RunTold s t out r t' out' → Replayed s t out r t' out'
  unfolding text_written table_left replay_text
  replay_right l room h d =
      let e = eq-eqb (length t) (form_words Vectors) l in
      let f = le-leb text_most (length out) room in
      let is : printed (replayed s) (replay_after [] s) ≡ text_written s t out = rw (e, f, le-ltb journal_most (length s) h) in
      record { shown = as_text is d.shown; table = d.table ∙ rw (e, f, le-leb (length s) journal_most h) }
