-- Laws of a run: the outcome of a journal by how far its steps came, and by what it begins with.
use mathlib.Core.Path.{◌≡◌, refl, sym, ap, ◌∙◌}
use mathlib.Core.Bool.{true}
use mathlib.Core.List.{List, []}
use Prim.Native.Nat.{ℕ, zero, suc, ◌+◌, ◌≤◌}
use native.Mathlib.Omega.{arith}
use lib.Dec.{leb}
use lib.ListN.{length}
use borrow.Author.Tests.{leb-true, eq-eqb, ne_eqb}
use Rattle.meaning.specs.declared.Step.{Step}
use Rattle.std.specs.Prelude.{Some, None, Ok, Err}
use Rattle.meaning.specs.declared.NextLine.TheVariants.{Begin as BeginAt, Act as ActAt}
use Rattle.meaning.specs.declared.Fault.{Fault}
use Rattle.meaning.specs.declared.Refusal.TheVariants.{Unsound, StartWrong}
use Rattle.meaning.specs.declared.Stopped.TheVariants.{Bad, Unread}
use Rattle.meaning.specs.Refusals.{number_of, fault, fault_at}
use Rattle.meaning.proofs.RefusalLaws.{number_above, fault_none, fault_name}
use Rattle.meaning.specs.declared.Progress.{Progress}
use Rattle.meaning.specs.Table.{Vectors, form_words, nodes_most, count_right, fresh, made_fresh, Sound}
use Rattle.meaning.specs.Journals.{Outcome, Journal, broken, next_at, steps_from, journal, after_all, outcome_of, replayed, started_from, replay_after}
use Rattle.meaning.proofs.RowLaws.{and_left, and_right}
use Rattle.meaning.proofs.TableLaws.{form_is, fresh_right}
use Rattle.meaning.proofs.StepLaws.{fresh-sound}
use Rattle.meaning.proofs.AccountJournals.{started}
use Rattle.meaning.proofs.JournalLaws.{steps_few, bad_line_lem}
use Rattle.lines.specs.Applying.{AppliedFrom}
use Rattle.run.specs.Run.{begun_at, run_outcome, run_after, RanFrom, Ran}

after_none : (t : List ℕ) → after_all t [] ≡ t
unfolding after_all
after_none t = refl

-- how far a journal's steps came gives its outcome: to the end, or to the line after them
module _ (s : List ℕ) (from n : ℕ) {x : Progress} {t' : List ℕ} (a : AppliedFrom s from 2 (fresh Vectors n) x t') where
  fault_is : fault_at (begun_at n s from).rest.bad_number (begun_at n s from).rest.bad_place ≡ x.fault
  fault_is = sym (ap (λ (y : Progress). y.fault) a.answer)

  pub steps_within : x.steps ≤ length s
  steps_within = let e = ap (λ (y : Progress). y.steps) a.answer in omega (arith, e, steps_few (length s) s from 2)

  pub ran_done : x.fault ≡ None → RanFrom s from n (Ok (record { n = n; steps = x.steps; refused = x.refused })) t'
  ran_done z =
      let clear = fault_none (begun_at n s from).rest.bad_number (begun_at n s from).rest.bad_place (fault_is ∙ z) in
      record { outcome = rw clear (ap (λ (y : Progress). Ok (record { n = n; steps = y.steps; refused = y.refused })) a.answer); table = a.table }

  bad_at : (k : ℕ) (f : Fault) → (begun_at n s from).rest.bad_number ≡ k → fault_at k (begun_at n s from).rest.bad_place ≡ Some f
      → Err (Bad (x.steps + 2) f) ≡ outcome_of k (begun_at n s from)
  bad_at zero f e h = absurd (cc h)
  bad_at (suc k) f e h =
      let steps = ap (λ (y : Progress). y.steps) a.answer in
      let line = bad_line_lem (length s) s from 2 (omega (arith, e)) in
      let l : x.steps + 2 ≡ (begun_at n s from).rest.bad_line = omega (arith, steps, line) in
      let is : f ≡ fault (suc k) (begun_at n s from).rest.bad_place = cc h in
      rw (l, is) refl

  pub ran_bad : (f : Fault) → x.fault ≡ Some f → RanFrom s from n (Err (Bad (x.steps + 2) f)) t'
  ran_bad f z = record { outcome = bad_at (begun_at n s from).rest.bad_number f refl (fault_is ∙ z); table = a.table }

-- a fresh table is made, and is sound
pub made_fresh_lem : (t : List ℕ) (n : ℕ) → length t ≡ form_words Vectors → count_right n ≡ true → made_fresh t n ≡ fresh Vectors n
unfolding made_fresh
made_fresh_lem t n l c =
    let form = form_is Vectors t l in
    rw (fresh_right t n c (rw form l), form)

pub right_sound : (n : ℕ) → count_right n ≡ true → Sound (fresh Vectors n)
right_sound n c =
    let low = and_left (leb 2 n) (leb n nodes_most) c in
    let high = and_right (leb 2 n) (leb n nodes_most) c in
    fresh-sound Vectors n (leb-true 2 n low) (leb-true n nodes_most high)

-- a run over a table of the wrong length, and of the right one
pub run_wrong : (t s : List ℕ) → (length t ≡ form_words Vectors → ⊥) → Ran s t (Err (Unread Unsound)) t
unfolding run_outcome run_after
run_wrong t s h =
    let e = ne_eqb (length t) (form_words Vectors) h in
    record { outcome = rw e; table = rw e }

pub run_right : (t s : List ℕ) → length t ≡ form_words Vectors → (replayed s ≡ run_outcome t s) × (replay_after t s ≡ run_after t s)
unfolding run_outcome run_after
run_right t s h =
    let e = eq-eqb (length t) (form_words Vectors) h in
    (rw e, rw e)

-- by what a journal begins with
pub begin_is : (s : List ℕ) {n next : ℕ} → next_at s 0 1 ≡ Ok (Some (BeginAt n next)) → journal s ≡ record { n = n; rest = steps_from (length s) s next 2 }
unfolding journal
begin_is s e = rw (e, journal)

pub act_is : (s : List ℕ) {x : Step} {next : ℕ} → next_at s 0 1 ≡ Ok (Some (ActAt x next)) → journal s ≡ record { n = 0; rest = broken 0 1 15 0 }
unfolding journal
act_is s e = rw (e, journal)

pub refused_is : (s : List ℕ) {f : Fault} → next_at s 0 1 ≡ Err f → journal s ≡ record { n = 0; rest = broken 0 1 (number_of f.refusal) f.place }
unfolding journal
refused_is s e = rw (e, journal)

pub end_is : (s : List ℕ) → next_at s 0 1 ≡ Ok None → journal s ≡ record { n = 0; rest = broken 0 1 15 0 }
unfolding journal
end_is s e = rw (e, journal)

pub run-begun : (t s : List ℕ) {n next : ℕ} {r : Outcome} {t' : List ℕ} → length t ≡ form_words Vectors → next_at s 0 1 ≡ Ok (Some (BeginAt n next))
    → count_right n ≡ true
    → RanFrom s next n r t' → Ran s t r t'
unfolding replayed replay_after
run-begun t s {n} {next} l e c x =
    let j = begin_is s e in
    let w = run_right t s l in
    let low : 2 ≤ n = leb-true 2 n (and_left (leb 2 n) (leb n nodes_most) c) in
    record {
      outcome = x.outcome ∙ sym (ap (λ (y : Journal). outcome_of y.rest.bad_number y) j) ∙ w.0;
      table =
          x.table ∙ ap (λ (u : List ℕ). after_all u (steps_from (length s) s next 2).steps) (sym (started n t (omega arith))) ∙
          sym (ap (λ (y : Journal). after_all (started_from y.n t) y.rest.steps) j) ∙ w.1;
    }

pub run-broken : (t s : List ℕ) (f : Fault) → length t ≡ form_words Vectors
    → journal s ≡ record { n = 0; rest = broken 0 1 (number_of f.refusal) f.place } → Ran s t (Err (Bad 1 f)) t
unfolding replayed replay_after
run-broken t s f l j =
    let w = run_right t s l in
    record {
      outcome = bad (number_of f.refusal) refl ∙ sym (ap (λ (x : Journal). outcome_of x.rest.bad_number x) j) ∙ w.0;
      table = sym (after_none t) ∙ sym (ap (λ (x : Journal). after_all (started_from x.n t) x.rest.steps) j) ∙ w.1;
    }
  where
    bad : (i : ℕ) → i ≡ number_of f.refusal → Err (Bad 1 f) ≡ outcome_of i (record { n = 0; rest = broken 0 1 i f.place })
    bad zero z = absurd (omega (arith, number_above f.refusal))
    bad (suc i) z = ap (λ (x : Fault). Err (Bad 1 x)) (sym (fault_name f.refusal (suc i) f.place z))

-- a first line that is not the start that it must be
pub run_not_begun : (t s : List ℕ) → length t ≡ form_words Vectors → journal s ≡ record { n = 0; rest = broken 0 1 15 0 }
    → Ran s t (Err (Bad 1 (record { refusal = StartWrong; place = 0 }))) t
run_not_begun t s l j = run-broken t s (record { refusal = StartWrong; place = 0 }) l j
