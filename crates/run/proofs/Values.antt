-- The values of a replay's outcome, by the journal: the refused line, its number and place, or no refusal and the three counts.
use mathlib.Core.Path.{◌≡◌, refl, ap}
use mathlib.Core.Logic.{inl, inr}
use mathlib.Core.List.{List}
use Prim.Native.Nat.{ℕ, zero, suc, ◌+◌}
use native.Mathlib.Omega.{arith}
use mathlib.Core.Bool.{false}
use lib.ListN.{length}
use Rattle.std.specs.Prelude.{Some, None, Ok, Err}
use Rattle.meaning.specs.declared.Refusal.{Refusal}
use Rattle.meaning.specs.declared.NextLine.TheVariants.{Begin as BeginAt, Act as ActAt}
use Rattle.meaning.specs.Refusals.{number_of, refusal_of}
use Rattle.meaning.specs.Journals.{Next, Journal, next_in, next_at, steps_from, journal, outcome_of, outcome_values, replayed}
use Rattle.meaning.proofs.RefusalLaws.{Named, refusal_number}
use Rattle.meaning.proofs.JournalLaws.{steps_act, steps_begin, steps_refused, steps_end}
use Rattle.run.specs.Run.{journal_values}
use Rattle.run.proofs.Running.{begin_is, act_is, refused_is, end_is}

-- the number of a refused line is a name's
begun_named : Named 15
unfolding refusal_of
begun_named = inr refl

name_named : (r : Refusal) → Named (number_of r)
name_named r = inr (ap number_of (refusal_number r))

steps_named : (k : ℕ) (s : List ℕ) (at line : ℕ) → Named (steps_from k s at line).bad_number
unfolding steps_from
steps_named zero s at line = inl refl
steps_named (suc k) s at line = go (next_in false s at line) refl (λ next. steps_named k s next (line + 1))
  where
    go : (x : Next) → next_in false s at line ≡ x → ((next : ℕ) → Named (steps_from k s next (line + 1)).bad_number)
        → Named (steps_from (suc k) s at line).bad_number
    go (Ok (Some (BeginAt n next))) e rest = rw (steps_begin k s at line e) begun_named
    go (Ok (Some (ActAt x next))) e rest = rw (steps_act k s at line e) (rest next)
    go (Ok None) e rest = rw (steps_end (suc k) s at line e) (inl refl)
    go (Err f) e rest = rw (steps_refused k s at line e) (name_named f.refusal)

journal_named : (s : List ℕ) → Named (journal s).rest.bad_number
journal_named s = go (next_at s 0 1) refl
  where
    go : (x : Next) → next_at s 0 1 ≡ x → Named (journal s).rest.bad_number
    go (Ok (Some (BeginAt n next))) e = rw (begin_is s e) (steps_named (length s) s next 2)
    go (Ok (Some (ActAt x next))) e = rw (act_is s e) begun_named
    go (Ok None) e = rw (end_is s e) begun_named
    go (Err f) e = rw (refused_is s e) (name_named f.refusal)

outcome_values_lem : (b : ℕ) (j : Journal) → Named b → outcome_values (outcome_of b j) ≡ journal_values b j
outcome_values_lem zero j n = refl
outcome_values_lem (suc b) j (inl e) = absurd (omega (arith, e))
outcome_values_lem (suc b) j (inr e) = rw e

pub replayed_values : (s : List ℕ) → outcome_values (replayed s) ≡ journal_values (journal s).rest.bad_number (journal s)
unfolding replayed
replayed_values s = outcome_values_lem (journal s).rest.bad_number (journal s) (journal_named s)
