-- Demand 3 of a run: the table that it leaves is that of the account's run over the journal's steps, so nothing written in it is lost.
use mathlib.Core.Path.{◌≡◌, sym, ap, ◌∙◌}
use mathlib.Core.List.{List}
use Prim.Native.Nat.{ℕ, zero, suc, ◌<◌}
use native.Mathlib.Omega.{arith}
use lib.ListN.{length}
use Rattle.std.specs.Prelude.{Ok}
use Rattle.meaning.specs.declared.Done.{Done}
use Rattle.meaning.specs.Table.{Vectors, form_words, fresh}
use Rattle.meaning.specs.Journals.{journal, refused_of, outcome_of, replayed}
use Rattle.meaning.specs.Account.{events, run}
use Rattle.meaning.proofs.Demand3.{NothingLost}
use Rattle.meaning.proofs.AccountJournals.{journal_demand3}
use Rattle.run.specs.Run.{run_outcome, run_after}
use Rattle.run.proofs.Running.{run_right}

-- a run that came to the journal's end tells the start's n and how many steps the journal has
done_is : (s : List ℕ) (n k r : ℕ) → replayed s ≡ Ok (record { n = n; steps = k; refused = r }) → ((journal s).n ≡ n) × (length (journal s).rest.steps ≡ k)
unfolding replayed
done_is s n k r e = go (journal s).rest.bad_number e
  where
    go : (b : ℕ) → outcome_of b (journal s) ≡ Ok (record { n = n; steps = k; refused = r }) → ((journal s).n ≡ n) × (length (journal s).rest.steps ≡ k)
    go zero p =
        let x = journal s in
        let same : ◌≡◌ {A = Done} (record { n = x.n; steps = length x.rest.steps; refused = refused_of (fresh Vectors x.n) x.rest.steps })
        (record { n = n; steps = k; refused = r }) = cc p in
        (ap (λ (x : Done). x.n) same, ap (λ (x : Done). x.steps) same)
    go (suc b) p = absurd (let z : ◌≡◌ {A = ℕ} 0 1 = cc in omega arith)

-- DEMAND 3 of every run that comes to the journal's end: whatever words were lent, the table is that of all its steps, and at each node nothing is lost
pub run_demand3 : (t s : List ℕ) (n k r p : ℕ) → length t ≡ form_words Vectors → run_outcome t s ≡ Ok (record { n = n; steps = k; refused = r }) → p < n →
    (length (journal s).rest.steps ≡ k) ×
    (run_after t s ≡ (run Vectors n (events (journal s).rest.steps)).table) ×
    NothingLost n (run Vectors n (events (journal s).rest.steps)) p
run_demand3 t s n k r p l e h =
    let w = run_right t s l in
    let d = done_is s n k r (w.0 ∙ e) in
    let q : p < (journal s).n = omega (arith, d.0) in
    let lost = journal_demand3 t s p q in
    (d.1, sym w.1 ∙ lost.0 ∙ ap (λ (m : ℕ). (run Vectors m (events (journal s).rest.steps)).table) d.0, rw d.0 at lost.1)
