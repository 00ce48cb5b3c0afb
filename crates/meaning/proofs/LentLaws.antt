-- Laws of a lent list: with room for all 64 records of a log an action does what it does without one, whatever the table.
use mathlib.Core.Path.{◌≡◌, refl, sym, ap, ◌∙◌}
use mathlib.Core.Bool.{◌&&◌}
use mathlib.Core.List.{◌∷◌, [], List}
use Prim.Native.Nat.{ℕ, ◌*◌, ◌≤◌}
use native.Mathlib.Omega.{arith}
use lib.ListN.{length}
use lib.Dec.{leb, ltb}
use borrow.Author.Tests.{le-ltb}
use Rattle.meaning.specs.declared.Record.{Record}
use Rattle.meaning.specs.declared.Action.{Action}
use Rattle.meaning.specs.declared.Action.TheVariants.{Write, Session, Purge, Deliver}
use Rattle.meaning.specs.Rows.{unless, least, due}
use Rattle.meaning.specs.Refusals.{answered, test}
use Rattle.meaning.specs.Table.{Node, log_most, mark, node}
use Rattle.meaning.specs.Node.{waiting, given}
use Rattle.meaning.specs.Steps.{refusals, refusal, acted, reported, reply, after, due_of, lent_refusals, lent_refusal, lent_reply, lent_after}
use Rattle.meaning.proofs.RowLaws.{length-keep}
use Rattle.meaning.proofs.RefusalLaws.{none, given_before, given-after, first_passed, first-none}
use Rattle.meaning.proofs.TableLaws.{log_length}
use Rattle.meaning.proofs.StepLaws.{may_deliver}
use Rattle.meaning.proofs.AccountLaws.{by_test}
use Rattle.meaning.proofs.OrderLaws.{length-in_order}

-- what is given are as many records as are due, and no more than the log has
pub length-given : (m : ℕ) (x : Node) → length (given m x) ≡ length (waiting m x)
unfolding given
length-given m x = length-in_order (waiting m x)

pub waiting_few : (m : ℕ) (x : Node) → length (waiting m x) ≤ length x.log
unfolding waiting due
waiting_few m x = length-keep (λ (r : Record). ltb m r.timestamp && leb r.timestamp (least x.summary)) x.log

-- an accepted action never has more than 64 records due
due_few : (t : List ℕ) (x : Action) → refusal t x ≡ 0 → length (due_of t x) ≤ log_most
unfolding due_of
due_few t (Write p c b v) h = omega arith
due_few t (Session a b ca cb o) h = omega arith
due_few t (Purge p) h = omega arith
due_few t (Deliver p) h =
    let m = may_deliver t p h in
    omega (arith, m.is_sound.room p m.here, log_length t p, waiting_few (mark t p) (node t p))

module _ (t : List ℕ) (k : ℕ) (x : Action) (room : 4 * log_most ≤ k) where
  -- 7 is never given, and what is given before it stays
  pub lent_enough : lent_refusal t k x ≡ refusal t x
  unfolding lent_refusal lent_refusals refusal none
  lent_enough =
      let short = test 7 (ltb k (4 * length (due_of t x))) ∷ [] in
      by_test (none (refusals t x))
      (λ h.
      let few = due_few t x (first-none (refusals t x) h) in
      (given-after (refusals t x) short h).0 ∙
      first_passed 7 (ltb k (4 * length (due_of t x))) [] (le-ltb k (4 * length (due_of t x)) (omega arith)) ∙
      first-none [] refl ∙
      sym (first-none (refusals t x) h))
      (λ h. (given_before (refusals t x) short h).0)

  pub lent_enough_reply : lent_reply t k x ≡ reply t x
  unfolding lent_reply reply
  lent_enough_reply = ap (λ (j : ℕ). answered j (reported t x)) lent_enough

  pub lent_enough_after : lent_after t k x ≡ after t x
  unfolding lent_after after
  lent_enough_after = ap (λ (j : ℕ). unless j (acted t x) t) lent_enough
