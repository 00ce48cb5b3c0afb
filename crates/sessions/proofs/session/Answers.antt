-- `sessions::session` meets its contract: refused by its outcome and its nodes, or the meeting of two different nodes.
use mathlib.Core.Path.{◌≡◌}
use mathlib.Core.Bool.{true}
use mathlib.Core.List.{List}
use Prim.Native.Nat.{ℕ, ◌<◌, ◌≤◌}
use native.Mathlib.Omega.{arith}
use Rattle.std.specs.Prelude.{Err}
use Rattle.meaning.specs.declared.Refusal.{Refusal}
use Rattle.meaning.specs.declared.Refusal.TheVariants.{SessionOutcome, NodeAbsent, NodeTwice}
use Rattle.meaning.specs.declared.Action.TheVariants.{Session}
use Rattle.meaning.specs.Table.{count, sound}
use Rattle.meaning.proofs.TableLaws.{sound_facts}
use Rattle.meaning.proofs.StepLaws.{session_is_2, session_is_3_a, session_is_3_b, session_is_4, refuse}
use Rattle.looks.specs.Applied.{Applied}
use Rattle.sessions.proofs.session.Goals as goal
use Rattle.sessions.proofs.session.Goals.{then-n-p-via-then-n-p, then-n-p-via-else-n-p+then-n-q}

module _ (t : List ℕ) (is : sound t ≡ true) (a b ca cb o : ℕ) where
  abbrev Refuses : Refusal → Type 0
  Refuses r = Applied t (Session a b ca cb o) (Err r) t

  outcome : 3 < o → Refuses SessionOutcome
  outcome h = refuse t (Session a b ca cb o) SessionOutcome (session_is_2 t (sound_facts t is) a b ca cb o h)

  module _ (ho : o ≤ 3) (n : ℕ) (en : n ≡ count t) where
    absent_a : n ≤ a → Refuses NodeAbsent
    absent_a h = refuse t (Session a b ca cb o) NodeAbsent (session_is_3_a t (sound_facts t is) a b ca cb o ho (omega arith))

    absent_b : n ≤ b → Refuses NodeAbsent
    absent_b h = refuse t (Session a b ca cb o) NodeAbsent (session_is_3_b t (sound_facts t is) a b ca cb o ho (omega arith))

    twice : a < n → b < n → a ≡ b → Refuses NodeTwice
    twice ha hb e = refuse t (Session a b ca cb o) NodeTwice (session_is_4 t (sound_facts t is) a b ca cb o ho (omega arith) (omega arith) e)

pub returns-then-outcome-gt-BOTH-clause-done : goal.returns-then-outcome-gt-BOTH-clause-done
returns-then-outcome-gt-BOTH-clause-done c =
    outcome c.args.t.now.words.now c.args.t.now.is_sound c.args.a c.args.b c.args.ca c.args.cb c.args.outcome c.if-outcome-gt-BOTH.true

pub returns-then-n-p-clause-done : goal.returns-then-n-p-clause-done
returns-then-n-p-clause-done c =
    elim c.then-n-p.branch [
      | then-n-p-via-then-n-p w ↦
          absent_a c.args.t.now.words.now c.args.t.now.is_sound c.args.a c.args.b c.args.ca c.args.cb c.args.outcome
          (omega arith) c.nodes-n.result c.nodes-n.ensures.0 w.if-n-p.true
      | then-n-p-via-else-n-p+then-n-q w ↦
          absent_b c.args.t.now.words.now c.args.t.now.is_sound c.args.a c.args.b c.args.ca c.args.cb c.args.outcome
          (omega arith) c.nodes-n.result c.nodes-n.ensures.0 w.if-n-q.true
    ]

pub returns-then-p-q-clause-done : goal.returns-then-p-q-clause-done
returns-then-p-q-clause-done c =
    twice c.args.t.now.words.now c.args.t.now.is_sound c.args.a c.args.b c.args.ca c.args.cb c.args.outcome
    (omega arith) c.nodes-n.result c.nodes-n.ensures.0 c.if-n-p.false c.if-n-q.false c.if-p-q.true
