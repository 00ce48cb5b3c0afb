-- `sessions::meet` meets its contract: refused where a reading is behind its node's own entry, or the exchange.
use mathlib.Core.Path.{◌≡◌, refl, sym, ◌∙◌}
use mathlib.Core.Bool.{Bool, true, false}
use mathlib.Core.List.{List}
use Prim.Native.Nat.{ℕ, ◌<◌, ◌≤◌}
use native.Mathlib.Omega.{arith}
use lib.ListN.{take}
use Rattle.std.specs.Prelude.{Err}
use Rattle.meaning.specs.declared.Refusal.TheVariants.{TimeBehind, LogFull}
use Rattle.meaning.specs.declared.Action.TheVariants.{Session}
use Rattle.meaning.specs.Table.{form_of, acks_wide, node, count, sound, Sound}
use Rattle.meaning.specs.Node.{own, opened}
use Rattle.meaning.specs.Steps.{Reply, acted, reported}
use Rattle.meaning.proofs.TableLaws.{sound_facts}
use Rattle.meaning.proofs.StepLaws.{session_is_5_a, session_is_5_b, session_is_6, session_is_0, refuse, accept}
use Rattle.looks.specs.Applied.{Applied}
use Rattle.looks.proofs.Keeps.{applied_kept}
use Rattle.openings.specs.declared.Reading.{Reading}
use Rattle.openings.specs.declared.Start.{Start}
use Rattle.openings.specs.Begun.{begun, Starts}
use Rattle.openings.proofs.OwnLaws.{lent_begins, lent_fits, lent_opens}
use Rattle.exchanges.specs.Met.{crowded, Meets, Traded}
use Rattle.sessions.proofs.meet.Goals as goal
use Rattle.sessions.proofs.meet.Goals.{then-a-own-via-then-a-own, then-a-own-via-else-a-own+then-b-own}

module _ (t : List ℕ) (is : sound t ≡ true) (a b : Reading) (o : ℕ)
    (pre : (a.node < count t) × (b.node < count t) × (a.node ≡ b.node → ⊥) × (o ≤ 3)) where
  s : Sound t
  s = sound_facts t is

  back_a : {x : ℕ} → x ≡ own a.node (node t a.node) → a.time < x → Applied t (Session a.node b.node a.time b.time o) (Err TimeBehind) t
  back_a e h =
      refuse t (Session a.node b.node a.time b.time o) TimeBehind
      (session_is_5_a t s a.node b.node a.time b.time o pre.3 pre.0 pre.1 pre.2 (omega arith))

  back_b : {x : ℕ} → x ≡ own b.node (node t b.node) → b.time < x → Applied t (Session a.node b.node a.time b.time o) (Err TimeBehind) t
  back_b e h =
      refuse t (Session a.node b.node a.time b.time o) TimeBehind
      (session_is_5_b t s a.node b.node a.time b.time o pre.3 pre.0 pre.1 pre.2 (omega arith))

  -- the readings are in order
  module _ {r : Reply} {u : List ℕ}
      (trade : Traded t o a.node b.node (opened a.node a.time (node t a.node)) (opened b.node b.time (node t b.node)) r u)
      (ga : own a.node (node t a.node) ≤ a.time) (gb : own b.node (node t b.node) ≤ b.time) where
    by_room :
        (full : Bool) → crowded o (opened a.node a.time (node t a.node)) (opened b.node b.time (node t b.node)) ≡ full →
        Applied t (Session a.node b.node a.time b.time o) r u
    unfolding reported acted
    by_room true h =
        let is = trade.full h in
        let six = session_is_6 t s a.node b.node a.time b.time o pre.3 pre.0 pre.1 pre.2 ga gb h in
        let asked = refuse t (Session a.node b.node a.time b.time o) LogFull six in
        (is.0 ∙ asked.0, is.1 ∙ asked.1)
    by_room false h =
        let is = trade.done h in
        let asked =
        accept t (Session a.node b.node a.time b.time o) (session_is_0 t s a.node b.node a.time b.time o pre.3 pre.0 pre.1 pre.2 ga gb h)
        in
        (is.0 ∙ asked.0, is.1 ∙ asked.1)

  -- the lent parts of both nodes' rows are what they begin with
  module _ (n w : ℕ) (en : n ≡ count t) (ew : w ≡ acks_wide (form_of t) (count t)) (sa ka sb kb : List ℕ) (ea : Starts t a sa ka)
      (eb : Starts t b sb kb) where
    ready :
        {x y : Start} → x.node ≡ a.node → x.summary.now ≡ take n sa → x.acks.now ≡ take w ka → y.node ≡ b.node → y.summary.now ≡ take n sb →
        y.acks.now ≡ take w kb → Meets t x y
    ready {x} {y} na la ma nb lb mb =
        record {
          is_sound = s;
          fits_a = lent_fits t a n w sa ka en ew ea s pre.0 x na la ma;
          fits_b = lent_fits t b n w sb kb en ew eb s pre.1 y nb lb mb;
          apart = λ e. pre.2 (sym na ∙ e ∙ nb);
          opens_a = lent_opens t a n w sa ka en ew ea s pre.0 x na la ma;
          opens_b = lent_opens t b n w sb kb en ew eb s pre.1 y nb lb mb;
        }

    done :
        {x y : ℕ} → x ≡ own a.node (node t a.node) → x ≤ a.time → y ≡ own b.node (node t b.node) → y ≤ b.time → {r : Reply} {u : List ℕ} →
        Traded t o a.node b.node (begun t a.node (take n sa) (take w ka) (node t a.node).log)
        (begun t b.node (take n sb) (take w kb) (node t b.node).log) r u →
        Applied t (Session a.node b.node a.time b.time o) r u
    done ia ga ib gb {r} {u} e =
        let x = opened a.node a.time (node t a.node) in
        let y = opened b.node b.time (node t b.node) in
        let trade : Traded t o a.node b.node x y r u = rw (lent_begins t a n w sa ka en ew ea, lent_begins t b n w sb kb en ew eb) at e in
        by_room trade (omega arith) (omega arith) (crowded o x y) refl

pub returns-then-a-own-clause-done : goal.returns-then-a-own-clause-done
returns-then-a-own-clause-done c =
    elim c.then-a-own.branch [
      | then-a-own-via-then-a-own w ↦
          back_a c.args.t.now.words.now c.args.t.now.is_sound c.args.a c.args.b c.args.outcome c.requires c.own.ensures w.if-a-own.true
      | then-a-own-via-else-a-own+then-b-own w ↦
          back_b c.args.t.now.words.now c.args.t.now.is_sound c.args.a c.args.b c.args.outcome c.requires w.own-else-a-own.ensures w.if-b-own.true
    ]

pub exchange-requires : goal.exchange-requires
exchange-requires c =
    ready c.args.t.now.words.now c.args.t.now.is_sound c.args.a c.args.b c.args.outcome c.requires c.nodes-n.result c.acks_wide-w.result
    c.nodes-n.ensures.0 c.acks_wide-w.ensures.0 c.opening.new.summary c.opening.new.acks c.opening-2.new.summary c.opening-2.new.acks
    c.opening.ensures c.opening-2.ensures refl refl refl refl refl refl

pub returns-clause-done : goal.returns-clause-done
returns-clause-done c =
    done c.args.t.now.words.now c.args.t.now.is_sound c.args.a c.args.b c.args.outcome c.requires c.nodes-n.result c.acks_wide-w.result
    c.nodes-n.ensures.0 c.acks_wide-w.ensures.0 c.opening.new.summary c.opening.new.acks c.opening-2.new.summary c.opening-2.new.acks
    c.opening.ensures c.opening-2.ensures c.own.ensures c.if-a-own.false c.own-else-a-own.ensures c.if-b-own.false c.exchange.ensures

pub invariant_of-t : goal.invariant_of-t
invariant_of-t c =
    let step =
    done c.args.t.now.words.now c.args.t.now.is_sound c.args.a c.args.b c.args.outcome c.requires c.nodes-n.result c.acks_wide-w.result
    c.nodes-n.ensures.0 c.acks_wide-w.ensures.0 c.opening.new.summary c.opening.new.acks c.opening-2.new.summary c.opening-2.new.acks
    c.opening.ensures c.opening-2.ensures c.own.ensures c.if-a-own.false c.own-else-a-own.ensures c.if-b-own.false c.exchange.ensures
    in
    record {
      is_sound =
          applied_kept c.args.t.now.words.now (Session c.args.a.node c.args.b.node c.args.a.time c.args.b.time c.args.outcome) c.exchange.result
          c.exchange.new.t step (omega arith) c.args.t.now.is_sound;
    }
