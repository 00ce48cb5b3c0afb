-- `writes::write` meets its contract: each refusal by its test, and else the node put.
use mathlib.Core.Path.{◌≡◌, ◌∙◌, ap, ap₂}
use mathlib.Core.Bool.{true}
use Prim.Native.Nat.{ℕ, ◌≤◌, ◌<◌}
use native.Mathlib.Omega.{arith}
use mathlib.Core.List.{List}
use Rattle.std.specs.Prelude.{Ok, Err}
use Rattle.meaning.specs.declared.Report.TheVariants.{Written}
use Rattle.meaning.specs.declared.Refusal.TheVariants.{NodeAbsent, TimeBehind, LogFull}
use Rattle.meaning.specs.declared.Action.TheVariants.{Write}
use Rattle.meaning.specs.Table.{count, held, node, put_node, log_most, sound, Sound}
use Rattle.meaning.specs.Node.{own, wrote}
use Rattle.meaning.specs.Steps.{acted, reported}
use Rattle.meaning.proofs.TableLaws.{held_log_lem, sound_facts}
use Rattle.meaning.proofs.StepLaws.{write_is_3, write_is_5, write_is_6, write_is_0, refuse, accept}
use Rattle.looks.specs.Applied.{Applied}
use Rattle.looks.proofs.Keeps.{applied_kept}
use Rattle.writes.proofs.write.Goals as goal

module _ (t : List ℕ) (is_sound : sound t ≡ true) (p c b v : ℕ) where
  s : Sound t
  s = sound_facts t is_sound

  absent : (n : ℕ) → n ≡ count t → n ≤ p → Applied t (Write p c b v) (Err NodeAbsent) t
  absent n e h = refuse t (Write p c b v) NodeAbsent (write_is_3 t s p c b v (omega arith))

  back : (n o : ℕ) → n ≡ count t → p < n → o ≡ own p (node t p) → c ≤ o → Applied t (Write p c b v) (Err TimeBehind) t
  back n o e h f g = refuse t (Write p c b v) TimeBehind (write_is_5 t s p c b v (omega arith) (omega arith))

  full :
      (n o k : ℕ) → n ≡ count t → p < n → o ≡ own p (node t p) → o < c → k ≡ held t p → log_most ≤ k → Applied t (Write p c b v) (Err LogFull) t
  full n o k e h f g ek w =
      let l = held_log_lem t p in
      refuse t (Write p c b v) LogFull (write_is_6 t s p c b v (omega arith) (omega arith) (omega arith))

  done :
      (n o k x y : ℕ) (u : List ℕ) → n ≡ count t → p < n → o ≡ own p (node t p) → o < c → k ≡ held t p → k < log_most → x ≡ p → y ≡ v →
      u ≡ put_node x (wrote x c b y (node t x)) t → Applied t (Write p c b v) (Ok Written) u
  unfolding reported acted
  done n o k x y u e h f g ek w ex ey eu =
      let l = held_log_lem t p in
      let a = accept t (Write p c b v) (write_is_0 t s p c b v (omega arith) (omega arith) (omega arith)) in
      (a.0, eu ∙ ap₂ (λ (i j : ℕ). put_node i (wrote i c b j (node t i)) t) ex ey ∙ a.1)

  -- what `append` asks
  ready : (n k x : ℕ) → n ≡ count t → p < n → k ≡ held t p → x ≡ p → k < log_most → Sound t × (x < count t) × (held t x < log_most)
  ready n k x e h ek ex w =
      let m = ap (held t) ex in
      (s, omega arith, omega arith)

pub returns-then-nodes-p-clause-done : goal.returns-then-nodes-p-clause-done
returns-then-nodes-p-clause-done c =
    absent c.args.t.now.words.now c.args.t.now.is_sound c.args.node c.args.timestamp c.args.block c.args.verdict
    c.nodes.result c.nodes.ensures.0 c.if-nodes-p.true

pub returns-then-timestamp-own-clause-done : goal.returns-then-timestamp-own-clause-done
returns-then-timestamp-own-clause-done c =
    back c.args.t.now.words.now c.args.t.now.is_sound c.args.node c.args.timestamp c.args.block c.args.verdict
    c.nodes.result c.own.result c.nodes.ensures.0 c.if-nodes-p.false c.own.ensures c.if-timestamp-own.true

pub returns-then-held-ge-LOG_MOST-clause-done : goal.returns-then-held-ge-LOG_MOST-clause-done
returns-then-held-ge-LOG_MOST-clause-done c =
    full c.args.t.now.words.now c.args.t.now.is_sound c.args.node c.args.timestamp c.args.block c.args.verdict
    c.nodes.result c.own.result c.held.result c.nodes.ensures.0 c.if-nodes-p.false
    c.own.ensures c.if-timestamp-own.false c.held.ensures.0 c.if-held-ge-LOG_MOST.true

pub returns-clause-done : goal.returns-clause-done
returns-clause-done c =
    let new = c.append.new.t in
    let told = c.append.ensures in
    done c.args.t.now.words.now c.args.t.now.is_sound c.args.node c.args.timestamp c.args.block c.args.verdict
    c.nodes.result c.own.result c.held.result c.from.result c.from-2.result new c.nodes.ensures.0 c.if-nodes-p.false c.own.ensures
    c.if-timestamp-own.false c.held.ensures.0 c.if-held-ge-LOG_MOST.false c.from.ensures c.from-2.ensures told

pub append-requires : goal.append-requires
append-requires c =
    ready c.args.t.now.words.now c.args.t.now.is_sound c.args.node c.args.timestamp c.args.block c.args.verdict
    c.nodes.result c.held.result c.from.result c.nodes.ensures.0 c.if-nodes-p.false c.held.ensures.0 c.from.ensures c.if-held-ge-LOG_MOST.false

pub invariant_of-t : goal.invariant_of-t
invariant_of-t c =
    let t = c.args.t.now in
    let action = Write c.args.node c.args.timestamp c.args.block c.args.verdict in
    let applied = done t.words.now t.is_sound c.args.node c.args.timestamp c.args.block c.args.verdict
    c.nodes.result c.own.result c.held.result c.from.result c.from-2.result c.append.new.t c.nodes.ensures.0 c.if-nodes-p.false c.own.ensures
    c.if-timestamp-own.false c.held.ensures.0 c.if-held-ge-LOG_MOST.false c.from.ensures c.from-2.ensures c.append.ensures in
    record { is_sound = applied_kept t.words.now action (Ok Written) c.append.new.t applied (omega arith) t.is_sound }
