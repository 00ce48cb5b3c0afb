-- `sides::take` meets its contract: the newer records behind the last and the held number, or nothing.
use mathlib.Core.Path.{◌≡◌, ap, sym, ◌∙◌}
use mathlib.Core.Bool.{Bool, true, false, not, ◌&&◌}
use mathlib.Core.List.{List}
use Prim.Native.Nat.{ℕ, ◌+◌, ◌*◌, ◌≤◌, ◌<◌}
use native.Mathlib.Omega.{arith}
use borrow.Author.Tests.{not-true, not-false, ltb-false}
use lib.ListN.{length}
use lib.Dec.{ltb}
use Rattle.meaning.specs.Rows.{newer}
use Rattle.meaning.specs.Table.{form_of, form_words, nodes_most, log_most, log_at}
use Rattle.meaning.proofs.PutLaws.{grown-none}
use Rattle.logs.specs.Carry.{CarriesAll}
use Rattle.openings.specs.declared.Party.{Party}
use Rattle.openings.specs.Begun.{shown}
use Rattle.openings.proofs.LogLaws.{right_log}
use Rattle.sides.specs.Ended.{Takes, Took}
use Rattle.sides.proofs.take.Goals as goal

module _ {t : List ℕ} {mine theirs : Party} (s : Takes t mine theirs) where
  abbrev p : ℕ
  p = mine.start.node

  abbrev q : ℕ
  q = theirs.start.node

  abbrev known : List ℕ
  known = mine.start.summary.now

  nodes : (p < nodes_most) × (q < nodes_most) × (length t ≡ form_words (form_of t))
  nodes =
      let h = s.is_sound.high in
      let a = s.here in
      let b = s.there in
      (omega arith, omega arith, s.is_sound.long)

  most : (mine.held ≤ log_most) × (theirs.held ≤ log_most)
  most =
      let a = s.is_sound.room p s.here in
      let b = s.is_sound.room q s.there in
      let d = s.mine_held in
      let e = s.theirs_held in
      (omega arith, omega arith)

  none : mine.finishes ≡ false → Took t mine theirs mine.held t
  none e =
      let m = most.0 in
      rw e (record { total = omega arith; most = m; leaves = sym (grown-none t s.is_sound p s.here) })

  module _ (on : mine.finishes ≡ true) where
    fits : mine.held + length (newer known (shown t theirs)) ≤ log_most
    fits =
        ltb-false log_most (mine.held + length (newer known (shown t theirs)))
        (ap (λ (b : Bool). b && ltb log_most (mine.held + length (newer known (shown t theirs)))) (sym on) ∙ s.room)

    ready : (from to : ℕ) → from ≡ log_at (form_of t) q → to ≡ log_at (form_of t) p → CarriesAll t from theirs.held (to + 4 * mine.held) known
    ready from to ef et =
        let o = nodes in
        let l = o.2 in
        let a = o.0 in
        let b = o.1 in
        let m = most.1 in
        let h = fits in
        rw ef
        (record {
          inside = omega arith;
          below = m;
          known = rw s.long (right_log t s.is_sound q theirs.held s.there s.theirs_held);
          fits = omega arith;
          apart = λ x y. s.apart (omega arith);
        })

pub returns-then-not-mine : goal.returns-then-not-mine
returns-then-not-mine c =
    none c.requires (not-true c.args.mine.now.finishes (ap not c.if-not-mine.true))

pub carry-taken-requires : goal.carry-taken-requires
carry-taken-requires c =
    ready c.requires (not-false c.args.mine.now.finishes (ap not c.if-not-mine.false)) c.log_at-from.result c.log_at.result
    c.log_at-from.ensures c.log_at.ensures
