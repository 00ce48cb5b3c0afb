-- `deliveries::raise_mark` meets its contract: the entry put where it is greater, and else the mark is the greater of both already.
use mathlib.Core.Path.{◌≡◌, sym, ◌∙◌}
use mathlib.Core.List.{List, [], ◌∷◌}
use Prim.Native.Nat.{ℕ, ◌≤◌, ◌<◌}
use native.Mathlib.Omega.{arith}
use Rattle.meaning.specs.Table.{form_of, mark_at, mark, node, place, put_mark}
use Rattle.meaning.specs.Node.{raised}
use Rattle.meaning.proofs.PutLaws.{put_mark_same}
use Rattle.deliveries.specs.declared.Delivery.{Delivery}
use Rattle.deliveries.specs.Goes.{Goes}
use Rattle.deliveries.proofs.LentLaws.{may}
use Rattle.deliveries.proofs.raise_mark.Goals as goal

module _ (t : List ℕ) (d : Delivery) (g : Goes t d) where
  put : d.which.mark < d.which.limit → (at : ℕ) (u : List ℕ) → at ≡ mark_at (form_of t) d.p → u ≡ place at (d.which.limit ∷ []) t →
      u ≡ put_mark d.p (raised (mark t d.p) (node t d.p)) t
  unfolding put_mark raised
  put h at u ea eu =
      let e : d.which.limit ≡ raised (mark t d.p) (node t d.p) = omega (arith, g.from, g.upto) in
      eu ∙ (λ i. place (ea i) (e i ∷ []) t)

  -- the mark put where it stands
  left : d.which.limit ≤ d.which.mark → t ≡ put_mark d.p (raised (mark t d.p) (node t d.p)) t
  unfolding raised
  left h =
      let m = may t d g in
      let e : raised (mark t d.p) (node t d.p) ≡ mark t d.p = omega (arith, g.from, g.upto) in
      sym (put_mark_same t m.is_sound d.p m.here (raised (mark t d.p) (node t d.p)) e)

pub mark_at-at-requires : goal.mark_at-at-requires
mark_at-at-requires c =
    let m = may c.args.t.now c.args.by c.requires in
    let s = m.is_sound in
    (s.long, omega (arith, s.high, m.here))

pub put_word-requires : goal.put_word-requires
put_word-requires c =
    let m = may c.args.t.now c.args.by c.requires in
    let s = m.is_sound in
    omega (arith, s.long, s.high, m.here, c.mark_at-at.ensures)

pub returns-then-by : goal.returns-then-by
returns-then-by c =
    put c.args.t.now c.args.by c.requires c.if-by.true c.mark_at-at.result c.put_word.new.t c.mark_at-at.ensures c.put_word.ensures

pub returns-else-by : goal.returns-else-by
returns-else-by c = left c.args.t.now c.args.by c.requires c.if-by.false
