-- `pairs::Chains::find`. The invariant: where the search from here ends, the search from the slot's head ends. Each link leads to a later record.
use mathlib.Core.Path.{◌≡◌, refl, sym, ap, subst, ◌∙◌}
use mathlib.Core.Bool.{Bool, false, not}
use mathlib.Core.List.{List}
use Prim.Native.Nat.{ℕ, ◌-◌, ◌*◌, ◌<◌, ◌≤◌}
use native.Mathlib.Omega.{arith}
use borrow.Author.Tests.{lt-ltb, le-ltb}
use lib.ListN.{length, get_or}
use Rattle.meaning.specs.Rows.{record_at}
use Rattle.meaning.specs.Verdicts.{Pair, pair_of, same_pair}
use Rattle.pairs.specs.Chains.{Rising, Seeks, a_pair, ends, goes, goes_on}
use Rattle.pairs.proofs.ChainLaws.{ahead, ahead_less, link_within}
use Rattle.pairs.proofs.Chains.find.Goals as goal

module _ (w : List ℕ) (x : Pair) where
  none : goes_on w x 0 ≡ false
  none = rw (le-ltb 0 0 (omega arith)) refl

  -- a record's pair and this one are the same, or not
  tells : (k : ℕ) (y : Pair) (b : Bool) → 0 < k → y ≡ pair_of (record_at w (k - 1)) → b ≡ same_pair x y → goes_on w x k ≡ not b
  tells k y b some ey eb = rw (lt-ltb 0 k some) (ap not (sym (eb ∙ ap (same_pair x) ey)))

  module _ (links : List ℕ) (rising : Rising w links) where
    nearer : (k next : ℕ) → 0 < k → k ≡ next → 4 * next ≤ length w → ahead (get_or links (k - 1) 0) < ahead next
    nearer k next some e low =
        subst (λ (m : ℕ). ahead (get_or links (k - 1) 0) < ahead m) e (ahead_less w links rising k (get_or links (k - 1) 0) some (omega arith) refl)

pub loop-number-init : goal.loop-number-init
loop-number-init c =
    let inside = c.requires.inside in
    rw c.slot.ensures.0 (inside, λ n s. s)

pub of-requires : goal.of-requires
of-requires c =
    let named = c.in-Some.ensures in
    (named.0, omega (arith, named.1, c.loop-number.invariant.0))

pub returns-then-eq : goal.returns-then-eq
returns-then-eq c =
    let w = c.args.words.now in
    let x = a_pair c.args.pair.origin c.args.pair.block in
    let k = c.in-Some.number in
    let named = c.in-Some.ensures in
    let stop = tells w x k _ c.eq.result named.0 c.of.ensures c.eq.ensures ∙ ap not c.if-eq.true in
    let seek : Seeks w c.args.self.now.links x c.loop-number.next k
    = subst (λ (z : ℕ). Seeks w c.args.self.now.links x z k) named.1 (ends stop) in
    (named.0, c.loop-number.invariant.1 k seek)

pub bounds-self-number : goal.bounds-self-number
bounds-self-number c =
    let named = c.in-Some.ensures in
    omega (arith, named.0, named.1, c.requires.rising.room, c.loop-number.invariant.0)

pub loop-number-smaller : goal.loop-number-smaller
loop-number-smaller c =
    let named = c.in-Some.ensures in
    nearer c.args.words.now (a_pair c.args.pair.origin c.args.pair.block) c.args.self.now.links c.requires.rising c.in-Some.number c.loop-number.next
    named.0 named.1 c.loop-number.invariant.0

pub loop-number-preserved : goal.loop-number-preserved
loop-number-preserved c =
    let w = c.args.words.now in
    let links = c.args.self.now.links in
    let x = a_pair c.args.pair.origin c.args.pair.block in
    let k = c.in-Some.number in
    let named = c.in-Some.ensures in
    let on = tells w x k _ c.eq.result named.0 c.of.ensures c.eq.ensures ∙ ap not c.if-eq.false in (
      link_within w links c.requires.rising (k - 1),
      λ n s. c.loop-number.invariant.1 n (subst (λ (z : ℕ). Seeks w links x z n) named.1 (goes on s)),
    )

pub returns : goal.returns
returns c =
    let w = c.args.words.now in
    let links = c.args.self.now.links in
    let x = a_pair c.args.pair.origin c.args.pair.block in
    c.loop-number.invariant.1 0 (subst (λ (z : ℕ). Seeks w links x z 0) (sym c.in_default.ensures) (ends (none w x)))
