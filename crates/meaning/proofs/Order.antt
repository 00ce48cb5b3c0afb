-- The same order everywhere. One page; what stays true of a node and its list stands in OrderNodes, the table in OrderTable.
--
-- Document 02, T-04: "The repair planner acts on findings in sequence. .. For any two nodes, one's delivered list must be a beginning of the
-- other's."
--
-- How to read it. `run Vectors n es` is what the list of events `es` makes of a fresh table of n nodes with vectors, the plain account of demand 3
-- beside it (specs/Account.antt); on columns every delivery is refused. `order_of n es p` (specs/Order.antt) is node p's delivered list, all its
-- deliveries one after the other: at each accepted delivery of p, what `given` says, which is what the code's contract says is written into the lent
-- list. `in_order` is the list by timestamp and then origin. Any list of steps, also wrong ones: a refused delivery gives nothing and leaves the mark.
use mathlib.Core.Path.{◌≡◌, sym, ap, ◌∙◌}
use mathlib.Core.Bool.{Bool, true, false, ◌&&◌}
use mathlib.Core.Logic.{◌⊎◌, inl, inr}
use mathlib.Core.List.{List, ◌++◌, Nodup}
use Prim.Native.Nat.{ℕ, ◌≤◌, ◌<◌}
use native.Mathlib.Omega.{arith}
use native.Mathlib.Decide.{dec_le}
use lib.Dec.{leb, ltb}
use borrow.Author.Tests.{leb-true, leb-false, ltb-true, le-leb, lt-ltb}
use Rattle.meaning.specs.declared.Record.{Record}
use Rattle.meaning.specs.Rows.{keep, covers, due, in_order}
use Rattle.meaning.specs.Table.{Vectors, mark, node}
use Rattle.meaning.specs.Account.{has, Event, run}
use Rattle.meaning.specs.Order.{order_of}
use Rattle.meaning.proofs.RowLaws.{and_left, and_right, and_both}
use Rattle.meaning.proofs.AccountLaws.{by_test, not_both, has-append, has-keep, once_keep}
use Rattle.meaning.proofs.OrderLaws.{before_time, Rising, has-in_order, rising_append, rising_in_order, rising_once, rising_one}
use Rattle.meaning.proofs.OrderTable.{ordered_run}

-- the records with a timestamp at most a mark
abbrev pub up_to : ℕ → List Record → List Record
up_to high rs = keep (λ r. leb r.timestamp high) rs

module _ (n : ℕ) (least : 2 ≤ n) (most : n ≤ 16) (es : List Event) where
  abbrev written : List Record
  written = (run Vectors n es).account.written

  abbrev mark_of : ℕ → ℕ
  mark_of p = mark (run Vectors n es).table p

  -- written records that a test keeps rise when in order
  rising_kept : (f : Record → Bool) → Rising (in_order (keep f written))
  rising_kept f =
      let whole = (ordered_run n least most es).sure.whole in
      let inside : (r : Record) → has r (keep f written) ≡ true → has r written ≡ true =
      λ r a. and_left (has r written) (f r) (sym (has-keep f r written) ∙ a) in
      rising_in_order (keep f written) (once_keep f written whole.once) (λ r s a b. whole.stamped.single r s (inside r a) (inside s b))

  -- THE ORDER. Each node's delivered list is the written records with a timestamp at most its mark, by timestamp and then origin.
  pub delivered_order : (p : ℕ) → p < n → order_of n es p ≡ in_order (up_to (mark_of p) written)
  delivered_order p h =
      let t = (ordered_run n least most es).tells p h in
      rising_one (order_of n es p) (in_order (up_to (mark_of p) written)) t.rises (rising_kept (λ r. leb r.timestamp (mark_of p)))
      (λ r. t.exact r ∙ sym (has-in_order r (up_to (mark_of p) written) ∙ has-keep (λ s. leb s.timestamp (mark_of p)) r written))

  -- with a later mark, the list goes on with what was written between the two
  goes_on : (low high : ℕ) → low ≤ high → in_order (up_to low written) ++ in_order (due low high written) ≡ in_order (up_to high written)
  unfolding due
  goes_on low high up =
      let first = up_to low written in
      let rest = due low high written in
      let in_first : (r : Record) → has r (in_order first) ≡ has r written && leb r.timestamp low =
      λ r. has-in_order r first ∙ has-keep (λ s. leb s.timestamp low) r written
      in
      let in_rest : (r : Record) → has r (in_order rest) ≡ has r written && (ltb low r.timestamp && leb r.timestamp high) =
      λ r. has-in_order r rest ∙ has-keep (λ s. ltb low s.timestamp && leb s.timestamp high) r written
      in
      rising_one (in_order first ++ in_order rest) (in_order (up_to high written))
      (rising_append (in_order first) (in_order rest) (rising_kept (λ s. leb s.timestamp low))
      (rising_kept (λ s. ltb low s.timestamp && leb s.timestamp high))
      (λ r s a b.
      let c = leb-true r.timestamp low (and_right (has r written) _ (sym (in_first r) ∙ a)) in
      let d = and_right (has s written) (ltb low s.timestamp && leb s.timestamp high) (sym (in_rest s) ∙ b) in
      before_time r s (omega (arith, ltb-true low s.timestamp (and_left (ltb low s.timestamp) (leb s.timestamp high) d)))))
      (rising_kept (λ s. leb s.timestamp high))
      (λ r.
      let a = has-append r (in_order first) (in_order rest) in
      let b = in_first r in
      let c = in_rest r in
      let d = has-in_order r (up_to high written) ∙ has-keep (λ s. leb s.timestamp high) r written in
      by_test (has r written)
      (λ w.
      by_test (leb r.timestamp low)
      (λ e.
      let f = leb-true r.timestamp low e in
      let g = le-leb r.timestamp high (omega arith) in
      cc)
      (λ e.
      let g = lt-ltb low r.timestamp (leb-false r.timestamp low e) in
      cc))
      (λ w. cc))

  -- "For any two nodes, one's delivered list must be a beginning of the other's": with some rest put after it, it is the other's
  pub same_order :
      (p q : ℕ) → p < n → q < n →
      ((rest : List Record) × (order_of n es p ++ rest ≡ order_of n es q)) ⊎ ((rest : List Record) × (order_of n es q ++ rest ≡ order_of n es p))
  same_order p q h j = go (dec_le (mark_of p) (mark_of q))
    where
      onwards : (p q : ℕ) → p < n → q < n → mark_of p ≤ mark_of q → (rest : List Record) × (order_of n es p ++ rest ≡ order_of n es q)
      onwards p q h j up =
          let rest = in_order (due (mark_of p) (mark_of q) written) in (
            rest,
            ap (λ (l : List Record). l ++ rest) (delivered_order p h) ∙ goes_on (mark_of p) (mark_of q) up ∙ sym (delivered_order q j),
          )

      go : Dec (mark_of p ≤ mark_of q) →
          ((rest : List Record) × (order_of n es p ++ rest ≡ order_of n es q)) ⊎ ((rest : List Record) × (order_of n es q ++ rest ≡ order_of n es p))
      go (yes up) = inl (onwards p q h j up)
      go (no down) = inr (onwards q p j h (omega arith))

  -- no record is delivered twice
  pub delivered_once : (p : ℕ) → p < n → Nodup (order_of n es p)
  delivered_once p h = rising_once (order_of n es p) ((ordered_run n least most es).tells p h).rises

  -- nothing leaves a log before it is delivered there: a record of a node's account that its log no longer holds is in its delivered list
  pub delivered_before_purged :
      (p : ℕ) → p < n → (r : Record) → has r ((run Vectors n es).account.of p) ≡ true → has r (node (run Vectors n es).table p).log ≡ false →
      has r (order_of n es p) ≡ true
  delivered_before_purged p h r a gone =
      let t = (ordered_run n least most es).tells p h in
      let kept = ((ordered_run n least most es).sure.whole.holds p h).kept in
      let w = and_left (has r written) (covers (node (run Vectors n es).table p).summary r) (sym (kept.exact r) ∙ a) in
      by_test (leb r.timestamp (mark_of p))
      (λ e. t.exact r ∙ and_both (has r written) (leb r.timestamp (mark_of p)) w e)
      (λ e. not_both (has r (node (run Vectors n es).table p).log) (t.above r a (leb-false r.timestamp (mark_of p) e)) gone)

  -- and what is delivered was written, word for word
  pub delivered_written : (p : ℕ) → p < n → (r : Record) → has r (order_of n es p) ≡ true → has r (run Vectors n es).account.written ≡ true
  delivered_written p h r a = and_left (has r written) (leb r.timestamp (mark_of p)) (sym (((ordered_run n least most es).tells p h).exact r) ∙ a)
