-- What stays true of one node and its account, relative to what the cluster has written and summed up so far: the invariant of demand 3.
-- It takes the node apart from the world, so that the starting values of a session have it in the world after the session, and a session
-- needs no world in between. A new action shows `Grows` of its two worlds and, of each node that it changes, the facts of one of the records
-- `Reading`, `Learning`, `Raising`, `Taking`, `Writing`, `Dropping`; every other node has `kept-grows` and `acked-grows`. No proof here then moves.
use mathlib.Core.Path.{◌≡◌, sym, ap, ◌∙◌, subst}
use mathlib.Core.Bool.{true, false, not, ◌&&◌, ◌||◌}
use mathlib.Core.Logic.{◌≢◌}
use mathlib.Core.List.Sublistᴰ
use mathlib.Core.List.{List, [], ◌∷◌, ◌++◌, Nodup, Sublistᴰ, Pairwise-singleton}
use Prim.Native.Nat.{ℕ, ◌≤◌, ◌<◌, max}
use native.Mathlib.Omega.{arith}
use lib.ListN.{length}
use lib.Dec.{eqb}
use borrow.Author.Tests.{eqb-true, eqb-false}
use Rattle.meaning.specs.declared.Record.{Record}
use Rattle.meaning.specs.Rows.{covers, newer}
use Rattle.meaning.specs.Account.{same_record, has, lacking}
use Rattle.meaning.proofs.RowLaws.{and_left}
use Rattle.meaning.proofs.AccountLaws.{
  by_test,
  not_both,
  same_eq,
  has-append,
  has_one,
  sublist_has,
  has-lacking,
  once_lacking,
  keep_same,
  once_append,
  entry,
  covers_le,
  le_covers,
  lt_covers,
  covers_same,
  covers-max,
}

-- What a node is measured against: all that was written, and every node's summary.
pub record World : Type 0 where
  pub written : List Record
  pub summary : ℕ → List ℕ

-- Every written record names a node below n, its timestamp is at most its writer's own summary entry, and it is the only one of that writer
-- with that timestamp.
pub record Stamped (n : ℕ) (w : World) : Type 0 where
  pub origin : (r : Record) → has r w.written ≡ true → r.origin < n
  pub reached : (r : Record) → has r w.written ≡ true → r.timestamp ≤ entry (w.summary r.origin) r.origin
  pub single : (r s : Record) → has r w.written ≡ true → has s w.written ≡ true → r.origin ≡ s.origin → r.timestamp ≡ s.timestamp → r ≡ s

-- What a step may do to the world: nothing written is forgotten, no summary entry goes down, and a record written anew has a timestamp above
-- its writer's own entry before and not above it afterwards; of one writer and timestamp, a step writes at most one.
pub record Grows (n : ℕ) (w v : World) : Type 0 where
  pub written : (r : Record) → has r w.written ≡ true → has r v.written ≡ true
  pub summary : (q o : ℕ) → q < n → entry (w.summary q) o ≤ entry (v.summary q) o
  pub origin : (r : Record) → has r w.written ≡ false → has r v.written ≡ true → r.origin < n
  pub later : (r : Record) → has r w.written ≡ false → has r v.written ≡ true → entry (w.summary r.origin) r.origin < r.timestamp
  pub reached : (r : Record) → has r w.written ≡ false → has r v.written ≡ true → r.timestamp ≤ entry (v.summary r.origin) r.origin
  pub single : (r s : Record) → has r w.written ≡ false → has r v.written ≡ true → has s w.written ≡ false → has s v.written ≡ true →
      r.origin ≡ s.origin → r.timestamp ≡ s.timestamp → r ≡ s

-- A node's summary, its log and its account in a world of n nodes: demand 3 at this node, and what carries it.
pub record Kept (n : ℕ) (w : World) (summary : List ℕ) (log account : List Record) : Type 0 where
  -- the summary has n entries, and none is ahead of the own entry of the node that it is for
  pub wide : length summary ≡ n
  pub behind : (o : ℕ) → o < n → entry summary o ≤ entry (w.summary o) o
  -- the account is exactly the written records that the summary covers, each once
  pub exact : (r : Record) → has r account ≡ has r w.written && covers summary r
  pub once : Nodup account
  -- the log is the account less some records, each of which every node's summary covers
  pub less : Sublistᴰ log account
  pub known : (r : Record) → has r account ≡ true → has r log ≡ false → (q : ℕ) → q < n → covers (w.summary q) r ≡ true

-- What a node knows: of q and o, a number that is at most q's summary entry for o. This is what makes the purge right. On vectors it is the
-- acknowledgement of q, whatever o; on columns it is the entry for o of the column of q.
pub record Acked (n : ℕ) (w : World) (known : ℕ → ℕ → ℕ) : Type 0 where
  pub reached : (q o : ℕ) → q < n → o < n → known q o ≤ entry (w.summary q) o

-- The world grows -------------------------------------------------------------------------------------------------------------------------

pub stamped_grows : (n : ℕ) (w v : World) → Grows n w v → Stamped n w → Stamped n v
stamped_grows n w v g k =
    record {
      origin = λ r h. by_test (has r w.written) (λ p. k.origin r p) (λ p. g.origin r p h);
      reached = λ r h.
          by_test (has r w.written)
          (λ p. omega (arith, k.reached r p, g.summary r.origin r.origin (k.origin r p)))
          (λ p. g.reached r p h);
      single = λ r s h i o t.
          by_test (has r w.written)
          (λ p.
          by_test (has s w.written)
          (λ q. k.single r s p q o t)
          (λ q. absurd (later r s p q i o t)))
          (λ p.
          by_test (has s w.written)
          (λ q. absurd (later s r q p h (sym o) (sym t)))
          (λ q. g.single r s p h q i o t));
    }
  where
    -- an old record and a new one never have one writer and one timestamp
    later : (r s : Record) → has r w.written ≡ true → has s w.written ≡ false → has s v.written ≡ true → r.origin ≡ s.origin →
        r.timestamp ≡ s.timestamp → ⊥
    later r s p q i o t =
        let a : r.timestamp ≤ entry (w.summary s.origin) s.origin = rw o at (k.reached r p) in
        omega (arith, g.later s q i)

-- a node that a step leaves alone
pub kept_grows : (n : ℕ) (w v : World) → Grows n w v → (s : List ℕ) (log l : List Record) → Kept n w s log l → Kept n v s log l
kept_grows n w v g s log l k =
    record {
      wide = k.wide;
      behind = λ o h. omega (arith, k.behind o h, g.summary o o h);
      exact = exact;
      once = k.once;
      less = k.less;
      known = λ r a b q h.
          let c = covers_le (w.summary q) r (k.known r a b q h) in
          le_covers (v.summary q) r (omega (arith, g.summary q r.origin h));
    }
  where
    exact : (r : Record) → has r l ≡ has r v.written && covers s r
    exact r =
        let e = k.exact r in
        by_test (has r w.written)
        (λ p. let q = g.written r p in cc)
        (λ p.
        by_test (has r v.written)
        (λ q.
        let u = k.behind r.origin (g.origin r p q) in
        let c : covers s r ≡ false = lt_covers s r (omega (arith, g.later r p q)) in
        cc)
        (λ q. cc))

pub acked_grows : (n : ℕ) (w v : World) → Grows n w v → (known : ℕ → ℕ → ℕ) → Acked n w known → Acked n v known
acked_grows n w v g known k = record { reached = λ q o h j. omega (arith, k.reached q o h j, g.summary q o h) }

-- What a step may do to one node -------------------------------------------------------------------------------------------------------------------

-- The own entry p of a summary becomes a reading that is no less and that the world's summary of p has reached; every other entry stays.
pub record Reading (n : ℕ) (w : World) (p : ℕ) (s s' : List ℕ) : Type 0 where
  pub wide : length s' ≡ n
  pub others : (o : ℕ) → (o ≡ p → ⊥) → entry s' o ≡ entry s o
  pub up : entry s p ≤ entry s' p
  pub top : entry s' p ≤ entry (w.summary p) p

-- What a node knows afterwards is no more than what it knew, what a partner knew, or what the world's summary of that node has.
pub record Learning (n : ℕ) (w : World) (known theirs known' : ℕ → ℕ → ℕ) : Type 0 where
  pub most : (q o : ℕ) → q < n → o < n → known' q o ≤ max (max (known q o) (theirs q o)) (entry (w.summary q) o)

-- A row takes, entry by entry, the greater of its own and a partner's.
pub record Raising (n : ℕ) (s t s' : List ℕ) : Type 0 where
  pub wide : length s' ≡ n
  pub greater : (o : ℕ) → entry s' o ≡ max (entry s o) (entry t o)

-- A log takes from a partner: all that the partner held and the own account l lacked is held, nothing held is lost, and the order is the account's.
pub record Taking (log theirs log' l m : List Record) : Type 0 where
  pub takes : (r : Record) → has r theirs ≡ true → has r l ≡ false → has r log' ≡ true
  pub keeps : (r : Record) → has r log ≡ true → has r log' ≡ true
  pub order : Sublistᴰ log' (l ++ lacking l m)

-- The writer's own entry becomes the record's timestamp, and the record goes last in its log.
pub record Writing (n : ℕ) (r : Record) (s s' : List ℕ) (log log' : List Record) : Type 0 where
  pub wide : length s' ≡ n
  pub others : (o : ℕ) → (o ≡ r.origin → ⊥) → entry s' o ≡ entry s o
  pub own : entry s' r.origin ≡ r.timestamp
  pub last : log' ≡ log ++ (r ∷ [])

-- Records leave a log, the rest in their order, and every node's summary covers each that leaves.
pub record Dropping (n : ℕ) (w : World) (log log' : List Record) : Type 0 where
  pub order : Sublistᴰ log' log
  pub gone : (r : Record) → has r log ≡ true → has r log' ≡ false → (q : ℕ) → q < n → covers (w.summary q) r ≡ true

-- Each of these keeps the invariant ------------------------------------------------------------------------------------------------------------

-- nothing more is covered by a reading, since all that p wrote was covered already
pub kept_reading : (n : ℕ) (w : World) (p : ℕ) (s s' : List ℕ) (log l : List Record) → Reading n w p s s' →
    ((r : Record) → has r w.written ≡ true → r.origin ≡ p → r.timestamp ≤ entry s p) → Kept n w s log l → Kept n w s' log l
kept_reading n w p s s' log l f all k =
    record {
      wide = f.wide;
      behind = behind;
      exact = exact;
      once = k.once;
      less = k.less;
      known = k.known;
    }
  where
    behind : (o : ℕ) → o < n → entry s' o ≤ entry (w.summary o) o
    behind o h =
        by_test (eqb o p)
        (λ e. subst (λ (i : ℕ). entry s' i ≤ entry (w.summary i) i) (sym (eqb-true o p e)) f.top)
        (λ e. omega (arith, f.others o (eqb-false o p e), k.behind o h))

    exact : (r : Record) → has r l ≡ has r w.written && covers s' r
    exact r =
        let e = k.exact r in
        by_test (eqb r.origin p)
        (λ o.
        let q = eqb-true r.origin p o in
        by_test (has r w.written)
        (λ h.
        let t = all r h q in
        let a : covers s r ≡ true = le_covers s r (rw q t) in
        let b : covers s' r ≡ true = le_covers s' r (rw q (omega (arith, f.up))) in
        cc)
        (λ h. cc))
        (λ o.
        let g = covers_same s' s r (f.others r.origin (eqb-false r.origin p o)) in
        cc)

pub acked_learning :
    (n : ℕ) (w : World) (known theirs known' : ℕ → ℕ → ℕ) → Learning n w known theirs known' → Acked n w known → Acked n w theirs → Acked n w known'
acked_learning n w known theirs known' f mine other =
    record { reached = λ q o h j. omega (arith, f.most q o h j, mine.reached q o h j, other.reached q o h j) }

-- A side that finishes: its account gains what the partner's held and it lacked.
pub kept_taking : (n : ℕ) (w : World) (s t s' : List ℕ) (log theirs log' l m : List Record) → Raising n s t s' → Taking log theirs log' l m →
    Kept n w s log l → Kept n w t theirs m → Kept n w s' log' (l ++ lacking l m)
kept_taking n w s t s' log theirs log' l m f g mine other =
    record {
      wide = f.wide;
      behind = λ o h. omega (arith, f.greater o, mine.behind o h, other.behind o h);
      exact = exact;
      once = once_append l (lacking l m) mine.once (once_lacking l m other.once) apart;
      less = g.order;
      known = known;
    }
  where
    apart : (r : Record) → has r l ≡ true → has r (lacking l m) ≡ false
    apart r h = let a = has-lacking r l m in by_test (has r m) (λ p. cc) (λ p. cc)

    exact : (r : Record) → has r (l ++ lacking l m) ≡ has r w.written && covers s' r
    exact r =
        let a = has-append r l (lacking l m) in
        let b = has-lacking r l m in
        let c = mine.exact r in
        let d = other.exact r in
        let e = covers-max s t s' r (f.greater r.origin) in
        by_test (has r w.written)
        (λ h. by_test (covers s r) (λ p. cc) (λ p. by_test (covers t r) (λ q. cc) (λ q. cc)))
        (λ h. cc)

    known : (r : Record) → has r (l ++ lacking l m) ≡ true → has r log' ≡ false → (q : ℕ) → q < n → covers (w.summary q) r ≡ true
    known r h i q j =
        by_test (has r l)
        (λ p. mine.known r p (by_test (has r log) (λ z. not_both (has r log') (g.keeps r z) i) (λ z. z)) q j)
        (λ p.
        let d = has-append r l (lacking l m) in
        let e = has-lacking r l m in
        let u : has r m ≡ true = by_test (has r m) (λ x. x) (λ x. cc) in
        other.known r u (by_test (has r theirs) (λ z. not_both (has r log') (g.takes r z p) i) (λ z. z)) q j)

-- A write: the writer's summary was the world's for it, and the record is the one that the world gains.
pub kept_writing : (n : ℕ) (w v : World) (r : Record) (s' : List ℕ) (log log' l : List Record) → Grows n w v → Stamped n w →
    entry (w.summary r.origin) r.origin < r.timestamp → r.timestamp ≤ entry (v.summary r.origin) r.origin →
    ((x : Record) → has x v.written ≡ has x w.written || same_record x r) → Writing n r (w.summary r.origin) s' log log' →
    Kept n w (w.summary r.origin) log l → Kept n v s' log' (l ++ (r ∷ []))
kept_writing n w v r s' log log' l g stamped later top gained f k =
    record {
      wide = f.wide;
      behind = behind;
      exact = exact;
      once = once_append l (r ∷ []) k.once (Pairwise-singleton (λ (a b : Record). a ≢ b) r) apart;
      less = rw f.last (Sublistᴰ.append k.less (Sublistᴰ.refl (r ∷ [])));
      known = known;
    }
  where
    behind : (o : ℕ) → o < n → entry s' o ≤ entry (v.summary o) o
    behind o h =
        by_test (eqb o r.origin)
        (λ e. subst (λ (i : ℕ). entry s' i ≤ entry (v.summary i) i) (sym (eqb-true o r.origin e)) (omega (arith, f.own)))
        (λ e. omega (arith, f.others o (eqb-false o r.origin e), k.behind o h, g.summary o o h))

    new : has r w.written ≡ false
    new = by_test (has r w.written) (λ h. absurd (omega (arith, stamped.reached r h))) (λ h. h)

    exact : (x : Record) → has x (l ++ (r ∷ [])) ≡ has x v.written && covers s' x
    exact x =
        let a = has-append x l (r ∷ []) in
        let b = has_one x r in
        let d = gained x in
        let e = k.exact x in
        by_test (same_record x r)
        (λ h.
        let y = same_eq x r h in
        let u : covers s' r ≡ true = le_covers s' r (omega (arith, f.own)) in
        by_test (has x w.written) (λ i. by_test (has x l) (λ j. cc) (λ j. cc)) (λ i. cc))
        (λ h.
        by_test (has x w.written)
        (λ i.
        by_test (eqb x.origin r.origin)
        (λ o.
        let q = eqb-true x.origin r.origin o in
        let y : x.timestamp ≤ entry (w.summary r.origin) r.origin = rw q at (stamped.reached x i) in
        let z : covers (w.summary r.origin) x ≡ true = le_covers (w.summary r.origin) x (rw q y) in
        let u : covers s' x ≡ true = le_covers s' x (rw q (omega (arith, f.own))) in
        cc)
        (λ o.
        let z = covers_same s' (w.summary r.origin) x (f.others x.origin (eqb-false x.origin r.origin o)) in
        by_test (has x l) (λ j. cc) (λ j. cc)))
        (λ i. cc))

    apart : (x : Record) → has x l ≡ true → has x (r ∷ []) ≡ false
    apart x h =
        let a = has_one x r in
        let e = k.exact x in
        by_test (same_record x r) (λ y. let q = same_eq x r y in let z = new in cc) (λ y. cc)

    known : (x : Record) → has x (l ++ (r ∷ [])) ≡ true → has x log' ≡ false → (q : ℕ) → q < n → covers (v.summary q) x ≡ true
    known x h i q j =
        let a = ap (has x) f.last ∙ has-append x log (r ∷ []) in
        let b : has x log ≡ false = by_test (has x log) (λ z. cc) (λ z. z) in
        let d : has x (r ∷ []) ≡ false = cc in
        let e = has-append x l (r ∷ []) in
        let u : has x l ≡ true = by_test (has x l) (λ y. y) (λ y. cc) in
        let y = covers_le (w.summary q) x (k.known x u b q j) in
        le_covers (v.summary q) x (omega (arith, g.summary q x.origin j))

pub kept_dropping : (n : ℕ) (w : World) (s : List ℕ) (log log' l : List Record) → Dropping n w log log' → Kept n w s log l → Kept n w s log' l
kept_dropping n w s log log' l f k =
    record {
      wide = k.wide;
      behind = k.behind;
      exact = k.exact;
      once = k.once;
      less = Sublistᴰ.trans f.order k.less;
      known = λ r h i q j. by_test (has r log) (λ p. f.gone r p i q j) (λ p. k.known r h p q j);
    }

-- What follows of a log and of an account ----------------------------------------------------------------------------------------------------------

-- what a log holds was written
pub log_written : (n : ℕ) (w : World) (s : List ℕ) (log l : List Record) (r : Record) → Kept n w s log l → has r log ≡ true → has r w.written ≡ true
log_written n w s log l r k h =
    let a = sublist_has log l r k.less h in
    let e = k.exact r in
    and_left (has r w.written) (covers s r) (sym e ∙ a)

-- of the partner's account, the own one lacks exactly what the own summary does not cover
pub lacking-newer : (n : ℕ) (w : World) (s t : List ℕ) (log theirs l m : List Record) → Kept n w s log l → Kept n w t theirs m → lacking l m ≡ newer s m
unfolding lacking newer
lacking-newer n w s t log theirs l m mine other =
    keep_same (λ r. not (has r l)) (λ r. not (covers s r)) m
    (λ r h.
    let a = other.exact r in
    let b = and_left (has r w.written) (covers t r) (sym a ∙ h) in
    let c = mine.exact r in
    cc)
