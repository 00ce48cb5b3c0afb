-- What stays true of one node and its delivered list, beside the invariant of demand 3: what carries the order. A wrong delivery, or a purge of
-- what was not yet delivered, is refused here.
use mathlib.Core.Path.{◌≡◌, sym, ◌∙◌}
use mathlib.Core.Bool.{Bool, true, false, ◌&&◌}
use mathlib.Core.List.Pairwise
use mathlib.Core.List.{List, [], ◌∷◌, ◌++◌, Nodup}
use Prim.Native.Nat.{ℕ, ◌≤◌, ◌<◌, max}
use native.Mathlib.Omega.{arith}
use lib.Seq.{get_or-set_other}
use lib.Dec.{leb, ltb, eqb}
use borrow.Author.Tests.{leb-true, leb-false, ltb-true, le-leb, lt-leb, lt-ltb, le-ltb, eqb-true, eqb-false}
use Rattle.meaning.specs.declared.Record.{Record}
use Rattle.meaning.specs.Rows.{least, covers, due}
use Rattle.meaning.specs.Table.{Form, Node}
use Rattle.meaning.specs.Node.{wrote, opened, sent, finished, ended, purged, waiting, given, raised}
use Rattle.meaning.specs.Account.{same_record, has, lacking, Account}
use Rattle.meaning.proofs.RowLaws.{and_left, and_right, and_both}
use Rattle.meaning.proofs.AccountLaws.{
  by_test,
  not_both,
  same_eq,
  has-append,
  has_one,
  has-keep,
  has-lacking,
  has-newer,
  once_keep,
  keep_gone,
  entry,
  least_le,
  le_covers,
  lt_covers,
  not_covers_lt,
}
use Rattle.meaning.proofs.AccountInvariant.{log_written}
use Rattle.meaning.proofs.AccountSteps.{Whole, taken}
use Rattle.meaning.proofs.OrderLaws.{before_time, Rising, has-in_order, rising_append, rising_in_order}

-- A mark, its node, account and delivered list among n nodes that have written so much.
pub record Told (n : ℕ) (written : List Record) (mark : ℕ) (x : Node) (account list : List Record) : Type 0 where
  -- the mark is at most every entry of the summary
  pub low : (o : ℕ) → o < n → mark ≤ entry x.summary o
  -- the list rises, and has exactly the written records with a timestamp at most the mark
  pub rises : Rising list
  pub exact : (r : Record) → has r list ≡ has r written && leb r.timestamp mark
  -- a record of the account above the mark has not left the log
  pub above : (r : Record) → has r account ≡ true → mark < r.timestamp → has r x.log ≡ true

-- a node with the same mark, no lower entry, and a log that has what its account has above the mark
pub told_same :
    (n : ℕ) (w : List Record) (mark : ℕ) (x y : Node) (l m list : List Record) → ((o : ℕ) → entry x.summary o ≤ entry y.summary o) →
    ((r : Record) → has r m ≡ true → mark < r.timestamp → has r y.log ≡ true) → Told n w mark x l list → Told n w mark y m list
told_same n w mark x y l m list up held k =
    record { low = λ o h. omega (arith, k.low o h, up o); rises = k.rises; exact = k.exact; above = held }

-- a record is written with a timestamp above the mark
pub told_more :
    (n : ℕ) (w : List Record) (r : Record) (mark : ℕ) (x : Node) (l list : List Record) → mark < r.timestamp → Told n w mark x l list →
    Told n (w ++ (r ∷ [])) mark x l list
told_more n w r mark x l list later k = record { low = k.low; rises = k.rises; exact = exact; above = k.above }
  where
    exact : (s : Record) → has s list ≡ has s (w ++ (r ∷ [])) && leb s.timestamp mark
    exact s =
        let a = has-append s w (r ∷ []) in
        let b = has_one s r in
        let c = k.exact s in
        by_test (same_record s r)
        (λ e.
        let f = same_eq s r e in
        let d : leb s.timestamp mark ≡ false = rw f (lt-leb r.timestamp mark later) in
        by_test (has s w) (λ h. cc) (λ h. cc))
        (λ e. by_test (has s w) (λ h. cc) (λ h. cc))

module _ (form : Form) (n : ℕ) (nodes : ℕ → Node) (x : Account) (k : Whole form n nodes x) where
  -- no mark is above a writer's own entry, so nothing written later falls at or below one
  pub mark_behind : (p q mark : ℕ) → p < n → q < n → (l list : List Record) → Told n x.written mark (nodes q) l list → mark ≤ entry (nodes p).summary p
  mark_behind p q mark h j l list t = omega (arith, t.low p h, (k.holds q j).kept.behind p h)

  -- Write: the writer itself
  pub told_wrote :
      (p c b v : ℕ) (w : List Record) (mark : ℕ) (list : List Record) →
      ((o : ℕ) → entry (nodes p).summary o ≤ entry (wrote p c b v (nodes p)).summary o) → Told n w mark (nodes p) (x.of p) list →
      Told n w mark (wrote p c b v (nodes p)) (x.of p ++ (record { origin = p; timestamp = c; block = b; verdict = v } ∷ [])) list
  unfolding wrote
  told_wrote p c b v w mark list up t =
      let new : Record = record { origin = p; timestamp = c; block = b; verdict = v } in
      told_same n w mark (nodes p) (wrote p c b v (nodes p)) (x.of p) (x.of p ++ (new ∷ [])) list up
      (λ r h later.
      let a = has-append r (x.of p) (new ∷ []) in
      let d = has-append r (nodes p).log (new ∷ []) in
      by_test (has r (nodes p).log)
      (λ e. cc)
      (λ e. by_test (has r (x.of p)) (λ f. not_both (has r (nodes p).log) (t.above r f later) e) (λ f. cc)))
      t

  -- Session: a record that the own account lacks is newer than the own starting summary
  opened_misses : (p c : ℕ) → p < n → (r : Record) → has r x.written ≡ true → has r (x.of p) ≡ false → covers (opened p c (nodes p)).summary r ≡ false
  unfolding opened
  opened_misses p c h r w gone =
      let e = (k.holds p h).kept.exact r in
      let lt = not_covers_lt (nodes p).summary r (cc) in
      by_test (eqb r.origin p)
      (λ o.
      let q = eqb-true r.origin p o in
      let top = k.stamped.reached r w in
      absurd (let top' = rw q at top in let lt' = rw q at lt in omega arith))
      (λ o. lt_covers _ r (omega (arith, get_or-set_other (nodes p).summary p r.origin c 0 (eqb-false r.origin p o))))

  -- so what its account gains, its log gains
  pub told-ended :
      (f : Bool) (a b ca cb mark : ℕ) → a < n → b < n → (list : List Record) →
      ((o : ℕ) → entry (nodes a).summary o ≤ entry (ended f a (opened a ca (nodes a)) (opened b cb (nodes b))).summary o) →
      Told n x.written mark (nodes a) (x.of a) list →
      Told n x.written mark (ended f a (opened a ca (nodes a)) (opened b cb (nodes b))) (taken f (x.of a) (x.of b)) list
  unfolding finished opened
  told-ended true a b ca cb mark ha hb list up t =
      let mine = opened a ca (nodes a) in
      let theirs = opened b cb (nodes b) in
      told_same n x.written mark (nodes a) (finished a mine theirs) (x.of a) (x.of a ++ lacking (x.of a) (x.of b)) list up
      (λ r h later.
      let log = has-append r (nodes a).log (sent mine theirs) in
      by_test (has r (x.of a))
      (λ e. let f = t.above r e later in cc)
      (λ e.
      let all = has-append r (x.of a) (lacking (x.of a) (x.of b)) in
      let lacked = has-lacking r (x.of a) (x.of b) in
      let theirs_has : has r (x.of b) ≡ true = by_test (has r (x.of b)) (λ y. y) (λ y. cc) in
      let exact = (k.holds b hb).kept.exact r in
      let w = and_left (has r x.written) (covers (nodes b).summary r) (sym exact ∙ theirs_has) in
      by_test (has r (nodes b).log)
      (λ g.
      let new = has-newer r mine.summary (nodes b).log in
      let misses = opened_misses a ca ha r w e in
      by_test (has r (nodes a).log) (λ y. cc) (λ y. cc))
      (λ g.
      let c = (k.holds b hb).kept.known r theirs_has g a ha in
      let own = (k.holds a ha).kept.exact r in
      not_both (has r (x.of a)) (own ∙ and_both (has r x.written) (covers (nodes a).summary r) w c) e)))
      t
  told-ended false a b ca cb mark ha hb list up t =
      told_same n x.written mark (nodes a) (opened a ca (nodes a)) (x.of a) (x.of a) list up t.above t

  -- Purge: only of records that are at most the mark
  pub told-purged :
      (p : ℕ) (leaves : Record → Bool) (mark : ℕ) (list : List Record) → ((r : Record) → leaves r ≡ true → r.timestamp ≤ mark) →
      Told n x.written mark (nodes p) (x.of p) list →
      Told n x.written mark (purged leaves (nodes p)) (x.of p) list
  unfolding purged
  told-purged p leaves mark list low t =
      told_same n x.written mark (nodes p) (purged leaves (nodes p)) (x.of p) (x.of p) list (λ o. omega arith)
      (λ r h later.
      by_test (has r (purged leaves (nodes p)).log)
      (λ e. e)
      (λ e. absurd (omega (arith, later, low r (keep_gone leaves (nodes p).log r (t.above r h later) e)))))
      t

  -- Deliver: what is given is what was written above the mark and not above the smallest entry
  module _ (p mark : ℕ) (h : p < n) (list : List Record) (t : Told n x.written mark (nodes p) (x.of p) list) where
    has-given :
        (r : Record) → has r (given mark (nodes p)) ≡ has r (nodes p).log && (ltb mark r.timestamp && leb r.timestamp (least (nodes p).summary))
    unfolding given waiting due
    has-given r =
        has-in_order r (waiting mark (nodes p)) ∙
        has-keep (λ s. ltb mark s.timestamp && leb s.timestamp (least (nodes p).summary)) r (nodes p).log

    given_log : (r : Record) → has r (given mark (nodes p)) ≡ true → has r (nodes p).log ≡ true
    given_log r a = and_left (has r (nodes p).log) _ (sym (has-given r) ∙ a)

    given_above : (r : Record) → has r (given mark (nodes p)) ≡ true → mark < r.timestamp
    given_above r a =
        let b = ltb mark r.timestamp in
        let c = leb r.timestamp (least (nodes p).summary) in
        ltb-true mark r.timestamp (and_left b c (and_right (has r (nodes p).log) (b && c) (sym (has-given r) ∙ a)))

    given_rises : Rising (given mark (nodes p))
    unfolding given waiting due
    given_rises =
        let kept = (k.holds p h).kept in
        let once : Nodup (nodes p).log = Pairwise.sublistᴰ kept.less kept.once in
        let written : (r : Record) → has r (waiting mark (nodes p)) ≡ true → has r x.written ≡ true =
        λ r a. log_written n _ (nodes p).summary (nodes p).log (x.of p) r kept (given_log r (has-in_order r (waiting mark (nodes p)) ∙ a))
        in
        rising_in_order (waiting mark (nodes p)) (once_keep _ (nodes p).log once) (λ r s a b. k.stamped.single r s (written r a) (written s b))

    -- what is at most the smallest entry has arrived, and what is above the mark has not left
    arrived : (r : Record) → has r x.written ≡ true → mark < r.timestamp → r.timestamp ≤ least (nodes p).summary → has r (nodes p).log ≡ true
    arrived r w later low =
        let kept = (k.holds p h).kept in
        let wide = kept.wide in
        let o = k.stamped.origin r w in
        let c = le_covers (nodes p).summary r (omega (arith, low, least_le (nodes p).summary r.origin (omega arith))) in
        t.above r (kept.exact r ∙ and_both (has r x.written) (covers (nodes p).summary r) w c) later

    given_exact :
        (r : Record) → has r (list ++ given mark (nodes p)) ≡ has r x.written && leb r.timestamp (max mark (least (nodes p).summary))
    given_exact r =
        let high = least (nodes p).summary in
        let stamp = r.timestamp in
        let a = has-append r list (given mark (nodes p)) in
        let b = has-given r in
        let c = t.exact r in
        by_test (leb stamp mark)
        (λ e.
        let f = leb-true stamp mark e in
        let g = le-leb stamp (max mark high) (omega arith) in
        let i = le-ltb mark stamp f in
        by_test (has r x.written) (λ w. cc) (λ w. by_test (has r (nodes p).log) (λ l. cc) (λ l. cc)))
        (λ e.
        let f = leb-false stamp mark e in
        let i = lt-ltb mark stamp f in
        by_test (leb stamp high)
        (λ j.
        let u = leb-true stamp high j in
        let g = le-leb stamp (max mark high) (omega arith) in
        by_test (has r x.written)
        (λ w. let l = arrived r w f u in cc)
        (λ w.
        by_test (has r (nodes p).log)
        (λ l. not_both (has r x.written) (log_written n _ (nodes p).summary (nodes p).log (x.of p) r (k.holds p h).kept l) w)
        (λ l. cc)))
        (λ j.
        let u = leb-false stamp high j in
        let g = lt-leb stamp (max mark high) (omega arith) in
        by_test (has r x.written)
        (λ w. by_test (has r (nodes p).log) (λ l. cc) (λ l. cc))
        (λ w. by_test (has r (nodes p).log) (λ l. cc) (λ l. cc))))

    pub told_delivered : Told n x.written (raised mark (nodes p)) (nodes p) (x.of p) (list ++ given mark (nodes p))
    unfolding raised
    told_delivered =
        record {
          low = λ o j.
              let wide = (k.holds p h).kept.wide in
              omega (arith, t.low o j, least_le (nodes p).summary o (omega arith));
          rises =
              rising_append list (given mark (nodes p)) t.rises given_rises
              (λ r s a b.
              let c = leb-true r.timestamp mark (and_right (has r x.written) _ (sym (t.exact r) ∙ a)) in
              before_time r s (omega (arith, given_above s b)));
          exact = given_exact;
          above = λ r a later. t.above r a (omega (arith, later));
        }
