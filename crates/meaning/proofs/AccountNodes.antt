-- What document 01's actions do to one node is what the account allows: `opened`, `finished`, `wrote` and `purged` have the facts that the invariant
-- of demand 3 names. A wrong action is refused here.
use mathlib.Core.Path.{◌≡◌, refl, sym, ap, ◌∙◌}
use mathlib.Core.Bool.{Bool, true, false, not, ◌&&◌}
use mathlib.Core.List.Sublistᴰ
use mathlib.Core.List.{List, [], ◌++◌, Sublistᴰ}
use Prim.Native.Nat.{ℕ, ◌≤◌, ◌<◌, min, max}
use native.Mathlib.Decide.{dec_lt}
use native.Mathlib.Omega.{arith}
use lib.ListN.{length, get_or, set, length-set, get_or-eq_default}
use lib.Seq.{get_or-set_same, get_or-set_other}
use lib.Dec.{eqb}
use borrow.Author.Tests.{leb-true, eqb-true, eqb-false}
use Rattle.meaning.specs.declared.Record.{Record}
use Rattle.meaning.specs.Rows.{least, raise, covers}
use Rattle.meaning.specs.Table.{Form, Vectors, Columns, acks_wide, columns_wide, Node, Shaped}
use Rattle.meaning.specs.Node.{own, wrote, opened, sent, merged, learnt, finished, purged, limit_of, leaves, know}
use Rattle.meaning.specs.Account.{has, lacking}
use Rattle.meaning.proofs.RowLaws.{length-raise, all_at}
use Rattle.meaning.proofs.StepLaws.{merged_long, column_merged, column_none, column_some, learnt_long}
use Rattle.meaning.proofs.AccountLaws.{
  by_test,
  has-append,
  has-newer,
  keep_sub,
  newer_sublist,
  keep_gone,
  entry,
  least_le,
  raise_entry,
  covers_le,
  le_covers,
}
use Rattle.meaning.proofs.AccountInvariant.{
  World,
  Stamped,
  Kept,
  Acked,
  Reading,
  Learning,
  Raising,
  Taking,
  Writing,
  Dropping,
  lacking-newer,
  log_written,
}

-- an entry that is set to no less never goes down
pub set_up : (s : List ℕ) (p c o : ℕ) → p < length s → entry s p ≤ c → entry s o ≤ entry (set s p c) o
set_up s p c o below up =
    by_test (eqb o p)
    (λ e. rw (eqb-true o p e) (omega (arith, get_or-set_same s p c 0 below)))
    (λ e. omega (arith, get_or-set_other s p o c 0 (eqb-false o p e)))

-- What a node knows where its own column becomes a summary that the world's has reached: that, and of every other node what it knew.
own-known :
    (n : ℕ) (w : World) (cs : List (List ℕ)) (p q o : ℕ) (s : List ℕ) → length cs ≡ n → q < n → entry s o ≤ entry (w.summary p) o →
    entry (get_or (set cs p s) q []) o ≤ max (entry (get_or cs q []) o) (entry (w.summary q) o)
own-known n w cs p q o s long h over =
    by_test (eqb q p)
    (λ e.
    let j : q ≡ p = eqb-true q p e in
    let g : p < length cs = rw j at (let k : q < length cs = omega arith in k) in
    let same = ap (λ (c : List ℕ). entry c o) (get_or-set_same cs p s [] g) in
    rw j (omega arith))
    (λ e. let same = ap (λ (c : List ℕ). entry c o) (get_or-set_other cs p q s [] (eqb-false q p e)) in omega arith)

-- Opening: the own entry is read anew, the own acknowledgement is at most every entry of the summary, and the own column is the summary.
module _ (n : ℕ) (w : World) (p c : ℕ) (x : Node) (below : p < n) (long : length x.summary ≡ n) where
  pub opened_reading : own p x ≤ c → entry (opened p c x).summary p ≤ entry (w.summary p) p → Reading n w p x.summary (opened p c x).summary
  unfolding opened own
  opened_reading up top =
      record {
        wide = length-set x.summary p c ∙ long;
        others = λ o ne. get_or-set_other x.summary p o c 0 ne;
        up = set_up x.summary p c p (omega arith) up;
        top = top;
      }

  pub opened_learning :
      (f : Form) → Shaped f n p x → ((o : ℕ) → entry (opened p c x).summary o ≤ entry (w.summary p) o) →
      Learning n w (know f x) (know f x) (know f (opened p c x))
  unfolding opened know
  opened_learning Vectors fits over =
      let s = set x.summary p c in
      let wide = fits.acks_long in
      let len = length-set x.summary p c in
      record {
        most = λ q o h j.
            by_test (eqb q p)
            (λ e.
            let i : q ≡ p = eqb-true q p e in
            rw i (omega (arith, get_or-set_same x.acks p (least s) 0 (omega arith), least_le s o (omega arith), over o)))
            (λ e. omega (arith, get_or-set_other x.acks p q (least s) 0 (eqb-false q p e)));
      }
  opened_learning Columns fits over =
      record { most = λ q o h j. omega (arith, own-known n w x.columns p q o (set x.summary p c) fits.columns_long h (over o)) }

pub opened_log : (p c : ℕ) (x : Node) → (opened p c x).log ≡ x.log
unfolding opened
opened_log p c x = refl

-- Finishing: what the summary becomes, entry by entry, over the own column before it takes the partner's own.
pub learnt_entry :
    (p : ℕ) (mine theirs : Node) (o : ℕ) → length (get_or (merged mine theirs) p mine.summary) ≡ length theirs.summary →
    entry (learnt p mine theirs) o ≡ max (entry (get_or (merged mine theirs) p mine.summary) o) (entry theirs.summary o)
unfolding learnt
learnt_entry p mine theirs o e = raise_entry (get_or (merged mine theirs) p mine.summary) theirs.summary o e

-- It never lowers a summary entry.
pub finished_up :
    (f : Form) (n p q : ℕ) (mine theirs : Node) → Shaped f n p mine → Shaped f n q theirs → (o : ℕ) →
    entry mine.summary o ≤ entry (finished p mine theirs).summary o
unfolding finished learnt
finished_up f n p q mine theirs fits others o =
    go (dec_lt p (length mine.columns))
  where
    -- the own column, or the summary where there is none
    go : Dec (p < length mine.columns) → entry mine.summary o ≤ entry (raise (get_or (merged mine theirs) p mine.summary) theirs.summary) o
    go (yes h) =
        let c = get_or theirs.columns p [] in
        let lc = others.column_long p (let e = fits.columns_long ∙ sym others.columns_long in omega arith) in
        let some = column_some f n p mine fits q theirs others h in
        let lr = length-raise mine.summary c n fits.summary_long lc in
        let e = ap (λ (s : List ℕ). entry (raise s theirs.summary) o) some in
        let r = raise_entry (raise mine.summary c) theirs.summary o (lr ∙ sym others.summary_long) in
        let i = raise_entry mine.summary c o (fits.summary_long ∙ sym lc) in
        omega arith
    go (no h) =
        let none = column_none f n p mine fits q theirs others (omega arith) in
        let e = ap (λ (s : List ℕ). entry (raise s theirs.summary) o) none in
        let r = raise_entry mine.summary theirs.summary o (fits.summary_long ∙ sym others.summary_long) in
        omega arith

-- Finishing: the summary takes the greater entries, since the partner's column for this node says no more than its own starting summary; what is
-- known is what either knew, or the summary itself; and the log takes what the partner held and the own account lacked.
module _ (n p q : ℕ) (mine theirs : Node) where
  pub finished_summary :
      (f : Form) → Shaped f n p mine → Shaped f n q theirs → p < n → ((o : ℕ) → o < n → know f theirs p o ≤ entry mine.summary o) →
      Raising n mine.summary theirs.summary (finished p mine theirs).summary
  unfolding finished learnt know
  finished_summary Vectors fits others below under =
      let a = fits.summary_long in
      let b = others.summary_long in
      let none = column_none Vectors n p mine fits q theirs others (let l = fits.columns_long in omega arith) in
      record {
        wide = learnt_long Vectors n p mine fits q theirs others;
        greater = λ o. ap (λ (s : List ℕ). entry (raise s theirs.summary) o) none ∙ raise_entry mine.summary theirs.summary o (a ∙ sym b);
      }
  finished_summary Columns fits others below under =
      let a = fits.summary_long in
      let b = others.summary_long in
      let lm = fits.columns_long in
      let lt = others.columns_long in
      let c = get_or theirs.columns p [] in
      let lc = others.column_long p (omega arith) in
      let some = column_some Columns n p mine fits q theirs others (omega arith) in
      let lr = length-raise mine.summary c n a lc in
      record {
        wide = learnt_long Columns n p mine fits q theirs others;
        greater = λ o.
            let e = ap (λ (s : List ℕ). entry (raise s theirs.summary) o) some in
            let r = raise_entry (raise mine.summary c) theirs.summary o (lr ∙ sym b) in
            let i = raise_entry mine.summary c o (a ∙ sym lc) in
            let low = behind o (dec_lt o n) in
            omega arith;
      }
    where
      behind : (o : ℕ) → Dec (o < n) → entry (get_or theirs.columns p []) o ≤ entry mine.summary o
      behind o (yes h) = under o h
      behind o (no h) =
          let lt = others.columns_long in
          let lc = others.column_long p (omega arith) in
          let z = get_or-eq_default (get_or theirs.columns p []) 0 {n = o} (omega arith) in
          omega arith

  pub finished_learning :
      (f : Form) (w : World) → Shaped f n p mine → Shaped f n q theirs →
      ((o : ℕ) → entry (finished p mine theirs).summary o ≤ entry (w.summary p) o) →
      Learning n w (know f mine) (know f theirs) (know f (finished p mine theirs))
  unfolding finished know
  finished_learning Vectors w fits others over =
      record { most = λ i o h j. omega (arith, raise_entry mine.acks theirs.acks i (fits.acks_long ∙ sym others.acks_long)) }
  finished_learning Columns w fits others over =
      record {
        most = λ i o h j.
            let lm = fits.columns_long in
            let lt = others.columns_long in
            let long = merged_long Columns n p mine fits q theirs others in
            let own = own-known n w (merged mine theirs) p i o (learnt p mine theirs) (long ∙ lm) h (over o) in
            let c = ap (λ (s : List ℕ). entry s o) (column_merged Columns n p mine fits q theirs others i [] (omega arith)) in
            let r =
            raise_entry (get_or mine.columns i []) (get_or theirs.columns i []) o
            (fits.column_long i (omega arith) ∙ sym (others.column_long i (omega arith)))
            in
            omega arith;
      }

module _ (n : ℕ) (w : World) (p : ℕ) (mine theirs : Node) (l m : List Record) (h : Kept n w mine.summary mine.log l)
    (k : Kept n w theirs.summary theirs.log m) where
  -- What is sent is what the partner's log holds and the own account lacks, no more and no less, and in the order of the partner's account.
  pub sent_lacked : (r : Record) → has r (sent mine theirs) ≡ has r theirs.log && not (has r l)
  sent_lacked r =
      let c = has-newer r mine.summary theirs.log in
      let e = h.exact r in
      by_test (has r theirs.log)
      (λ a. let d = log_written n w theirs.summary theirs.log m r k a in cc)
      (λ a. cc)

  sent_order : Sublistᴰ (sent mine theirs) (lacking l m)
  sent_order =
      rw (lacking-newer n w mine.summary theirs.summary mine.log theirs.log l m h k)
      (newer_sublist mine.summary k.less)

  finished_takes : (r : Record) → has r theirs.log ≡ true → has r l ≡ false → has r (finished p mine theirs).log ≡ true
  unfolding finished
  finished_takes r a f =
      let b = has-append r mine.log (sent mine theirs) in
      let c = sent_lacked r in
      by_test (has r mine.log) (λ z. cc) (λ z. cc)

  finished_keeps : (r : Record) → has r mine.log ≡ true → has r (finished p mine theirs).log ≡ true
  unfolding finished
  finished_keeps r a = let b = has-append r mine.log (sent mine theirs) in cc

  finished_order : Sublistᴰ (finished p mine theirs).log (l ++ lacking l m)
  unfolding finished
  finished_order = Sublistᴰ.append h.less sent_order

  pub finished_taking : Taking mine.log theirs.log (finished p mine theirs).log l m
  finished_taking = record { takes = finished_takes; keeps = finished_keeps; order = finished_order }

-- Writing
pub wrote_writing : (n p t b v : ℕ) (x : Node) → p < n → length x.summary ≡ n →
    Writing n (record { origin = p; timestamp = t; block = b; verdict = v }) x.summary (wrote p t b v x).summary x.log (wrote p t b v x).log
unfolding wrote
wrote_writing n p t b v x below long =
    record {
      wide = length-set x.summary p t ∙ long;
      others = λ o ne. get_or-set_other x.summary p o t 0 ne;
      own = get_or-set_same x.summary p t 0 (omega arith);
      last = refl;
    }

-- and the own column is the summary afterwards
pub wrote_learning :
    (f : Form) (n : ℕ) (w : World) (p t b v : ℕ) (x : Node) → Shaped f n p x → ((o : ℕ) → entry (wrote p t b v x).summary o ≤ entry (w.summary p) o) →
    Learning n w (know f x) (know f x) (know f (wrote p t b v x))
unfolding wrote know
wrote_learning Vectors n w p t b v x fits over = record { most = λ q o h j. omega arith }
wrote_learning Columns n w p t b v x fits over =
    record { most = λ q o h j. omega (arith, own-known n w x.columns p q o (set x.summary p t) fits.columns_long h (over o)) }

-- Purging changes nothing that is known.
pub purged_learning : (f : Form) (n : ℕ) (w : World) (leaves : Record → Bool) (x : Node) → Learning n w (know f x) (know f x) (know f (purged leaves x))
unfolding purged know
purged_learning Vectors n w leaves x = record { most = λ q o h j. omega arith }
purged_learning Columns n w leaves x = record { most = λ q o h j. omega arith }

-- What leaves is at most what is known of every node: a purge that asks fewer of them is refused here.
pub leaves-known :
    (f : Form) (n m : ℕ) (x : Node) → length x.acks ≡ acks_wide f n → length x.columns ≡ columns_wide f n → (r : Record) → leaves f m x r ≡ true →
    (q : ℕ) → q < n → r.timestamp ≤ know f x q r.origin
unfolding leaves limit_of know
leaves-known Vectors n m x wide long r h q j =
    omega (arith, leb-true r.timestamp (min (least x.acks) m) h, least_le x.acks q (omega arith))
leaves-known Columns n m x wide long r h q j =
    covers_le (get_or x.columns q []) r (all_at (λ (c : List ℕ). covers c r) x.columns [] h q (omega arith))

-- So every summary covers it.
pub purged_dropping :
    (n : ℕ) (w : World) (leaves : Record → Bool) (known : ℕ → ℕ → ℕ) (x : Node) (l : List Record) → Stamped n w → Kept n w x.summary x.log l →
    Acked n w known → ((r : Record) → leaves r ≡ true → (q : ℕ) → q < n → r.timestamp ≤ known q r.origin) →
    Dropping n w x.log (purged leaves x).log
unfolding purged
purged_dropping n w leaves known x l stamped k acked low =
    record {
      gone = λ r h i q j.
          let o = stamped.origin r (log_written n w x.summary x.log l r k h) in
          let t = low r (keep_gone leaves x.log r h i) q j in
          le_covers (w.summary q) r (omega (arith, t, acked.reached q r.origin j o));
      order = keep_sub (λ r. not (leaves r)) x.log;
    }
