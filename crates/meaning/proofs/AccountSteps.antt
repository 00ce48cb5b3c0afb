-- The invariant of demand 3 for a whole cluster, and that each action keeps it: write, session, purge, delivery, as they change the nodes.
-- The nodes are any function from numbers to nodes that fit a form, so a table of either form only says what its nodes are.
use mathlib.Core.Path.{◌≡◌, refl, sym, ap, ◌∙◌, subst}
use mathlib.Core.Bool.{Bool, true, false, ◌||◌}
use mathlib.Core.Logic.{◌≢◌}
use mathlib.Core.List.{List, [], ◌∷◌, ◌++◌, Nodup, Pairwise-singleton}
use Prim.Native.Nat.{ℕ, ◌≤◌, ◌<◌}
use native.Mathlib.Omega.{arith}
use lib.ListN.{length}
use lib.Seq.{get_or-set_other}
use lib.Dec.{eqb}
use borrow.Author.Tests.{eqb-true, eqb-false, eq-eqb, ne_eqb}
use Rattle.meaning.specs.declared.Record.{Record}
use Rattle.meaning.specs.declared.Action.TheVariants.{Write, Session, Purge, Deliver}
use Rattle.meaning.specs.Table.{Form, Vectors, Columns, Node, Shaped}
use Rattle.meaning.specs.Node.{own, wrote, opened, finished, ended, purged, know}
use Rattle.meaning.specs.Steps.{finishes_a, finishes_b}
use Rattle.meaning.specs.Account.{same_record, has, lacking, Account, gains, gains_if, noted}
use Rattle.meaning.proofs.StepLaws.{opened_shaped}
use Rattle.meaning.proofs.AccountLaws.{by_test, not_both, same_eq, has-append, has_one, once_append, entry}
use Rattle.meaning.proofs.AccountInvariant.{
  World,
  Stamped,
  Grows,
  Kept,
  Acked,
  Writing,
  stamped_grows,
  kept_grows,
  acked_grows,
  kept_reading,
  acked_learning,
  kept_taking,
  kept_writing,
  kept_dropping,
}
use Rattle.meaning.proofs.AccountNodes.{
  set_up,
  opened_reading,
  opened_learning,
  opened_log,
  finished_summary,
  finished_learning,
  finished_up,
  finished_taking,
  wrote_writing,
  wrote_learning,
  purged_learning,
  purged_dropping,
}

-- A node and its account have the invariant.
pub record Holds (f : Form) (n : ℕ) (w : World) (x : Node) (account : List Record) : Type 0 where
  pub kept : Kept n w x.summary x.log account
  pub acked : Acked n w (know f x)

-- what was written, and the summaries of the nodes
abbrev pub world : (ℕ → Node) → Account → World
world nodes x = record { written = x.written; summary = λ q. (nodes q).summary }

-- The whole cluster: no record was written twice, each is stamped right, and every node below n has the invariant.
pub record Whole (f : Form) (n : ℕ) (nodes : ℕ → Node) (x : Account) : Type 0 where
  pub once : Nodup x.written
  pub stamped : Stamped n (world nodes x)
  pub holds : (q : ℕ) → q < n → Holds f n (world nodes x) (nodes q) (x.of q)

-- every node fits the form
abbrev pub Fitting : Form → ℕ → (ℕ → Node) → Type 0
Fitting f n nodes = (q : ℕ) → q < n → Shaped f n q (nodes q)

-- Helpers --------------------------------------------------------------------------------------------------------------------------------

-- one number, and the others
pub each : (P : ℕ → Type 0) (n p : ℕ) → P p → ((q : ℕ) → q < n → (q ≡ p → ⊥) → P q) → (q : ℕ) → q < n → P q
each P n p here there q h = by_test (eqb q p) (λ e. subst P (sym (eqb-true q p e)) here) (λ e. there q h (eqb-false q p e))

pub holds_at : (f : Form) (n : ℕ) (w : World) (x y : Node) (l m : List Record) → x ≡ y → l ≡ m → Holds f n w y m → Holds f n w x l
holds_at f n w x y l m e e' h = rw (e, e') h

pub holds_grows : (f : Form) (n : ℕ) (w v : World) → Grows n w v → (x : Node) (l : List Record) → Holds f n w x l → Holds f n v x l
holds_grows f n w v g x l h =
    record { kept = kept_grows n w v g x.summary x.log l h.kept; acked = acked_grows n w v g (know f x) h.acked }

pub gains_here : (p : ℕ) (new : List Record) (of : ℕ → List Record) → gains p new of p ≡ of p ++ new
unfolding gains
gains_here p new of = let e = eq-eqb p p refl in cc

pub gains_other : (p : ℕ) (new : List Record) (of : ℕ → List Record) (q : ℕ) → (q ≡ p → ⊥) → gains p new of q ≡ of q
unfolding gains
gains_other p new of q h = let e = ne_eqb q p h in cc

-- Write ----------------------------------------------------------------------------------------------------------------------------------

module _ (f : Form) (n : ℕ) (nodes nodes' : ℕ → Node) (x : Account) (p c b v : ℕ) (below : p < n) (later : own p (nodes p) < c)
    (here : nodes' p ≡ wrote p c b v (nodes p)) (there : (q : ℕ) → q < n → (q ≡ p → ⊥) → nodes' q ≡ nodes q) (fits : Fitting f n nodes)
    (k : Whole f n nodes x) where
  new : Record
  new = record { origin = p; timestamp = c; block = b; verdict = v }

  next : Account
  next = noted (Write p c b v) x

  gained : (r : Record) → has r next.written ≡ has r x.written || same_record r new
  unfolding next new noted
  gained r = has-append r x.written (new ∷ []) ∙ ap (λ (t : Bool). has r x.written || t) (has_one r new)

  long : length (nodes p).summary ≡ n
  long = (k.holds p below).kept.wide

  wrote-node : Writing n new (nodes p).summary (wrote p c b v (nodes p)).summary (nodes p).log (wrote p c b v (nodes p)).log
  unfolding new
  wrote-node = wrote_writing n p c b v (nodes p) below long

  own_below : entry (nodes p).summary p < c
  unfolding own
  own_below = later

  top : entry (nodes' p).summary p ≡ c
  unfolding new
  top = rw here wrote-node.own

  up : (o : ℕ) → entry (nodes p).summary o ≤ entry (nodes' p).summary o
  unfolding new
  up o =
      by_test (eqb o p)
      (λ e. rw (eqb-true o p e) (omega (arith, own_below, top)))
      (λ e. rw here (omega (arith, wrote-node.others o (eqb-false o p e))))

  is_new : (r : Record) → has r x.written ≡ false → has r next.written ≡ true → r ≡ new
  is_new r a t = let g = gained r in same_eq r new (cc)

  -- the record was not written before: its timestamp is above all of its writer's
  unwritten : (r : Record) → has r x.written ≡ true → has r (new ∷ []) ≡ false
  unfolding new
  unwritten r h =
      by_test (has r (new ∷ []))
      (λ e.
      let q = same_eq r new (sym (has_one r new) ∙ e) in
      absurd (omega (arith, own_below, rw q at (k.stamped.reached r h))))
      (λ e. e)

  write_grows : Grows n (world nodes x) (world nodes' next)
  unfolding new
  write_grows =
      record {
        written = λ r h. let g = gained r in cc;
        summary = λ q o h.
            each (λ (i : ℕ). entry (nodes i).summary o ≤ entry (nodes' i).summary o) n p
            (up o)
            (λ i j ne. rw (there i j ne) (omega arith)) q h;
        origin = λ r f t. rw (is_new r f t) below;
        later = λ r f t. rw (is_new r f t) own_below;
        reached = λ r f t. rw (is_new r f t) (omega (arith, top));
        single = λ r s f t g u o c. is_new r f t ∙ sym (is_new s g u);
      }

  reached_own : (o : ℕ) → entry (wrote p c b v (nodes p)).summary o ≤ entry (nodes' p).summary o
  reached_own o = rw here (omega arith)

  pub whole_write : Whole f n nodes' (noted (Write p c b v) x)
  unfolding next new noted
  whole_write =
      record {
        once = once_append x.written (new ∷ []) k.once (Pairwise-singleton (λ (r s : Record). r ≢ s) new) unwritten;
        stamped = stamped_grows n (world nodes x) (world nodes' next) write_grows k.stamped;
        holds =
            each (λ (q : ℕ). Holds f n (world nodes' next) (nodes' q) (next.of q)) n p
            (holds_at f n (world nodes' next) (nodes' p) (wrote p c b v (nodes p)) (next.of p) (x.of p ++ (new ∷ [])) here
            (gains_here p (new ∷ []) x.of)
            (record {
              kept =
                  kept_writing n (world nodes x) (world nodes' next) new (wrote p c b v (nodes p)).summary (nodes p).log
                  (wrote p c b v (nodes p)).log (x.of p)
                  write_grows k.stamped own_below (omega (arith, top)) gained wrote-node (k.holds p below).kept;
              acked =
                  let knew = acked_grows n (world nodes x) (world nodes' next) write_grows (know f (nodes p)) (k.holds p below).acked in
                  acked_learning n (world nodes' next) (know f (nodes p)) (know f (nodes p)) (know f (wrote p c b v (nodes p)))
                  (wrote_learning f n (world nodes' next) p c b v (nodes p) (fits p below) reached_own) knew knew;
            }))
            (λ q h ne.
            holds_at f n (world nodes' next) (nodes' q) (nodes q) (next.of q) (x.of q) (there q h ne) (gains_other p (new ∷ []) x.of q ne)
            (holds_grows f n (world nodes x) (world nodes' next) write_grows (nodes q) (x.of q) (k.holds q h)));
      }

-- Purge and delivery: nothing is written and no summary changes -------------------------------------------------------------------------

module _ (f : Form) (n : ℕ) (nodes nodes' : ℕ → Node) (x : Account) (same : (q : ℕ) → q < n → (nodes' q).summary ≡ (nodes q).summary)
    (k : Whole f n nodes x) where
  settled_grows : Grows n (world nodes x) (world nodes' x)
  settled_grows =
      record {
        written = λ r h. h;
        summary = λ q o h. rw (same q h) (omega arith);
        origin = λ r f t. not_both (has r x.written) t f;
        later = λ r f t. not_both (has r x.written) t f;
        reached = λ r f t. not_both (has r x.written) t f;
        single = λ r s f t. not_both (has r x.written) t f;
      }

  settled_stamped : Stamped n (world nodes' x)
  settled_stamped = stamped_grows n (world nodes x) (world nodes' x) settled_grows k.stamped

  settled_holds : (q : ℕ) → q < n → Holds f n (world nodes' x) (nodes q) (x.of q)
  settled_holds q h = holds_grows f n (world nodes x) (world nodes' x) settled_grows (nodes q) (x.of q) (k.holds q h)

module _ (f : Form) (n : ℕ) (nodes nodes' : ℕ → Node) (x : Account) (p : ℕ) (leaving : Record → Bool) (below : p < n)
    (low : (r : Record) → leaving r ≡ true → (q : ℕ) → q < n → r.timestamp ≤ know f (nodes p) q r.origin)
    (here : nodes' p ≡ purged leaving (nodes p)) (there : (q : ℕ) → q < n → (q ≡ p → ⊥) → nodes' q ≡ nodes q) (k : Whole f n nodes x) where
  same_summary : (q : ℕ) → q < n → (nodes' q).summary ≡ (nodes q).summary
  unfolding purged
  same_summary =
      each (λ (q : ℕ). (nodes' q).summary ≡ (nodes q).summary) n p
      (ap (λ (y : Node). y.summary) here)
      (λ q h ne. ap (λ (y : Node). y.summary) (there q h ne))

  purge_holds : Holds f n (world nodes' x) (nodes p) (x.of p)
  purge_holds = settled_holds f n nodes nodes' x same_summary k p below

  purge_stamped : Stamped n (world nodes' x)
  purge_stamped = settled_stamped f n nodes nodes' x same_summary k

  pub whole_purge : Whole f n nodes' (noted (Purge p) x)
  unfolding noted purged
  whole_purge =
      record {
        once = k.once;
        stamped = purge_stamped;
        holds =
            each (λ (q : ℕ). Holds f n (world nodes' x) (nodes' q) (x.of q)) n p
            (holds_at f n (world nodes' x) (nodes' p) (purged leaving (nodes p)) (x.of p) (x.of p) here refl
            (record {
              kept =
                  kept_dropping n (world nodes' x) (nodes p).summary (nodes p).log (purged leaving (nodes p)).log (x.of p)
                  (purged_dropping n (world nodes' x) leaving (know f (nodes p)) (nodes p) (x.of p) purge_stamped purge_holds.kept purge_holds.acked low)
                  purge_holds.kept;
              acked =
                  acked_learning n (world nodes' x) (know f (nodes p)) (know f (nodes p)) (know f (purged leaving (nodes p)))
                  (purged_learning f n (world nodes' x) leaving (nodes p)) purge_holds.acked purge_holds.acked;
            }))
            (λ q h ne.
            holds_at f n (world nodes' x) (nodes' q) (nodes q) (x.of q) (x.of q) (there q h ne) refl
            (settled_holds f n nodes nodes' x same_summary k q h));
      }

-- a delivery changes no node at all
pub whole_deliver :
    (f : Form) (n : ℕ) (nodes nodes' : ℕ → Node) (x : Account) (p : ℕ) → ((q : ℕ) → q < n → nodes' q ≡ nodes q) → Whole f n nodes x →
    Whole f n nodes' (noted (Deliver p) x)
unfolding noted
whole_deliver f n nodes nodes' x p same k =
    let same_summary : (q : ℕ) → q < n → (nodes' q).summary ≡ (nodes q).summary = λ q h. ap (λ (y : Node). y.summary) (same q h) in
    record {
      once = k.once;
      stamped = settled_stamped f n nodes nodes' x same_summary k;
      holds = λ q h.
          holds_at f n (world nodes' x) (nodes' q) (nodes q) (x.of q) (x.of q) (same q h) refl (settled_holds f n nodes nodes' x same_summary k q h);
    }

-- Session --------------------------------------------------------------------------------------------------------------------------------

-- what a side's account becomes: with all that the partner's held and it lacked, if it finishes
abbrev pub taken : Bool → List Record → List Record → List Record
taken true mine theirs = mine ++ lacking mine theirs
taken false mine theirs = mine

-- the two sides' accounts, whichever finish
pub taken_a : (f g : Bool) (a b : ℕ) (of : ℕ → List Record) → (a ≡ b → ⊥) →
    gains_if g b (lacking (of b) (of a)) (gains_if f a (lacking (of a) (of b)) of) a ≡ taken f (of a) (of b)
taken_a true true a b of ne = gains_other b (lacking (of b) (of a)) (gains a (lacking (of a) (of b)) of) a ne ∙ gains_here a (lacking (of a) (of b)) of
taken_a true false a b of ne = gains_here a (lacking (of a) (of b)) of
taken_a false true a b of ne = gains_other b (lacking (of b) (of a)) of a ne
taken_a false false a b of ne = refl

pub taken_b : (f g : Bool) (a b : ℕ) (of : ℕ → List Record) → (b ≡ a → ⊥) →
    gains_if g b (lacking (of b) (of a)) (gains_if f a (lacking (of a) (of b)) of) b ≡ taken g (of b) (of a)
taken_b true true a b of ne =
    gains_here b (lacking (of b) (of a)) (gains a (lacking (of a) (of b)) of) ∙
    ap (λ (l : List Record). l ++ lacking (of b) (of a)) (gains_other a (lacking (of a) (of b)) of b ne)
taken_b true false a b of ne = gains_other a (lacking (of a) (of b)) of b ne
taken_b false true a b of ne = gains_here b (lacking (of b) (of a)) of
taken_b false false a b of ne = refl

pub taken_other : (f g : Bool) (a b : ℕ) (of : ℕ → List Record) (q : ℕ) → (q ≡ a → ⊥) → (q ≡ b → ⊥) →
    gains_if g b (lacking (of b) (of a)) (gains_if f a (lacking (of a) (of b)) of) q ≡ of q
taken_other true true a b of q na nb =
    gains_other b (lacking (of b) (of a)) (gains a (lacking (of a) (of b)) of) q nb ∙ gains_other a (lacking (of a) (of b)) of q na
taken_other true false a b of q na nb = gains_other a (lacking (of a) (of b)) of q na
taken_other false true a b of q na nb = gains_other b (lacking (of b) (of a)) of q nb
taken_other false false a b of q na nb = refl

-- a side that ends has the invariant if both starting nodes have it, the partner knows no more of this side than its starting summary has, and the
-- world's summary of this side has reached what it ends with
pub holds_ended :
    (f : Form) (n : ℕ) (w : World) (g : Bool) (p q : ℕ) (mine theirs : Node) (l m : List Record) → p < n → Shaped f n p mine → Shaped f n q theirs →
    ((o : ℕ) → o < n → know f theirs p o ≤ entry mine.summary o) →
    ((o : ℕ) → entry (ended g p mine theirs).summary o ≤ entry (w.summary p) o) →
    Holds f n w mine l → Holds f n w theirs m → Holds f n w (ended g p mine theirs) (taken g l m)
holds_ended f n w true p q mine theirs l m below fits others under over h k =
    record {
      kept =
          kept_taking n w mine.summary theirs.summary (finished p mine theirs).summary mine.log theirs.log (finished p mine theirs).log l m
          (finished_summary n p q mine theirs f fits others below under) (finished_taking n w p mine theirs l m h.kept k.kept) h.kept k.kept;
      acked =
          acked_learning n w (know f mine) (know f theirs) (know f (finished p mine theirs))
          (finished_learning n p q mine theirs f w fits others over) h.acked k.acked;
    }
holds_ended f n w false p q mine theirs l m below fits others under over h k = h

-- ending never lowers a summary entry
pub ended_up :
    (f : Form) (n p q : ℕ) (g : Bool) (mine theirs : Node) (o : ℕ) → Shaped f n p mine → Shaped f n q theirs →
    entry mine.summary o ≤ entry (ended g p mine theirs).summary o
ended_up f n p q true mine theirs o fits others = finished_up f n p q mine theirs fits others o
ended_up f n p q false mine theirs o fits others = omega arith

pub opened_up : (p c : ℕ) (x : Node) (o : ℕ) → p < length x.summary → own p x ≤ c → entry x.summary o ≤ entry (opened p c x).summary o
unfolding opened own
opened_up p c x o below up = set_up x.summary p c o below up

-- what an opened node knows of another it knew before
pub opened_knows : (f : Form) (p c : ℕ) (x : Node) (q o : ℕ) → (q ≡ p → ⊥) → know f (opened p c x) q o ≡ know f x q o
unfolding opened know
opened_knows Vectors p c x q o ne = get_or-set_other x.acks p q _ 0 ne
opened_knows Columns p c x q o ne = ap (λ (s : List ℕ). entry s o) (get_or-set_other x.columns p q _ [] ne)

-- An opened node has the invariant in a world in which nothing more is written, and whose summary for it is no less than its starting one.
pub holds_opened :
    (f : Form) (n : ℕ) (nodes nodes' : ℕ → Node) (x y : Account) (p c : ℕ) → Grows n (world nodes x) (world nodes' y) → y.written ≡ x.written →
    p < n → own p (nodes p) ≤ c → ((o : ℕ) → entry (opened p c (nodes p)).summary o ≤ entry (nodes' p).summary o) → Fitting f n nodes →
    Whole f n nodes x → Holds f n (world nodes' y) (opened p c (nodes p)) (x.of p)
holds_opened f n nodes nodes' x y p c g same below up over fits k =
    let h = holds_grows f n (world nodes x) (world nodes' y) g (nodes p) (x.of p) (k.holds p below) in
    let long = (k.holds p below).kept.wide in
    record {
      kept = log_stays (kept_reading n (world nodes' y) p (nodes p).summary (opened p c (nodes p)).summary (nodes p).log (x.of p)
          (opened_reading n (world nodes' y) p c (nodes p) below long up (over p))
          (λ r written o. rw o at (k.stamped.reached r (subst (λ (l : List Record). has r l ≡ true) same written))) h.kept);
      acked =
          acked_learning n (world nodes' y) (know f (nodes p)) (know f (nodes p)) (know f (opened p c (nodes p)))
          (opened_learning n (world nodes' y) p c (nodes p) below long f (fits p below) over) h.acked h.acked;
    }
  where
    log_stays :
        Kept n (world nodes' y) (opened p c (nodes p)).summary (nodes p).log (x.of p) →
        Kept n (world nodes' y) (opened p c (nodes p)).summary (opened p c (nodes p)).log (x.of p)
    log_stays z = subst (λ (l : List Record). Kept n (world nodes' y) (opened p c (nodes p)).summary l (x.of p)) (sym (opened_log p c (nodes p))) z

module _ (f : Form) (n : ℕ) (nodes nodes' : ℕ → Node) (x : Account) (a b ca cb outcome : ℕ) (below_a : a < n) (below_b : b < n) (apart : a ≡ b → ⊥)
    (up_a : own a (nodes a) ≤ ca) (up_b : own b (nodes b) ≤ cb)
    (here_a : nodes' a ≡ ended (finishes_a outcome) a (opened a ca (nodes a)) (opened b cb (nodes b)))
    (here_b : nodes' b ≡ ended (finishes_b outcome) b (opened b cb (nodes b)) (opened a ca (nodes a)))
    (there : (q : ℕ) → q < n → (q ≡ a → ⊥) → (q ≡ b → ⊥) → nodes' q ≡ nodes q) (fits : Fitting f n nodes) (k : Whole f n nodes x) where
  long_a : length (nodes a).summary ≡ n
  long_a = (k.holds a below_a).kept.wide

  long_b : length (nodes b).summary ≡ n
  long_b = (k.holds b below_b).kept.wide

  fits_a : Shaped f n a (opened a ca (nodes a))
  fits_a = opened_shaped f n a (nodes a) (fits a below_a) ca

  fits_b : Shaped f n b (opened b cb (nodes b))
  fits_b = opened_shaped f n b (nodes b) (fits b below_b) cb

  over_a : (o : ℕ) → entry (opened a ca (nodes a)).summary o ≤ entry (nodes' a).summary o
  over_a o = rw here_a (ended_up f n a b (finishes_a outcome) (opened a ca (nodes a)) (opened b cb (nodes b)) o fits_a fits_b)

  over_b : (o : ℕ) → entry (opened b cb (nodes b)).summary o ≤ entry (nodes' b).summary o
  over_b o = rw here_b (ended_up f n b a (finishes_b outcome) (opened b cb (nodes b)) (opened a ca (nodes a)) o fits_b fits_a)

  -- what each side knows of the other at the start is at most the other's starting summary
  under_a : (o : ℕ) → o < n → know f (opened b cb (nodes b)) a o ≤ entry (opened a ca (nodes a)).summary o
  under_a o h =
      omega (
        arith,
        opened_knows f b cb (nodes b) a o apart,
        (k.holds b below_b).acked.reached a o below_a h,
        opened_up a ca (nodes a) o (omega (arith, long_a)) up_a,
      )

  under_b : (o : ℕ) → o < n → know f (opened a ca (nodes a)) b o ≤ entry (opened b cb (nodes b)).summary o
  under_b o h =
      omega (
        arith,
        opened_knows f a ca (nodes a) b o (λ e. apart (sym e)),
        (k.holds a below_a).acked.reached b o below_b h,
        opened_up b cb (nodes b) o (omega (arith, long_b)) up_b,
      )

  met : Account
  met = noted (Session a b ca cb outcome) x

  session_grows : Grows n (world nodes x) (world nodes' met)
  unfolding met noted
  session_grows =
      record {
        written = λ r h. h;
        summary = λ q o h.
            each (λ (i : ℕ). entry (nodes i).summary o ≤ entry (nodes' i).summary o) n a
            (omega (arith, over_a o, opened_up a ca (nodes a) o (omega (arith, long_a)) up_a))
            (λ i j ne.
            each (λ (m : ℕ). (m ≡ a → ⊥) → entry (nodes m).summary o ≤ entry (nodes' m).summary o) n b
            (λ na. omega (arith, over_b o, opened_up b cb (nodes b) o (omega (arith, long_b)) up_b))
            (λ m l nb na. rw (there m l na nb) (omega arith)) i j ne)
            q h;
        origin = λ r f t. not_both (has r x.written) t f;
        later = λ r f t. not_both (has r x.written) t f;
        reached = λ r f t. not_both (has r x.written) t f;
        single = λ r s f t. not_both (has r x.written) t f;
      }

  start_a : Holds f n (world nodes' met) (opened a ca (nodes a)) (x.of a)
  unfolding met noted
  start_a = holds_opened f n nodes nodes' x met a ca session_grows refl below_a up_a over_a fits k

  start_b : Holds f n (world nodes' met) (opened b cb (nodes b)) (x.of b)
  unfolding met noted
  start_b = holds_opened f n nodes nodes' x met b cb session_grows refl below_b up_b over_b fits k

  end_a : Holds f n (world nodes' met) (ended (finishes_a outcome) a (opened a ca (nodes a)) (opened b cb (nodes b)))
      (taken (finishes_a outcome) (x.of a) (x.of b))
  end_a =
      holds_ended f n (world nodes' met) (finishes_a outcome) a b (opened a ca (nodes a)) (opened b cb (nodes b)) (x.of a) (x.of b) below_a fits_a fits_b
      under_a (λ o. rw here_a (omega arith)) start_a start_b

  end_b : Holds f n (world nodes' met) (ended (finishes_b outcome) b (opened b cb (nodes b)) (opened a ca (nodes a)))
      (taken (finishes_b outcome) (x.of b) (x.of a))
  end_b =
      holds_ended f n (world nodes' met) (finishes_b outcome) b a (opened b cb (nodes b)) (opened a ca (nodes a)) (x.of b) (x.of a) below_b fits_b fits_a
      under_b (λ o. rw here_b (omega arith)) start_b start_a

  pub whole_session : Whole f n nodes' (noted (Session a b ca cb outcome) x)
  unfolding met noted
  whole_session =
      record {
        once = k.once;
        stamped = stamped_grows n (world nodes x) (world nodes' met) session_grows k.stamped;
        holds =
            each (λ (q : ℕ). Holds f n (world nodes' met) (nodes' q) (met.of q)) n a
            (holds_at f n (world nodes' met) (nodes' a) _ (met.of a) _ here_a (taken_a (finishes_a outcome) (finishes_b outcome) a b x.of apart) end_a)
            (λ i j ne.
            each (λ (q : ℕ). (q ≡ a → ⊥) → Holds f n (world nodes' met) (nodes' q) (met.of q)) n b
            (λ na. holds_at f n (world nodes' met) (nodes' b) _ (met.of b) _ here_b (taken_b (finishes_a outcome) (finishes_b outcome) a b x.of na) end_b)
            (λ q h nb na.
            holds_at f n (world nodes' met) (nodes' q) (nodes q) (met.of q) (x.of q) (there q h na nb)
            (taken_other (finishes_a outcome) (finishes_b outcome) a b x.of q na nb)
            (holds_grows f n (world nodes x) (world nodes' met) session_grows (nodes q) (x.of q) (k.holds q h)))
            i j ne);
      }
