-- Laws of steps: what an accepted step is known to meet, the node that each action leaves, that a sound table stays sound, and the refusal
-- of each action by the tests that were passed before it.
use mathlib.Core.Path.{◌≡◌, refl, sym, ap, ◌∙◌}
use mathlib.Core.Bool.{Bool, true, false, not, ◌&&◌, ◌||◌, true≢false, and-true, or-true, cond}
use mathlib.Core.List.{List, [], ◌∷◌, ◌++◌, append-nil}
use Prim.Native.Nat.{ℕ, zero, suc, ◌-◌, ◌*◌, ◌≤◌, ◌<◌}
use native.Mathlib.Decide.{dec_lt}
use native.Mathlib.Omega.{arith}
use borrow.Author.Tests.{leb-false, ltb-false, eqb-false, le-leb, lt-leb, le-ltb, lt-ltb, eq-eqb, ne_eqb, not-false}
use lib.Seq.{take_at}
use lib.ListN.{length, get_or, set, take, length-set, length-append, length-replicate, get_or-replicate, get_or-eq_default}
use lib.Dec.{leb, ltb}
use Rattle.meaning.specs.declared.Record.{Record}
use Rattle.meaning.specs.declared.Action.{Action}
use Rattle.meaning.specs.declared.Action.TheVariants.{Write, Session, Purge, Deliver}
use Rattle.meaning.specs.Rows.{all, raise, newer, records}
use Rattle.std.specs.Prelude.{Ok, Err}
use Rattle.meaning.specs.declared.Refusal.{Refusal}
use Rattle.meaning.specs.declared.Report.{Report}
use Rattle.meaning.specs.declared.Report.TheVariants.{Written, Carried, Purged, Delivered}
use Rattle.meaning.specs.Refusals.{refusal_of, number_of, answered, first}
use Rattle.meaning.specs.Table.{
  Form,
  Vectors,
  Columns,
  Node,
  form_words,
  form_of,
  nodes_most,
  log_most,
  count_at,
  held_at,
  log_at,
  mark_at,
  acks_wide,
  part,
  count,
  held,
  mark,
  node,
  put_node,
  fresh,
  record_sound,
  sound,
  Sound,
  Shaped,
}
use Rattle.meaning.specs.Node.{own, wrote, opened, sent, merged, learnt, finished, ended, purged, raised}
use Rattle.meaning.specs.Steps.{finishes_a, finishes_b, overfull, on_columns, refusals, refusal, leaving, acted, reported, reply, reply_values, after}
use mathlib.Core.Logic.{inl, inr}
use Rattle.meaning.proofs.RowLaws.{all_append, all_keep, length-keep, and_both, length-raise, length-records, records-take}
use Rattle.meaning.proofs.ColumnLaws.{length-raise_each, get_or-raise_each, long_raise_each, set_columns_long, set_columns_own}
use Rattle.meaning.proofs.RefusalLaws.{Named, named, first_named, answered_name, unless_name, numbered, test_of, first_at}
use Rattle.meaning.proofs.TableLaws.{
  sound_facts,
  facts_sound,
  form_is,
  sound_put,
  node_shaped,
  node_same,
  node_other,
  put_count,
  put_form,
  put_long,
  mark_put,
  held_log_lem,
  mark-count,
  mark_form,
  mark_long,
  mark_same,
  mark_other,
  node-mark,
  sound-mark,
}

pub or_left : (a b : Bool) → (a || b) ≡ false → a ≡ false
or_left true b h = h
or_left false b h = refl

pub or_right : (a b : Bool) → (a || b) ≡ false → b ≡ false
or_right true b h = absurd (true≢false h)
or_right false b h = h

-- What an accepted write is known to meet
pub record MayWrite (t : List ℕ) (p c : ℕ) : Type 0 where
  pub is_sound : Sound t
  pub here : p < count t
  pub later : own p (node t p) < c
  pub room : length (node t p).log < log_most

-- an accepted session
pub record MayMeet (t : List ℕ) (a b ca cb o : ℕ) : Type 0 where
  pub is_sound : Sound t
  pub outcome : o ≤ 3
  pub here_a : a < count t
  pub here_b : b < count t
  pub apart : a ≡ b → ⊥
  pub clock_a : own a (node t a) ≤ ca
  pub clock_b : own b (node t b) ≤ cb
  pub room_a : overfull (finishes_a o) (opened a ca (node t a)) (opened b cb (node t b)) ≡ false
  pub room_b : overfull (finishes_b o) (opened b cb (node t b)) (opened a ca (node t a)) ≡ false

-- an accepted purge
pub record MayPurge (t : List ℕ) (p : ℕ) : Type 0 where
  pub is_sound : Sound t
  pub here : p < count t

-- an accepted delivery
pub record MayDeliver (t : List ℕ) (p : ℕ) : Type 0 where
  pub is_sound : Sound t
  pub here : p < count t
  pub form : form_of t ≡ Vectors

pub refusals_numbered : (t : List ℕ) (x : Action) → numbered (refusals t x) ≡ true
unfolding refusals numbered
refusals_numbered t (Write p c b v) = refl
refusals_numbered t (Session a b ca cb o) = refl
refusals_numbered t (Purge p) = refl
refusals_numbered t (Deliver p) = refl

-- where a step is accepted, each of its tests fails: found by its number, so that a row more moves no other
passed : (t : List ℕ) (x : Action) → refusal t x ≡ 0 → (k : ℕ) → test_of k (refusals t x) ≡ false
unfolding refusal
passed t x h k = first_at k (refusals t x) (refusals_numbered t x) h

pub may_write : (t : List ℕ) (p c b v : ℕ) → refusal t (Write p c b v) ≡ 0 → MayWrite t p c
unfolding refusals test_of
may_write t p c b v h =
    let fails = passed t (Write p c b v) h in
    record {
      is_sound = sound_facts t (not-false (sound t) (fails 1));
      here = leb-false (count t) p (fails 3);
      later = leb-false c (own p (node t p)) (fails 5);
      room = leb-false log_most (length (node t p).log) (fails 6);
    }

pub may_meet : (t : List ℕ) (a b ca cb o : ℕ) → refusal t (Session a b ca cb o) ≡ 0 → MayMeet t a b ca cb o
unfolding refusals test_of
may_meet t a b ca cb o h =
    let fails = passed t (Session a b ca cb o) h in
    let full_a = overfull (finishes_a o) (opened a ca (node t a)) (opened b cb (node t b)) in
    let full_b = overfull (finishes_b o) (opened b cb (node t b)) (opened a ca (node t a)) in
    record {
      is_sound = sound_facts t (not-false (sound t) (fails 1));
      outcome = ltb-false 3 o (fails 2);
      here_a = leb-false (count t) a (or_left (leb (count t) a) (leb (count t) b) (fails 3));
      here_b = leb-false (count t) b (or_right (leb (count t) a) (leb (count t) b) (fails 3));
      apart = eqb-false a b (fails 4);
      clock_a = ltb-false ca (own a (node t a)) (or_left (ltb ca (own a (node t a))) (ltb cb (own b (node t b))) (fails 5));
      clock_b = ltb-false cb (own b (node t b)) (or_right (ltb ca (own a (node t a))) (ltb cb (own b (node t b))) (fails 5));
      room_a = or_left full_a full_b (fails 6);
      room_b = or_right full_a full_b (fails 6);
    }

pub may_purge : (t : List ℕ) (p : ℕ) → refusal t (Purge p) ≡ 0 → MayPurge t p
unfolding refusals test_of
may_purge t p h =
    let fails = passed t (Purge p) h in
    record { is_sound = sound_facts t (not-false (sound t) (fails 1)); here = leb-false (count t) p (fails 3) }

pub may_deliver : (t : List ℕ) (p : ℕ) → refusal t (Deliver p) ≡ 0 → MayDeliver t p
unfolding refusals test_of
may_deliver t p h =
    let fails = passed t (Deliver p) h in
    record {
      is_sound = sound_facts t (not-false (sound t) (fails 1));
      here = leb-false (count t) p (fails 3);
      form = go (form_of t) (fails 26);
    }
  where
    go : (f : Form) → on_columns f ≡ false → f ≡ Vectors
    go Vectors h = refl
    go Columns h = absurd (true≢false h)

pub after-accepted : (t : List ℕ) (x : Action) → refusal t x ≡ 0 → after t x ≡ acted t x
unfolding after
after-accepted t x h = rw h

pub after_refused : (t : List ℕ) (x : Action) (k : ℕ) → refusal t x ≡ suc k → after t x ≡ t
unfolding after
after_refused t x k h = rw h

-- A node that each action leaves fits the table
module _ (f : Form) (n p : ℕ) (x : Node) (fits : Shaped f n p x) where
  pub opened_shaped : (c : ℕ) → Shaped f n p (opened p c x)
  unfolding opened
  opened_shaped c =
      let s = set x.summary p c in
      let l = length-set x.summary p c ∙ fits.summary_long in
      record {
        summary_long = l;
        acks_long = length-set x.acks p _ ∙ fits.acks_long;
        columns_long = length-set x.columns p s ∙ fits.columns_long;
        column_long = set_columns_long x.columns n p s l fits.column_long;
        column_own = set_columns_own x.columns p s;
        log_short = fits.log_short;
      }

  pub wrote_shaped : (c b v : ℕ) → length x.log < log_most → Shaped f n p (wrote p c b v x)
  unfolding wrote
  wrote_shaped c b v h =
      let s = set x.summary p c in
      let l = length-set x.summary p c ∙ fits.summary_long in
      let more = length-append x.log (record { origin = p; timestamp = c; block = b; verdict = v } ∷ []) in
      record {
        summary_long = l;
        acks_long = fits.acks_long;
        columns_long = length-set x.columns p s ∙ fits.columns_long;
        column_long = set_columns_long x.columns n p s l fits.column_long;
        column_own = set_columns_own x.columns p s;
        log_short = omega arith;
      }

  pub purged_shaped : (leaves : Record → Bool) → Shaped f n p (purged leaves x)
  unfolding purged
  purged_shaped leaves =
      let l = length-keep (λ (r : Record). not (leaves r)) x.log in
      let s = fits.log_short in
      record {
        summary_long = fits.summary_long;
        acks_long = fits.acks_long;
        columns_long = fits.columns_long;
        column_long = fits.column_long;
        column_own = fits.column_own;
        log_short = omega arith;
      }

  -- with a partner's node
  module _ (q : ℕ) (y : Node) (theirs : Shaped f n q y) where
    pub merged_long : length (merged x y) ≡ length x.columns
    merged_long = length-raise_each x.columns y.columns (length x.columns) refl (theirs.columns_long ∙ sym fits.columns_long)

    pub column_merged : (i : ℕ) (d : List ℕ) → i < length x.columns → get_or (merged x y) i d ≡ raise (get_or x.columns i []) (get_or y.columns i [])
    column_merged i d h = get_or-raise_each x.columns y.columns i d h (fits.columns_long ∙ sym theirs.columns_long)

    column_long_lem : (i : ℕ) → i < length x.columns → length (get_or (merged x y) i []) ≡ n
    column_long_lem i h =
        let e = fits.columns_long ∙ sym theirs.columns_long in
        long_raise_each x.columns y.columns n i h e (fits.column_long i h) (theirs.column_long i (omega arith))

    -- the own column before it takes the partner's own: the summary on vectors
    pub column_none : length x.columns ≤ p → get_or (merged x y) p x.summary ≡ x.summary
    column_none h = let l = merged_long in get_or-eq_default (merged x y) x.summary (omega arith)

    pub column_some : p < length x.columns → get_or (merged x y) p x.summary ≡ raise x.summary (get_or y.columns p [])
    column_some h = column_merged p x.summary h ∙ ap (λ (c : List ℕ). raise c (get_or y.columns p [])) (fits.column_own h)

    pub learnt_long : length (learnt p x y) ≡ n
    unfolding learnt
    learnt_long = length-raise (get_or (merged x y) p x.summary) y.summary n (go (dec_lt p (length x.columns))) theirs.summary_long
      where
        go : Dec (p < length x.columns) → length (get_or (merged x y) p x.summary) ≡ n
        go (yes h) =
            let e = fits.columns_long ∙ sym theirs.columns_long in
            ap length (column_some h) ∙ length-raise x.summary (get_or y.columns p []) n fits.summary_long (theirs.column_long p (omega arith))
        go (no h) = ap length (column_none (omega arith)) ∙ fits.summary_long

    pub ended_shaped : (g : Bool) → overfull g x y ≡ false → Shaped f n p (ended g p x y)
    unfolding finished
    ended_shaped true h =
        record {
          summary_long = learnt_long;
          acks_long = length-raise x.acks y.acks (acks_wide f n) fits.acks_long theirs.acks_long;
          columns_long = length-set (merged x y) p (learnt p x y) ∙ merged_long ∙ fits.columns_long;
          column_long =
              set_columns_long (merged x y) n p (learnt p x y) learnt_long (λ i b. let l = merged_long in column_long_lem i (omega arith));
          column_own = set_columns_own (merged x y) p (learnt p x y);
          log_short = ltb-false log_most _ h;
        }
    ended_shaped false h = fits

-- The records that each action leaves are right ones
pub opened_right : (n : ℕ) (x : Node) (p c : ℕ) → all (record_sound n) x.log ≡ true → all (record_sound n) (opened p c x).log ≡ true
unfolding opened
opened_right n x p c h = h

pub wrote_right :
    (n : ℕ) (x : Node) (p c b v : ℕ) → p < n → v ≤ 255 → all (record_sound n) x.log ≡ true →
    all (record_sound n) (wrote p c b v x).log ≡ true
unfolding wrote all record_sound
wrote_right n x p c b v hp hv h =
    all_append (record_sound n) x.log (record { origin = p; timestamp = c; block = b; verdict = v } ∷ []) ∙
    and_both (all (record_sound n) x.log) ((ltb p n && leb v 255) && true) h
    (and-true (ltb p n && leb v 255) ∙ and_both (ltb p n) (leb v 255) (lt-ltb p n hp) (le-leb v 255 hv))

pub purged_right :
    (n : ℕ) (leaves : Record → Bool) (x : Node) → all (record_sound n) x.log ≡ true → all (record_sound n) (purged leaves x).log ≡ true
unfolding purged
purged_right n leaves x h = all_keep (record_sound n) (λ (r : Record). not (leaves r)) x.log h

pub ended_right :
    (n p : ℕ) (x y : Node) (f : Bool) → all (record_sound n) x.log ≡ true → all (record_sound n) y.log ≡ true →
    all (record_sound n) (ended f p x y).log ≡ true
unfolding finished newer
ended_right n p x y true h g =
    all_append (record_sound n) x.log (sent x y) ∙
    and_both (all (record_sound n) x.log) (all (record_sound n) (sent x y)) h (all_keep (record_sound n) _ y.log g)
ended_right n p x y false h g = h

-- The verdict that an action brings: a byte in every step that is made, since its field is as wide as in the frame
abbrev pub verdict_of : Action → ℕ
verdict_of (Write p t b v) = v
verdict_of (Session a b ca cb o) = 0
verdict_of (Purge p) = 0
verdict_of (Deliver p) = 0

-- The two sides of a session, and the facts about them that an accepted one has
abbrev pub side_a : List ℕ → ℕ → ℕ → ℕ → ℕ → ℕ → Node
side_a t a b ca cb o = ended (finishes_a o) a (opened a ca (node t a)) (opened b cb (node t b))

abbrev pub side_b : List ℕ → ℕ → ℕ → ℕ → ℕ → ℕ → Node
side_b t a b ca cb o = ended (finishes_b o) b (opened b cb (node t b)) (opened a ca (node t a))

module _ (t : List ℕ) (a b ca cb o : ℕ) (m : MayMeet t a b ca cb o) where
  s : Sound t
  s = m.is_sound

  start_a : Shaped (form_of t) (count t) a (opened a ca (node t a))
  start_a = opened_shaped (form_of t) (count t) a (node t a) (node_shaped t s a m.here_a) ca

  start_b : Shaped (form_of t) (count t) b (opened b cb (node t b))
  start_b = opened_shaped (form_of t) (count t) b (node t b) (node_shaped t s b m.here_b) cb

  pub side_a_shaped : Shaped (form_of t) (count t) a (side_a t a b ca cb o)
  side_a_shaped = ended_shaped (form_of t) (count t) a (opened a ca (node t a)) start_a b (opened b cb (node t b)) start_b (finishes_a o) m.room_a

  pub side_b_shaped : Shaped (form_of t) (count t) b (side_b t a b ca cb o)
  side_b_shaped = ended_shaped (form_of t) (count t) b (opened b cb (node t b)) start_b a (opened a ca (node t a)) start_a (finishes_b o) m.room_b

  right_a : all (record_sound (count t)) (opened a ca (node t a)).log ≡ true
  right_a = opened_right (count t) (node t a) a ca (s.right a m.here_a)

  right_b : all (record_sound (count t)) (opened b cb (node t b)).log ≡ true
  right_b = opened_right (count t) (node t b) b cb (s.right b m.here_b)

  abbrev pub halfway : List ℕ
  halfway = put_node a (side_a t a b ca cb o) t

  pub halfway_count : count halfway ≡ count t
  halfway_count = put_count t s a m.here_a (side_a t a b ca cb o) side_a_shaped

  pub halfway_form : form_of halfway ≡ form_of t
  halfway_form = put_form t s a m.here_a (side_a t a b ca cb o) side_a_shaped

  pub halfway_sound : Sound halfway
  halfway_sound =
      sound_put t s a m.here_a (side_a t a b ca cb o) side_a_shaped
      (ended_right (count t) a (opened a ca (node t a)) (opened b cb (node t b)) (finishes_a o) right_a right_b)

  pub halfway_here : b < count halfway
  halfway_here = rw halfway_count m.here_b

  pub halfway_shaped : Shaped (form_of halfway) (count halfway) b (side_b t a b ca cb o)
  halfway_shaped = rw (halfway_form, halfway_count) side_b_shaped

  pub session_sound : Sound (acted t (Session a b ca cb o))
  unfolding acted
  session_sound =
      sound_put halfway halfway_sound b halfway_here (side_b t a b ca cb o) halfway_shaped
      (rw halfway_count (ended_right (count t) b (opened b cb (node t b)) (opened a ca (node t a)) (finishes_b o) right_b right_a))

  -- the node of each side afterwards, and of any other
  pub session_count : count (acted t (Session a b ca cb o)) ≡ count t
  unfolding acted
  session_count = put_count halfway halfway_sound b halfway_here (side_b t a b ca cb o) halfway_shaped ∙ halfway_count

  session_long : length (acted t (Session a b ca cb o)) ≡ form_words (form_of t)
  unfolding acted
  session_long = put_long halfway halfway_sound b halfway_here (side_b t a b ca cb o) halfway_shaped ∙ ap form_words halfway_form

  pub session_form : form_of (acted t (Session a b ca cb o)) ≡ form_of t
  unfolding acted
  session_form = put_form halfway halfway_sound b halfway_here (side_b t a b ca cb o) halfway_shaped ∙ halfway_form

  pub session_b : node (acted t (Session a b ca cb o)) b ≡ side_b t a b ca cb o
  unfolding acted
  session_b = node_same halfway halfway_sound b halfway_here (side_b t a b ca cb o) halfway_shaped

  away : (q : ℕ) → q < count t → (q ≡ b → ⊥) → node (acted t (Session a b ca cb o)) q ≡ node halfway q
  unfolding acted
  away q h other = node_other halfway halfway_sound b halfway_here (side_b t a b ca cb o) halfway_shaped q (rw halfway_count h) other

  pub session_a : node (acted t (Session a b ca cb o)) a ≡ side_a t a b ca cb o
  session_a = away a m.here_a m.apart ∙ node_same t s a m.here_a (side_a t a b ca cb o) side_a_shaped

  pub session_mark : (q : ℕ) → mark (acted t (Session a b ca cb o)) q ≡ mark t q
  unfolding acted
  session_mark q =
      mark_put halfway halfway_sound b halfway_here (side_b t a b ca cb o) halfway_shaped q ∙
      mark_put t s a m.here_a (side_a t a b ca cb o) side_a_shaped q

  pub session_other : (q : ℕ) → q < count t → (q ≡ a → ⊥) → (q ≡ b → ⊥) → node (acted t (Session a b ca cb o)) q ≡ node t q
  session_other q h na nb = away q h nb ∙ node_other t s a m.here_a (side_a t a b ca cb o) side_a_shaped q h na

-- what a write and a purge leave fits the table
pub write_shaped : (t : List ℕ) (p c b v : ℕ) → MayWrite t p c → Shaped (form_of t) (count t) p (wrote p c b v (node t p))
write_shaped t p c b v m = wrote_shaped (form_of t) (count t) p (node t p) (node_shaped t m.is_sound p m.here) c b v m.room

pub purge_shaped : (t : List ℕ) (p : ℕ) → MayPurge t p → Shaped (form_of t) (count t) p (purged (leaving t p) (node t p))
purge_shaped t p m = purged_shaped (form_of t) (count t) p (node t p) (node_shaped t m.is_sound p m.here) (leaving t p)

-- a write, a session and a purge leave every mark; a delivery leaves every node and every other mark
pub write_mark : (t : List ℕ) (p c b v : ℕ) → MayWrite t p c → (q : ℕ) → mark (acted t (Write p c b v)) q ≡ mark t q
unfolding acted
write_mark t p c b v m q = mark_put t m.is_sound p m.here (wrote p c b v (node t p)) (write_shaped t p c b v m) q

pub purge_mark : (t : List ℕ) (p : ℕ) → MayPurge t p → (q : ℕ) → mark (acted t (Purge p)) q ≡ mark t q
unfolding acted
purge_mark t p m q = mark_put t m.is_sound p m.here (purged (leaving t p) (node t p)) (purge_shaped t p m) q

pub deliver_node : (t : List ℕ) (p : ℕ) → MayDeliver t p → (q : ℕ) → q < count t → node (acted t (Deliver p)) q ≡ node t q
unfolding acted
deliver_node t p m q h = node-mark t m.is_sound p m.here (raised (mark t p) (node t p)) q h

pub deliver_mark : (t : List ℕ) (p : ℕ) → MayDeliver t p → mark (acted t (Deliver p)) p ≡ raised (mark t p) (node t p)
unfolding acted
deliver_mark t p m = mark_same t m.is_sound p m.here (raised (mark t p) (node t p))

pub deliver_mark_other : (t : List ℕ) (p : ℕ) → MayDeliver t p → (q : ℕ) → (q ≡ p → ⊥) → mark (acted t (Deliver p)) q ≡ mark t q
unfolding acted
deliver_mark_other t p m q other = mark_other t m.is_sound p m.here (raised (mark t p) (node t p)) q other

-- a sound table stays sound, with its count, under every accepted action
pub acted-sound : (t : List ℕ) (x : Action) → verdict_of x ≤ 255 → refusal t x ≡ 0 → Sound (acted t x)
unfolding acted
acted-sound t (Write p c b v) hv k =
    let m = may_write t p c b v k in
    let s = m.is_sound in
    sound_put t s p m.here (wrote p c b v (node t p)) (write_shaped t p c b v m)
    (wrote_right (count t) (node t p) p c b v m.here hv (s.right p m.here))
acted-sound t (Session a b ca cb o) hv k = session_sound t a b ca cb o (may_meet t a b ca cb o k)
acted-sound t (Purge p) hv k =
    let m = may_purge t p k in
    let s = m.is_sound in
    sound_put t s p m.here (purged (leaving t p) (node t p)) (purge_shaped t p m) (purged_right (count t) (leaving t p) (node t p) (s.right p m.here))
acted-sound t (Deliver p) hv k =
    let m = may_deliver t p k in
    sound-mark t m.is_sound p m.here (raised (mark t p) (node t p))

pub acted-count : (t : List ℕ) (x : Action) → refusal t x ≡ 0 → count (acted t x) ≡ count t
unfolding acted
acted-count t (Write p c b v) k =
    let m = may_write t p c b v k in
    put_count t m.is_sound p m.here (wrote p c b v (node t p)) (write_shaped t p c b v m)
acted-count t (Session a b ca cb o) k = session_count t a b ca cb o (may_meet t a b ca cb o k)
acted-count t (Purge p) k =
    let m = may_purge t p k in
    put_count t m.is_sound p m.here (purged (leaving t p) (node t p)) (purge_shaped t p m)
acted-count t (Deliver p) k =
    let m = may_deliver t p k in
    mark-count t m.is_sound p m.here (raised (mark t p) (node t p))

-- and keeps its length
pub acted_long : (t : List ℕ) (x : Action) → refusal t x ≡ 0 → length (acted t x) ≡ form_words (form_of t)
unfolding acted
acted_long t (Write p c b v) k =
    let m = may_write t p c b v k in
    put_long t m.is_sound p m.here (wrote p c b v (node t p)) (write_shaped t p c b v m)
acted_long t (Session a b ca cb o) k = session_long t a b ca cb o (may_meet t a b ca cb o k)
acted_long t (Purge p) k =
    let m = may_purge t p k in
    put_long t m.is_sound p m.here (purged (leaving t p) (node t p)) (purge_shaped t p m)
acted_long t (Deliver p) k =
    let m = may_deliver t p k in
    mark_long t m.is_sound p m.here (raised (mark t p) (node t p))

-- and its form
pub acted_form : (t : List ℕ) (x : Action) → refusal t x ≡ 0 → form_of (acted t x) ≡ form_of t
unfolding acted
acted_form t (Write p c b v) k =
    let m = may_write t p c b v k in
    put_form t m.is_sound p m.here (wrote p c b v (node t p)) (write_shaped t p c b v m)
acted_form t (Session a b ca cb o) k = session_form t a b ca cb o (may_meet t a b ca cb o k)
acted_form t (Purge p) k =
    let m = may_purge t p k in
    put_form t m.is_sound p m.here (purged (leaving t p) (node t p)) (purge_shaped t p m)
acted_form t (Deliver p) k =
    let m = may_deliver t p k in
    mark_form t m.is_sound p m.here (raised (mark t p) (node t p))

-- and under every step at all
after-sound_at : (t : List ℕ) (x : Action) → verdict_of x ≤ 255 → Sound t → (k : ℕ) → refusal t x ≡ k → Sound (after t x)
after-sound_at t x hv s zero h = rw (after-accepted t x h) (acted-sound t x hv h)
after-sound_at t x hv s (suc k) h = rw (after_refused t x k h) s

pub after-sound : (t : List ℕ) (x : Action) → verdict_of x ≤ 255 → Sound t → Sound (after t x)
after-sound t x hv s = after-sound_at t x hv s (refusal t x) refl

after-count_at : (t : List ℕ) (x : Action) (k : ℕ) → refusal t x ≡ k → count (after t x) ≡ count t
after-count_at t x zero h = ap count (after-accepted t x h) ∙ acted-count t x h
after-count_at t x (suc k) h = ap count (after_refused t x k h)

pub after-count : (t : List ℕ) (x : Action) → count (after t x) ≡ count t
after-count t x = after-count_at t x (refusal t x) refl

after_form_at : (t : List ℕ) (x : Action) (k : ℕ) → refusal t x ≡ k → form_of (after t x) ≡ form_of t
after_form_at t x zero h = ap form_of (after-accepted t x h) ∙ acted_form t x h
after_form_at t x (suc k) h = ap form_of (after_refused t x k h)

pub after_form : (t : List ℕ) (x : Action) → form_of (after t x) ≡ form_of t
after_form t x = after_form_at t x (refusal t x) refl

-- a fresh table is sound, and its nodes hold nothing
pub fresh-count : (f : Form) (n : ℕ) → count (fresh f n) ≡ n
unfolding count fresh
fresh-count f n = refl

pub fresh_long : (f : Form) (n : ℕ) → length (fresh f n) ≡ form_words f
unfolding fresh
fresh_long f n = let l = length-replicate (form_words f - 1) (◌-◌ 1 1) in omega arith

pub fresh_form : (f : Form) (n : ℕ) → form_of (fresh f n) ≡ f
fresh_form f n = form_is f (fresh f n) (fresh_long f n)

-- every word of it but the count is zero
pub fresh_word : (f : Form) (n i : ℕ) → count_at < i → i < form_words f → get_or (fresh f n) i 0 ≡ 0
unfolding fresh
fresh_word f n zero h j = absurd (omega arith)
fresh_word f n (suc i) h j = get_or-replicate (form_words f - 1) i 0 0 (omega arith)

fresh-held : (f : Form) (n p : ℕ) → p < nodes_most → held (fresh f n) p ≡ 0
unfolding held
fresh-held f n p h = rw (fresh_form f n) (fresh_word f n (held_at f p) (omega arith) (omega arith))

pub fresh_log : (f : Form) (n p : ℕ) → p < nodes_most → (node (fresh f n) p).log ≡ []
unfolding node records
fresh_log f n p h = rw (fresh-held f n p h)

pub fresh-mark : (f : Form) (n p : ℕ) → p < nodes_most → mark (fresh f n) p ≡ 0
unfolding mark
fresh-mark f n p h = rw (fresh_form f n) (fresh_word f n (mark_at f p) (omega arith) (omega arith))

pub fresh-sound : (f : Form) (n : ℕ) → 2 ≤ n → n ≤ nodes_most → Sound (fresh f n)
unfolding all
fresh-sound f n lo hi =
    let c = fresh-count f n in
    record {
      long = fresh_long f n ∙ ap form_words (sym (fresh_form f n));
      low = rw c lo;
      high = rw c hi;
      room = λ p h. let e = fresh-held f n p (omega arith) in omega arith;
      right = λ p h. rw (fresh_log f n p (omega arith));
    }

-- How code answers: a refusal, or what was done
pub refuse : (t : List ℕ) (x : Action) (r : Refusal) → refusal t x ≡ number_of r → (Err r ≡ reply t x) × (t ≡ after t x)
unfolding reply after
refuse t x r h = (sym (answered_name r (refusal t x) (reported t x) h), sym (unless_name r (refusal t x) (acted t x) t h))

pub accept : (t : List ℕ) (x : Action) → refusal t x ≡ 0 → (Ok (reported t x) ≡ reply t x) × (acted t x ≡ after t x)
unfolding reply after
accept t x h = (rw h, rw h)

-- each number of a step's refusals is a name's, and so the first value of a reply is the number of its refusal
refusal_named : (t : List ℕ) (x : Action) → Named (refusal t x)
unfolding refusal refusals named refusal_of
refusal_named t (Write p c b v) = first_named (refusals t (Write p c b v)) refl
refusal_named t (Session a b ca cb o) = first_named (refusals t (Session a b ca cb o)) refl
refusal_named t (Purge p) = first_named (refusals t (Purge p)) refl
refusal_named t (Deliver p) = first_named (refusals t (Deliver p)) refl

pub reply_number : (t : List ℕ) (x : Action) → get_or (reply_values (reply t x)) 0 0 ≡ refusal t x
unfolding reply
reply_number t x = go (refusal t x) (reported t x) (refusal_named t x)
  where
    go : (k : ℕ) (r : Report) → Named k → get_or (reply_values (answered k r)) 0 0 ≡ k
    go zero Written n = refl
    go zero (Carried a b) n = refl
    go zero (Purged k q) n = refl
    go zero (Delivered k) n = refl
    go (suc k) r (inl e) = absurd (omega (arith, e))
    go (suc k) r (inr e) = e

-- The refusals of a sound table, each by the tests that were passed before it
module _ (t : List ℕ) (s : Sound t) (p c b v : ℕ) where
  pub write_is_3 : count t ≤ p → refusal t (Write p c b v) ≡ 3
  unfolding refusal refusals first
  write_is_3 h = rw (facts_sound t s, le-leb (count t) p h)

  pub write_is_5 : p < count t → c ≤ own p (node t p) → refusal t (Write p c b v) ≡ 5
  unfolding refusal refusals first
  write_is_5 h g = rw (facts_sound t s, lt-leb (count t) p h, le-leb c (own p (node t p)) g)

  pub write_is_6 : p < count t → own p (node t p) < c → log_most ≤ length (node t p).log → refusal t (Write p c b v) ≡ 6
  unfolding refusal refusals first
  write_is_6 h g f = rw (facts_sound t s, lt-leb (count t) p h, lt-leb c (own p (node t p)) g, le-leb log_most (length (node t p).log) f)

  pub write_is_0 : p < count t → own p (node t p) < c → length (node t p).log < log_most → refusal t (Write p c b v) ≡ 0
  unfolding refusal refusals first
  write_is_0 h g f = rw (facts_sound t s, lt-leb (count t) p h, lt-leb c (own p (node t p)) g, lt-leb log_most (length (node t p).log) f)

module _ (t : List ℕ) (s : Sound t) (p : ℕ) where
  pub purge_is_3 : count t ≤ p → refusal t (Purge p) ≡ 3
  unfolding refusal refusals first
  purge_is_3 h = rw (facts_sound t s, le-leb (count t) p h)

  pub purge_is_0 : p < count t → refusal t (Purge p) ≡ 0
  unfolding refusal refusals first
  purge_is_0 h = rw (facts_sound t s, lt-leb (count t) p h)

module _ (t : List ℕ) (s : Sound t) (p : ℕ) where
  pub deliver_is_3 : count t ≤ p → refusal t (Deliver p) ≡ 3
  unfolding refusal refusals first
  deliver_is_3 h = rw (facts_sound t s, le-leb (count t) p h)

  pub deliver_is_26 : p < count t → form_of t ≡ Columns → refusal t (Deliver p) ≡ 26
  unfolding refusal refusals first
  deliver_is_26 h f = rw (facts_sound t s, lt-leb (count t) p h, f)

  pub deliver_is_0 : p < count t → form_of t ≡ Vectors → refusal t (Deliver p) ≡ 0
  unfolding refusal refusals first
  deliver_is_0 h f = rw (facts_sound t s, lt-leb (count t) p h, f)

module _ (t : List ℕ) (s : Sound t) (a b ca cb o : ℕ) where
  pub session_is_2 : 3 < o → refusal t (Session a b ca cb o) ≡ 2
  unfolding refusal refusals first
  session_is_2 h = rw (facts_sound t s, lt-ltb 3 o h)

  pub session_is_3_a : o ≤ 3 → count t ≤ a → refusal t (Session a b ca cb o) ≡ 3
  unfolding refusal refusals first
  session_is_3_a ho h = rw (facts_sound t s, le-ltb 3 o ho, le-leb (count t) a h)

  pub session_is_3_b : o ≤ 3 → count t ≤ b → refusal t (Session a b ca cb o) ≡ 3
  unfolding refusal refusals first
  session_is_3_b ho h = rw (facts_sound t s, le-ltb 3 o ho, le-leb (count t) b h, or-true (leb (count t) a))

  pub session_is_4 : o ≤ 3 → a < count t → b < count t → a ≡ b → refusal t (Session a b ca cb o) ≡ 4
  unfolding refusal refusals first
  session_is_4 ho ha hb e = rw (facts_sound t s, le-ltb 3 o ho, lt-leb (count t) a ha, lt-leb (count t) b hb, eq-eqb a b e)

  -- between two different nodes
  module _ (ho : o ≤ 3) (ha : a < count t) (hb : b < count t) (apart : a ≡ b → ⊥) where
    pub session_is_5_a : ca < own a (node t a) → refusal t (Session a b ca cb o) ≡ 5
    unfolding refusal refusals first
    session_is_5_a h =
        rw
        (facts_sound t s, le-ltb 3 o ho, lt-leb (count t) a ha, lt-leb (count t) b hb, ne_eqb a b apart, lt-ltb ca (own a (node t a)) h)

    pub session_is_5_b : cb < own b (node t b) → refusal t (Session a b ca cb o) ≡ 5
    unfolding refusal refusals first
    session_is_5_b h =
        rw (
          facts_sound t s,
          le-ltb 3 o ho,
          lt-leb (count t) a ha,
          lt-leb (count t) b hb,
          ne_eqb a b apart,
          lt-ltb cb (own b (node t b)) h,
          or-true (ltb ca (own a (node t a))),
        )

    -- where no clock went back
    module _ (ga : own a (node t a) ≤ ca) (gb : own b (node t b) ≤ cb) where
      full : Bool
      full =
          overfull (finishes_a o) (opened a ca (node t a)) (opened b cb (node t b)) ||
          overfull (finishes_b o) (opened b cb (node t b)) (opened a ca (node t a))

      session_room : (k : ℕ) → cond full 6 0 ≡ k → refusal t (Session a b ca cb o) ≡ k
      unfolding refusal refusals first full
      session_room k h =
          rw (
            facts_sound t s,
            le-ltb 3 o ho,
            lt-leb (count t) a ha,
            lt-leb (count t) b hb,
            ne_eqb a b apart,
            le-ltb ca (own a (node t a)) ga,
            le-ltb cb (own b (node t b)) gb,
          )
          h

      pub session_is_6 :
          (overfull (finishes_a o) (opened a ca (node t a)) (opened b cb (node t b)) ||
          overfull (finishes_b o) (opened b cb (node t b)) (opened a ca (node t a))) ≡
          true →
          refusal t (Session a b ca cb o) ≡ 6
      unfolding full
      session_is_6 h = session_room 6 (rw h)

      pub session_is_0 :
          (overfull (finishes_a o) (opened a ca (node t a)) (opened b cb (node t b)) ||
          overfull (finishes_b o) (opened b cb (node t b)) (opened a ca (node t a))) ≡
          false →
          refusal t (Session a b ca cb o) ≡ 0
      unfolding full
      session_is_0 h = session_room 0 (rw h)

pub unsound_refusal : (t : List ℕ) (x : Action) → sound t ≡ false → refusal t x ≡ 1
unfolding refusal refusals first
unsound_refusal t (Write p c b v) h = rw h
unsound_refusal t (Session a b ca cb o) h = rw h
unsound_refusal t (Purge p) h = rw h
unsound_refusal t (Deliver p) h = rw h

-- A log that has grown still begins with what it held
pub log_begins :
    (u : List ℕ) (q k : ℕ) (l more : List Record) → (node u q).log ≡ l ++ more → length l ≡ k →
    records k (part (log_at (form_of u) q) (4 * log_most) u) ≡ l
unfolding node
log_begins u q k l more e h =
    let a = ap length e ∙ length-append l more in
    let b = length-records (held u q) (part (log_at (form_of u) q) (4 * log_most) u) in
    sym (records-take k (held u q) (part (log_at (form_of u) q) (4 * log_most) u) (omega arith)) ∙ ap (take k) e ∙ take_at l more k h

abbrev pub taken : Bool → Node → Node → List Record
taken true mine theirs = sent mine theirs
taken false mine theirs = []

pub ended_log : (f : Bool) (p : ℕ) (x y : Node) → (ended f p x y).log ≡ x.log ++ taken f x y
unfolding finished
ended_log true p x y = refl
ended_log false p x y = sym (append-nil x.log)

-- The table after one side, for any two nodes that fit it
module _ (t : List ℕ) (s : Sound t) (p q : ℕ) (hp : p < count t) (hq : q < count t) (other : q ≡ p → ⊥) (x y : Node)
    (fx : Shaped (form_of t) (count t) p x) (fy : Shaped (form_of t) (count t) q y) (f : Bool) (room : overfull f x y ≡ false)
    (lx : x.log ≡ (node t p).log) (ly : y.log ≡ (node t q).log) where
  fits : Shaped (form_of t) (count t) p (ended f p x y)
  fits = ended_shaped (form_of t) (count t) p x fx q y fy f room

  abbrev pub once : List ℕ
  once = put_node p (ended f p x y) t

  pub once_sound : Sound once
  once_sound =
      sound_put t s p hp (ended f p x y) fits
      (ended_right (count t) p x y f (ap (all (record_sound (count t))) lx ∙ s.right p hp) (ap (all (record_sound (count t))) ly ∙ s.right q hq))

  pub once_count : count once ≡ count t
  once_count = put_count t s p hp (ended f p x y) fits

  pub once_log : (node once q).log ≡ (node t q).log
  once_log = ap (λ (z : Node). z.log) (node_other t s p hp (ended f p x y) fits q hq other)

  pub once_held : held once q ≡ held t q
  once_held = held_log_lem once q ∙ ap length once_log ∙ sym (held_log_lem t q)

  pub once_began : (k : ℕ) → k ≡ held t p → records k (part (log_at (form_of once) p) (4 * log_most) once) ≡ (node t p).log
  once_began k e =
      log_begins once p k (node t p).log (taken f x y)
      (ap (λ (z : Node). z.log) (node_same t s p hp (ended f p x y) fits) ∙ ended_log f p x y ∙ ap (λ (l : List Record). l ++ taken f x y) lx)
      (sym (held_log_lem t p) ∙ sym e)
