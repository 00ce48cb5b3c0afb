-- Laws of the verdict count: the classes, the counts record by record, the refusals, and the log of a node. Document 01, "Verdict count";
-- document 02, T-05.
use mathlib.Core.Path.{◌≡◌, refl, sym, ap, ◌∙◌}
use mathlib.Core.Bool.{Bool, true, false, not, ◌&&◌, cond}
use mathlib.Core.List.{List, [], ◌∷◌}
use Prim.Native.Nat.{ℕ, suc, ◌+◌, ◌-◌, ◌*◌, ◌/◌, ◌%◌, ◌<◌, ◌≤◌}
use native.Mathlib.Omega.{arith}
use borrow.Author.Tests.{le-ltb, lt-ltb, eq-eqb, ne_eqb, le-leb, lt-leb}
use lib.ListN.{length, take, drop, length-take, length-drop}
use lib.Seq.{get_or-take, drop-cons}
use lib.Dec.{leb, ltb}
use Rattle.meaning.specs.declared.Record.{Record}
use Rattle.meaning.specs.declared.Class.TheVariants.{NotRead, PageCache, PlatterGood, PlatterBad, Repaired, Reserved}
use Rattle.meaning.specs.Rows.{every, all, keep, record_at, records}
use Rattle.std.specs.Prelude.{Err}
use Rattle.meaning.specs.declared.Refusal.TheVariants.{Unsound, NodeAbsent}
use Rattle.meaning.specs.Refusals.{refusal_of, test, first}
use Rattle.meaning.specs.Table.{form_of, log_most, log_at, part, count, held, node, sound, record_sound}
use Rattle.meaning.specs.Verdicts.{
  Count,
  class_of,
  is_scrubbed,
  is_touched,
  pair_of,
  among,
  different,
  pairs_of,
  scrubbed,
  touched,
  gap,
  counted,
  count_refusal,
  verdict_count,
  node_count,
}
use Rattle.meaning.proofs.RowLaws.{
  no_record,
  and_right,
  and_both,
  and_left,
  length-keep,
  length-records,
  get_or-records,
  every-records,
  records_agree,
}
use Rattle.meaning.proofs.PairLaws.{pairs_more, pairs_few}
use Rattle.meaning.proofs.TableLaws.{sound_facts}

-- The class of a byte, found by its upper end where the lower ones were passed
pub class_1 : (v : ℕ) → v ≤ 0x0f → NotRead ≡ class_of v
unfolding class_of
class_1 v h = rw (le-leb v 0x0f h)

pub class_2 : (v : ℕ) → 0x0f < v → v ≤ 0x1f → PageCache ≡ class_of v
unfolding class_of
class_2 v l h = rw (lt-leb v 0x0f l, le-leb v 0x1f h)

pub class_3 : (v : ℕ) → 0x1f < v → v ≤ 0x2f → PlatterGood ≡ class_of v
unfolding class_of
class_3 v l h = rw (lt-leb v 0x0f (omega arith), lt-leb v 0x1f l, le-leb v 0x2f h)

pub class_4 : (v : ℕ) → 0x2f < v → v ≤ 0x3f → PlatterBad ≡ class_of v
unfolding class_of
class_4 v l h = rw (lt-leb v 0x0f (omega arith), lt-leb v 0x1f (omega arith), lt-leb v 0x2f l, le-leb v 0x3f h)

pub class_5 : (v : ℕ) → 0x3f < v → v ≤ 0x4f → Repaired ≡ class_of v
unfolding class_of
class_5 v l h = rw (lt-leb v 0x0f (omega arith), lt-leb v 0x1f (omega arith), lt-leb v 0x2f (omega arith), lt-leb v 0x3f l, le-leb v 0x4f h)

pub class_6 : (v : ℕ) → 0x4f < v → Reserved ≡ class_of v
unfolding class_of
class_6 v l = rw (lt-leb v 0x0f (omega arith), lt-leb v 0x1f (omega arith), lt-leb v 0x2f (omega arith), lt-leb v 0x3f (omega arith), lt-leb v 0x4f l)

-- The counts, from the last record to the first: one more for a record that passes, if none of those after it that pass has its pair.
pub scrubbed-none : scrubbed [] ≡ 0
unfolding scrubbed pairs_of different keep
scrubbed-none = refl

pub touched_none : touched [] ≡ 0
unfolding touched pairs_of different keep
touched_none = refl

pub scrubbed_more : (r : Record) (rs : List Record)
    → scrubbed (r ∷ rs) ≡ scrubbed rs + cond (is_scrubbed (class_of r.verdict) && not (among (pair_of r) (pairs_of is_scrubbed rs))) 1 0
unfolding scrubbed
scrubbed_more = pairs_more is_scrubbed

pub touched_more : (r : Record) (rs : List Record)
    → touched (r ∷ rs) ≡ touched rs + cond (is_touched (class_of r.verdict) && not (among (pair_of r) (pairs_of is_touched rs))) 1 0
unfolding touched
touched_more = pairs_more is_touched

-- there are no more of them than records
pub scrubbed_few : (rs : List Record) → scrubbed rs ≤ length rs
unfolding scrubbed
scrubbed_few rs =
    let a = pairs_few is_scrubbed rs in
    let b = length-keep (λ (r : Record). is_scrubbed (class_of r.verdict)) rs in
    omega arith

pub touched_few : (rs : List Record) → touched rs ≤ length rs
unfolding touched
touched_few rs =
    let a = pairs_few is_touched rs in
    let b = length-keep (λ (r : Record). is_touched (class_of r.verdict)) rs in
    omega arith

-- the records of a list of words from the i-th on: the i-th, and those after it
pub records_rest : (k : ℕ) (w : List ℕ) (i : ℕ) → i < k → drop i (records k w) ≡ record_at w i ∷ drop (suc i) (records k w)
records_rest k w i below =
    let l = length-records k w in
    drop-cons (records k w) i no_record (omega arith) ∙ ap (λ (r : Record). r ∷ drop (suc i) (records k w)) (get_or-records k w i below)

-- the answer of three numbers
pub counted_is : (rs : List Record) (s t g : ℕ) → s ≡ scrubbed rs → t ≡ touched rs → g ≡ s - t → record { scrubbed = s; touched = t; gap = g } ≡ counted rs
unfolding counted gap
counted_is rs s t g es et eg = rw (← es, ← et, eg)

module _ (w : List ℕ) where
  -- the answer: a list that is no whole records, and one that is too long
  pub count_uneven : (length w % 4 ≡ 0 → ⊥) → Err Unsound ≡ verdict_count w
  unfolding verdict_count count_refusal first refusal_of
  count_uneven odd = rw (ne_eqb (length w % 4) 0 odd)

  pub count_long : length w % 4 ≡ 0 → 4 * log_most < length w → Err Unsound ≡ verdict_count w
  unfolding verdict_count count_refusal first refusal_of
  count_long even long = rw (eq-eqb (length w % 4) 0 even, lt-ltb (4 * log_most) (length w) long)

  -- of k whole records only a verdict that is no byte is refused
  module _ (k : ℕ) (whole : length w ≡ 4 * k) (room : k ≤ log_most) where
    pub whole_refusal : count_refusal w ≡ first (test 1 (not (every k (λ i. leb (record_at w i).verdict 255))) ∷ [])
    unfolding count_refusal first
    whole_refusal =
        let rows : length w / 4 ≡ k = omega arith in
        rw (eq-eqb (length w % 4) 0 (omega arith), le-ltb (4 * log_most) (length w) (omega arith), rows)

-- where one test implies another, so do they over a list
all_weaker : (f g : Record → Bool) → ((r : Record) → f r ≡ true → g r ≡ true) → (rs : List Record) → all f rs ≡ true → all g rs ≡ true
unfolding all
all_weaker f g weaker [] h = refl
all_weaker f g weaker (r ∷ rs) h =
    and_both (g r) (all g rs) (weaker r (and_left (f r) (all f rs) h)) (all_weaker f g weaker rs (and_right (f r) (all f rs) h))

sound_byte : (n : ℕ) (r : Record) → record_sound n r ≡ true → leb r.verdict 255 ≡ true
unfolding record_sound
sound_byte n r = and_right (ltb r.origin n) (leb r.verdict 255)

-- The count over a node's log: the held part of the log, as a list of words, is counted.
module _ (t : List ℕ) (p : ℕ) where
  held-records : (h k at : ℕ) → h ≡ held t p → at ≡ log_at (form_of t) p → k ≡ 4 * h → h ≤ log_most → records h (take k (drop at t)) ≡ (node t p).log
  unfolding node part
  held-records h k at eh ea ek room =
      rw (ea, ek, ← eh)
      (records_agree h (take (4 * h) (drop (log_at (form_of t) p) t)) (take (4 * log_most) (drop (log_at (form_of t) p) t))
      (λ m below. get_or-take (4 * h) (drop (log_at (form_of t) p) t) m 0 below ∙
      sym (get_or-take (4 * log_most) (drop (log_at (form_of t) p) t) m 0 (omega arith))))

  pub node_unsound : sound t ≡ false → Err Unsound ≡ node_count t p
  unfolding node_count first refusal_of
  node_unsound h = rw h

  pub node-absent : (n : ℕ) → sound t ≡ true → n ≡ count t → n ≤ p → Err NodeAbsent ≡ node_count t p
  unfolding node_count first refusal_of
  node-absent n h en absent = rw (h, ← en, le-leb n p absent)

  pub node-counted : (h k at : ℕ) (r : Count) → sound t ≡ true → p < count t → h ≡ held t p → at ≡ log_at (form_of t) p
      → r ≡ verdict_count (take k (drop at t)) → k ≡ 4 * h → r ≡ node_count t p
  unfolding node_count verdict_count first
  node-counted h k at r good present eh ea er ek =
      let s = sound_facts t good in
      let room : h ≤ log_most = omega (arith, s.room p present) in
      let long : length (take k (drop at t)) ≡ 4 * h = simp (length-take, length-drop) (omega (arith, s.long, s.high)) in
      let log = held-records h k at eh ea ek room in
      let rows : length (take k (drop at t)) / 4 ≡ h = omega arith in
      let bytes : every h (λ i. leb (record_at (take k (drop at t)) i).verdict 255) ≡ true
      = every-records h (λ x. leb x.verdict 255) (take k (drop at t)) ∙
      (ap (all (λ (x : Record). leb x.verdict 255)) log ∙
      all_weaker (record_sound (count t)) (λ x. leb x.verdict 255) (sound_byte (count t)) (node t p).log (s.right p present)) in
      er ∙ rw (whole_refusal (take k (drop at t)) h long room, bytes, rows, log, good, lt-leb (count t) p present)
