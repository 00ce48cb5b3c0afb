-- Laws of the slots: one record more, from the last to the first. Its pair is no news to the slots, or the record is put first in its slot.
use mathlib.Core.Path.{◌≡◌, refl, sym, ap, subst, ◌∙◌}
use mathlib.Core.Bool.{Bool, true, false, not, ◌&&◌, ◌||◌, cond}
use mathlib.Core.List.{List, [], ◌∷◌, map}
use Prim.Native.Nat.{ℕ, suc, ◌+◌, ◌-◌, ◌*◌, ◌/◌, ◌%◌, ◌<◌, ◌≤◌}
use native.Mathlib.Omega.{arith}
use borrow.Author.Tests.{ltb-true, ltb-false, eqb-true, eqb-false, lt-ltb}
use lib.ListN.{length, get_or, drop, set, replicate, length-set, length-map, length-drop, length-replicate}
use lib.ListN.{get_or-replicate, drop_of_length-le, get_or-eq_default}
use lib.Seq.{drop-cons, get_or-set_same, get_or-set_other}
use lib.Dec.{ltb, eqb}
use Rattle.meaning.specs.declared.Class.{Class}
use Rattle.meaning.specs.declared.Class.TheVariants.{NotRead, PageCache, PlatterGood, PlatterBad, Repaired, Reserved}
use Rattle.meaning.specs.declared.Record.{Record}
use Rattle.meaning.specs.Rows.{keep, record_at, records}
use Rattle.meaning.specs.Table.{log_most}
use Rattle.meaning.specs.Verdicts.{class_of, is_scrubbed, is_touched, Pair, pair_of, same_pair, among, different, pairs_of, scrubbed, touched}
use Rattle.meaning.proofs.AccountLaws.{by_test, not_both}
use Rattle.meaning.proofs.PairLaws.{pair_eq, pairs_none, pairs_cons, pairs_more, pairs_weaker}
use Rattle.meaning.proofs.RowLaws.{no_record, get_or-records, length-records}
use Rattle.pairs.specs.Chains.{Kept, Noted, Rising, Seeks, ends, goes, low_byte, since, slot_of, touched_at}
use Rattle.pairs.proofs.ChainLaws.{on_other, on_some, seeks_away, stops_same, within_if}

-- What is touched is scrubbed.
touched-scrubbed : (c : Class) → is_touched c ≡ true → is_scrubbed c ≡ true
touched-scrubbed NotRead h = h
touched-scrubbed PageCache h = refl
touched-scrubbed PlatterGood h = refl
touched-scrubbed PlatterBad h = refl
touched-scrubbed Repaired h = refl
touched-scrubbed Reserved h = h

-- a head is a record of the list, or none
pub head_within : (w : List ℕ) (at : ℕ) (heads links : List ℕ) → Kept w at heads links → (h : ℕ) → 4 * get_or heads h 0 ≤ length w
head_within w at heads links kept h = within_if (get_or heads h 0) (length w) (λ b. (kept.head h b).1)

module _ (w : List ℕ) (i : ℕ) (whole : 4 * i + 4 ≤ length w) where
  -- the record of row i by its verdict's low byte, and its class
  abbrev r : Record
  r = low_byte (record_at w i)

  abbrev c : Class
  c = class_of r.verdict

  abbrev rest : List Record
  rest = since w (i + 1)

  since-row : since w i ≡ r ∷ rest
  since-row =
      let l = length-records (length w / 4) w in
      let e : suc i ≡ i + 1 = omega arith in
      ap (map low_byte) (drop-cons (records (length w / 4) w) i no_record (omega arith)) ∙
      ap (λ (x : Record). low_byte x ∷ map low_byte (drop (suc i) (records (length w / 4) w))) (get_or-records (length w / 4) w i (omega arith)) ∙
      ap (λ (k : ℕ). r ∷ since w k) e

  -- a pair among those of the records from row i on, and how many there are
  among-row : (f : Class → Bool) (x : Pair) → among x (pairs_of f (since w i)) ≡ (f c && same_pair x (pair_of r)) || among x (pairs_of f rest)
  among-row f x = ap (λ (rs : List Record). among x (pairs_of f rs)) since-row ∙ pairs_cons f x r rest

  more_row : (f : Class → Bool) (b : Bool) → b ≡ f c && not (among (pair_of r) (pairs_of f rest))
      → length (pairs_of f rest) + cond b 1 0 ≡ length (pairs_of f (since w i))
  more_row f b eb = sym (ap (λ (rs : List Record). length (pairs_of f rs)) since-row ∙ pairs_more f r rest ∙ rw (← eb))

  scrubbed-row : (n : ℕ) (b : Bool) → n ≡ scrubbed rest → b ≡ is_scrubbed c && not (among (pair_of r) (pairs_of is_scrubbed rest))
      → n + cond b 1 0 ≡ scrubbed (since w i)
  unfolding scrubbed
  scrubbed-row n b en eb = ap (λ (k : ℕ). k + cond b 1 0) en ∙ more_row is_scrubbed b eb

  touched-row : (n : ℕ) (b : Bool) → n ≡ touched rest → b ≡ is_touched c && not (among (pair_of r) (pairs_of is_touched rest))
      → n + cond b 1 0 ≡ touched (since w i)
  unfolding touched
  touched-row n b en eb = ap (λ (k : ℕ). k + cond b 1 0) en ∙ more_row is_touched b eb

  module _ (heads links : List ℕ) (kept : Kept w (i + 1) heads links) where
    abbrev slot : ℕ
    slot = slot_of (pair_of r)

    -- what the slots know of a pair from a row on, where the search for it ends at k
    abbrev Known : ℕ → Pair → ℕ → Type 0
    Known at x k = (ltb 0 k ≡ among x (pairs_of is_scrubbed (since w at))) × (0 < k → touched_at w k ≡ among x (pairs_of is_touched (since w at)))

    -- a record of another pair says nothing of this one
    known_other : (x : Pair) (k : ℕ) → same_pair x (pair_of r) ≡ false → Known (i + 1) x k → Known i x k
    known_other x k o h =
        let s = among-row is_scrubbed x in
        let t = among-row is_touched x in
        let s' : (is_scrubbed c && same_pair x (pair_of r)) ≡ false = by_test (is_scrubbed c) (λ e. cc) (λ e. cc) in
        let t' : (is_touched c && same_pair x (pair_of r)) ≡ false = by_test (is_touched c) (λ e. cc) (λ e. cc) in
        (h.0 ∙ cc, λ b. h.1 b ∙ cc)

    -- where heads and links stay as they are, it is enough what they know
    kept_same : ((x : Pair) (k : ℕ) → Known (i + 1) x k → Known i x k) → Kept w i heads links
    kept_same still =
        record {
          rising = kept.rising;
          slots = kept.slots;
          head = λ h b. let a = kept.head h b in (omega (arith, a.0), a.1);
          knows = λ x k s. still x k (kept.knows x k s);
        }

    -- a record that is not scrubbed leaves all as it is
    module _ (not_scrubbed : is_scrubbed c ≡ false) where
      not_touched : is_touched c ≡ false
      not_touched = by_test (is_touched c) (λ e. not_both (is_scrubbed c) (touched-scrubbed c e) not_scrubbed) (λ e. e)

      kept_passed : Kept w i heads links
      kept_passed =
          kept_same
          (λ x k h.
          let a = among-row is_scrubbed x in
          let b = among-row is_touched x in
          let n = not_touched in
          (h.0 ∙ cc, λ g. h.1 g ∙ cc))

      pub noted_passed : (s t : ℕ) → s ≡ scrubbed rest → t ≡ touched rest → Noted w i heads links s t
      noted_passed s t es et =
          let n = not_touched in
          let a : s + 0 ≡ scrubbed (since w i) = scrubbed-row s false es (cc) in
          let b : t + 0 ≡ touched (since w i) = touched-row t false et (cc) in
          record { kept = kept_passed; scrubs = omega arith; touches = omega arith }

    module _ (scrub : is_scrubbed c ≡ true) (t : Bool) (touch : t ≡ is_touched c) where
      -- what a pair is among, if it is this record's pair
      here_scrubbed : (x : Pair) → same_pair x (pair_of r) ≡ true → among x (pairs_of is_scrubbed (since w i)) ≡ true
      here_scrubbed x o = let a = among-row is_scrubbed x in cc

      here_touched : (x : Pair) → same_pair x (pair_of r) ≡ true → among x (pairs_of is_touched (since w i)) ≡ t || among (pair_of r) (pairs_of is_touched rest)
      here_touched x o =
          let a = among-row is_touched x in
          let b : among x (pairs_of is_touched rest) ≡ among (pair_of r) (pairs_of is_touched rest)
          = ap (λ (y : Pair). among y (pairs_of is_touched rest)) (pair_eq x (pair_of r) o) in
          by_test t (λ e. cc) (λ e. cc)

      -- The record is put first in its slot: no record of its pair was touched, if this one is not
      module _ (low : slot < 64) (right : (t || among (pair_of r) (pairs_of is_touched rest)) ≡ t) where
        abbrev first : ℕ
        first = get_or heads slot 0

        abbrev heads' : List ℕ
        heads' = set heads slot (i + 1)

        abbrev links' : List ℕ
        links' = set links i first

        link_here : get_or links' i 0 ≡ first
        link_here = get_or-set_same links i first 0 (omega (arith, kept.rising.rows, kept.rising.room))

        link_else : (j : ℕ) → (j ≡ i → ⊥) → get_or links' j 0 ≡ get_or links j 0
        link_else j o = get_or-set_other links i j first 0 o

        rising' : Rising w links'
        rising' =
            record {
              room = kept.rising.room;
              rows = length-set links i first ∙ kept.rising.rows;
              link =
                  λ k b.
                  by_test (eqb k i)
                  (λ e.
                  let n : get_or links' k 0 ≡ first = ap (λ (j : ℕ). get_or links' j 0) (eqb-true k i e) ∙ link_here in
                  let f : 0 < first = subst (λ (j : ℕ). 0 < j) n b in
                  let h = kept.head slot f in
                  let g = eqb-true k i e in
                  (subst (λ (j : ℕ). k + 1 < j) (sym n) (omega (arith, h.0)), subst (λ (j : ℕ). 4 * j ≤ length w) (sym n) h.1))
                  (λ e.
                  let n : get_or links k 0 ≡ get_or links' k 0 = sym (link_else k (eqb-false k i e)) in
                  subst (λ (j : ℕ). (k + 1 < j) × (4 * j ≤ length w)) n (kept.rising.link k (subst (λ (j : ℕ). 0 < j) (sym n) b)));
            }

        head_here : get_or heads' slot 0 ≡ i + 1
        head_here = get_or-set_same heads slot (i + 1) 0 (omega (arith, kept.slots))

        head_else : (h : ℕ) → (h ≡ slot → ⊥) → get_or heads' h 0 ≡ get_or heads h 0
        head_else h o = get_or-set_other heads slot h (i + 1) 0 o

        -- what a search for another pair finds: what it found
        away : (x : Pair) (k z : ℕ) → same_pair x (pair_of r) ≡ false → z ≡ get_or heads (slot_of x) 0 → Seeks w links' x z k → Known i x k
        away x k z o ez s =
            let later : 0 < z → i + 1 < z = λ b. subst (λ (j : ℕ). i + 1 < j) (sym ez) (kept.head (slot_of x) (subst (λ (j : ℕ). 0 < j) ez b)).0 in
            let s' = seeks_away w x links kept.rising links' (i + 1) (λ j h. link_else j (λ e. omega arith)) later s in
            known_other x k o (kept.knows x k (subst (λ (j : ℕ). Seeks w links x j k) ez s'))

        -- and one for this pair, the record itself
        found : (x : Pair) (k z : ℕ) → z ≡ i + 1 → get_or heads (slot_of x) 0 ≡ first → Seeks w links' x z k → Known i x k
        found x k z ez ef (ends e) =
            let z1 : z - 1 ≡ i = omega arith in
            let o : same_pair x (pair_of r) ≡ true = ap (λ (j : ℕ). same_pair x (pair_of (record_at w j))) (sym z1) ∙ stops_same w x z e (omega arith) in
            let b : ltb 0 z ≡ true = lt-ltb 0 z (omega arith) in
            let m : touched_at w z ≡ t = ap (λ (j : ℕ). is_touched (class_of ((record_at w j).verdict % 256))) z1 ∙ sym touch in
            (b ∙ sym (here_scrubbed x o), λ g. m ∙ sym (here_touched x o ∙ right))
        found x k z ez ef (goes g s) =
            let z1 : z - 1 ≡ i = omega arith in
            let o : same_pair x (pair_of r) ≡ false = ap (λ (j : ℕ). same_pair x (pair_of (record_at w j))) (sym z1) ∙ on_other w x z g in
            let n : get_or links' (z - 1) 0 ≡ first = ap (λ (j : ℕ). get_or links' j 0) z1 ∙ link_here in
            away x k (get_or links' (z - 1) 0) o (n ∙ sym ef) s

        kept_put : Kept w i heads' links'
        kept_put =
            record {
              rising = rising';
              slots = length-set heads slot (i + 1) ∙ kept.slots;
              head =
                  λ h b.
                  by_test (eqb h slot)
                  (λ e.
                  let n : get_or heads' h 0 ≡ i + 1 = ap (λ (j : ℕ). get_or heads' j 0) (eqb-true h slot e) ∙ head_here in
                  (subst (λ (j : ℕ). i < j) (sym n) (omega arith), subst (λ (j : ℕ). 4 * j ≤ length w) (sym n) (omega arith)))
                  (λ e.
                  let n = head_else h (eqb-false h slot e) in
                  let a = kept.head h (subst (λ (j : ℕ). 0 < j) n b) in
                  (subst (λ (j : ℕ). i < j) (sym n) (omega (arith, a.0)), subst (λ (j : ℕ). 4 * j ≤ length w) (sym n) a.1));
              knows =
                  λ x k s.
                  by_test (eqb (slot_of x) slot)
                  (λ e.
                  let es = eqb-true (slot_of x) slot e in
                  found x k (get_or heads' (slot_of x) 0) (ap (λ (j : ℕ). get_or heads' j 0) es ∙ head_here) (ap (λ (j : ℕ). get_or heads j 0) es) s)
                  (λ e.
                  let ne = eqb-false (slot_of x) slot e in
                  away x k (get_or heads' (slot_of x) 0)
                  (by_test (same_pair x (pair_of r)) (λ o. absurd (ne (ap slot_of (pair_eq x (pair_of r) o)))) (λ o. o)) (head_else (slot_of x) ne) s);
            }

      -- What is noted of a record, where the search for its pair ended at k
      module _ (k : ℕ) (seek : Seeks w links (pair_of r) (get_or heads slot 0) k) (s n : ℕ) (es : s ≡ scrubbed rest) (en : n ≡ touched rest) where
        scrubbed_yet : ltb 0 k ≡ among (pair_of r) (pairs_of is_scrubbed rest)
        scrubbed_yet = (kept.knows (pair_of r) k seek).0

        -- the pair is new
        pub noted_new : k ≡ 0 → slot < 64 → Noted w i (set heads slot (i + 1)) (set links i (get_or heads slot 0)) (s + 1) (n + cond t 1 0)
        noted_new ek low =
            let a : among (pair_of r) (pairs_of is_scrubbed rest) ≡ false = sym scrubbed_yet ∙ ap (ltb 0) ek in
            let b : among (pair_of r) (pairs_of is_touched rest) ≡ false
            = by_test (among (pair_of r) (pairs_of is_touched rest))
            (λ e. not_both (among (pair_of r) (pairs_of is_scrubbed rest)) (pairs_weaker is_touched is_scrubbed touched-scrubbed (pair_of r) rest e) a)
            (λ e. e) in
            record {
              kept = kept_put low (by_test t (λ e. cc) (λ e. cc));
              scrubs = scrubbed-row s true es (cc);
              touches = touched-row n t en (by_test t (λ e. cc) (λ e. cc));
            }

        -- or it is known
        module _ (some : 0 < k) where
          known-scrubbed : among (pair_of r) (pairs_of is_scrubbed rest) ≡ true
          known-scrubbed = sym scrubbed_yet ∙ lt-ltb 0 k some

          known-touched : touched_at w k ≡ among (pair_of r) (pairs_of is_touched rest)
          known-touched = (kept.knows (pair_of r) k seek).1 some

          scrubs_same : s ≡ scrubbed (since w i)
          scrubs_same =
              let a = known-scrubbed in
              let b : s + 0 ≡ scrubbed (since w i) = scrubbed-row s false es (cc) in
              omega arith

          -- and is touched already, or need not be
          pub noted-known : (t || touched_at w k) ≡ touched_at w k → Noted w i heads links s n
          noted-known no_news =
              let a = known-scrubbed in
              let b = known-touched in
              let e : n + 0 ≡ touched (since w i) = touched-row n false en (by_test t (λ f. by_test (touched_at w k) (λ g. cc) (λ g. cc)) (λ f. cc)) in
              record {
                kept =
                    kept_same
                    (λ x j h.
                    by_test (same_pair x (pair_of r))
                    (λ o.
                    let y : (f : Class → Bool) → among x (pairs_of f rest) ≡ among (pair_of r) (pairs_of f rest)
                    = λ f. ap (λ (z : Pair). among z (pairs_of f rest)) (pair_eq x (pair_of r) o) in (
                      h.0 ∙ y is_scrubbed ∙ a ∙ sym (here_scrubbed x o),
                      λ g. h.1 g ∙ y is_touched ∙ sym (here_touched x o ∙ cc),
                    ))
                    (λ o. known_other x j o h));
                scrubs = scrubs_same;
                touches = omega arith;
              }

          -- or becomes so
          pub noted_risen : t ≡ true → touched_at w k ≡ false → slot < 64
              → Noted w i (set heads slot (i + 1)) (set links i (get_or heads slot 0)) s (n + 1)
          noted_risen et em low =
              let b = known-touched in
              record {
                kept = kept_put low (cc);
                scrubs = scrubs_same;
                touches = touched-row n true en (cc);
              }

-- No record yet: every head and every link is 0
abbrev none : List ℕ
none = replicate 64 0

long_none : length none ≡ 64
long_none = length-replicate {A = ℕ} 64 0

zero-none : (k : ℕ) → get_or none k 0 ≡ 0
zero-none k =
    by_test (ltb k 64) (λ e. get_or-replicate {A = ℕ} 64 k 0 0 (ltb-true k 64 e))
    (λ e. get_or-eq_default none 0 {n = k} (let l = long_none in let h = ltb-false k 64 e in omega arith))

module _ (w : List ℕ) (whole : length w ≤ 4 * log_most) where
  none-since : since w (length w / 4) ≡ []
  none-since =
      ap (map low_byte) (drop_of_length-le (records (length w / 4) w) {i = length w / 4} (let l = length-records (length w / 4) w in omega arith))

  -- a search from 0 is at its end
  at_end : (x : Pair) (k z : ℕ) (links : List ℕ) → z ≡ 0 → Seeks w links x z k → k ≡ 0
  at_end x k z links e (ends f) = e
  at_end x k z links e (goes g s) = absurd (let b = on_some w x z g in omega arith)

  kept_none : Kept w (length w / 4) (replicate 64 0) (replicate 64 0)
  kept_none =
      record {
        rising =
            record {
              room = whole;
              rows = long_none;
              link = λ k b. absurd (let e = zero-none k in omega arith);
            };
        slots = long_none;
        head = λ h b. absurd (let z = zero-none h in omega arith);
        knows =
            λ x k s.
            let e = at_end x k (get_or none (slot_of x) 0) none (zero-none (slot_of x)) s in (
              ap (ltb 0) e ∙ sym (ap (λ (rs : List Record). among x (pairs_of is_scrubbed rs)) none-since ∙ pairs_none is_scrubbed x),
              λ b. absurd (omega arith),
            );
      }

  pub noted-none : Noted w (length w / 4) (replicate 64 0) (replicate 64 0) 0 0
  unfolding scrubbed touched pairs_of different keep
  noted-none = record { kept = kept_none; scrubs = rw none-since; touches = rw none-since }

-- no more pairs than records
pairs_length : (f : Class → Bool) (rs : List Record) → length (pairs_of f rs) ≤ length rs
unfolding pairs_of different keep
pairs_length f [] = omega arith
pairs_length f (r ∷ rs) =
    let ih = pairs_length f rs in
    let h = pairs_more f r rs in
    go (f (class_of r.verdict) && not (among (pair_of r) (pairs_of f rs))) h ih
  where
    go : (b : Bool) → length (pairs_of f (r ∷ rs)) ≡ length (pairs_of f rs) + cond b 1 0 → length (pairs_of f rs) ≤ length rs
        → length (pairs_of f (r ∷ rs)) ≤ suc (length rs)
    go true h ih = omega arith
    go false h ih = omega arith

-- so neither count is above 64
pub noted_low : (w : List ℕ) (at : ℕ) (heads links : List ℕ) (s t : ℕ) → Noted w at heads links s t → (s ≤ 64) × (t ≤ 64)
unfolding scrubbed touched
noted_low w at heads links s t noted =
    let room = noted.kept.rising.room in
    let m = length-map (drop at (records (length w / 4) w)) low_byte in
    let a = length-drop at (records (length w / 4) w) in
    let b = length-records (length w / 4) w in
    let es = noted.scrubs in
    let et = noted.touches in
    let ps = pairs_length is_scrubbed (since w at) in
    let pt = pairs_length is_touched (since w at) in
    (omega arith, omega arith)
