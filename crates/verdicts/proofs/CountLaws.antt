-- The verdict count as the code counts: from the last record to the first, by the verdicts' low bytes, and the verdicts' bits gathered.
use mathlib.Core.Path.{◌≡◌, refl, sym, ap, ◌∙◌}
use mathlib.Core.Bool.{Bool, true, false, ◌&&◌, and-true}
use mathlib.Core.List.{List, [], ◌∷◌, map}
use Prim.Native.Nat.{ℕ, ◌+◌, ◌-◌, ◌*◌, ◌/◌, ◌%◌, ◌<◌, ◌≤◌}
use native.Mathlib.Omega.{arith}
use borrow.Author.Tests.{le-leb, lt-leb, leb-true}
use lib.ListN.{length, replicate}
use lib.Bits.{bit_or}
use lib.Dec.{leb}
use Rattle.meaning.specs.declared.Record.{Record}
use Rattle.std.specs.Prelude.{Ok, Err}
use Rattle.meaning.specs.declared.Refusal.TheVariants.{Unsound}
use Rattle.meaning.specs.Refusals.{first, refusal_of}
use Rattle.meaning.specs.Rows.{all, every, record_at, records}
use Rattle.meaning.specs.Table.{log_most}
use Rattle.meaning.specs.Verdicts.{scrubbed, touched, gap, counted, verdict_count}
use Rattle.meaning.proofs.BitLaws.{or_byte}
use Rattle.meaning.proofs.RowLaws.{and_left, and_right, every-records}
use Rattle.meaning.proofs.SoundLaws.{every-none, every_more}
use Rattle.meaning.proofs.VerdictLaws.{whole_refusal}
use Rattle.meaning.proofs.VerdictTheorems.{touched_most}
use Rattle.pairs.specs.Chains.{Noted, low_byte, since}
use Rattle.pairs.proofs.KeptLaws.{noted-none}

moved : (a b c : Bool) → ((a && b) && c) ≡ (a && (c && b))
moved false b c = refl
moved true true true = refl
moved true true false = refl
moved true false true = refl
moved true false false = refl

-- records whose verdicts are bytes are as they are classed
low_byte_lem : (r : Record) → leb r.verdict 255 ≡ true → low_byte r ≡ r
low_byte_lem r h =
    let l = leb-true r.verdict 255 h in
    let e : r.verdict % 256 ≡ r.verdict = omega arith in
    λ i. record { origin = r.origin; timestamp = r.timestamp; block = r.block; verdict = e i }

low_bytes : (rs : List Record) → all (λ r. leb r.verdict 255) rs ≡ true → map low_byte rs ≡ rs
unfolding all
low_bytes [] h = refl
low_bytes (r ∷ rs) h =
    let f : Record → Bool = λ (x : Record). leb x.verdict 255 in
    let e = low_byte_lem r (and_left (f r) (all f rs) h) in
    let ih = low_bytes rs (and_right (f r) (all f rs) h) in
    λ i. e i ∷ ih i

module _ (w : List ℕ) where
  -- The records from row k on are counted, and their verdicts are gathered.
  pub record Counting (k : ℕ) (heads links : List ℕ) (s t seen : ℕ) : Type 0 where
    pub inside : 4 * k ≤ length w
    pub noted : Noted w k heads links s t
    pub bytes : every (length w / 4) (λ i. leb (record_at w i).verdict 255) ≡ (every k (λ i. leb (record_at w i).verdict 255) && leb seen 255)

  module _ (room : length w ≤ 4 * log_most) (whole : length w % 4 ≡ 0) where
    pub counting_none : Counting (length w / 4) (replicate 64 0) (replicate 64 0) 0 0 0
    counting_none =
        record {
          inside = omega arith;
          noted = noted-none w room;
          bytes = sym (and-true (every (length w / 4) (λ i. leb (record_at w i).verdict 255)));
        }

    pub counting_more : (n s t s' t' seen v : ℕ) (heads links heads' links' : List ℕ) → 0 < n → v ≡ (record_at w (n - 1)).verdict
        → Noted w (n - 1) heads' links' s' t' → Counting n heads links s t seen → Counting (n - 1) heads' links' s' t' (bit_or seen v)
    counting_more n s t s' t' seen v heads links heads' links' some ev noted' before =
        let en : n ≡ n - 1 + 1 = omega arith in
        record {
          inside = omega (arith, before.inside);
          noted = noted';
          bytes =
              before.bytes ∙
              ap (λ (k : ℕ). every k (λ i. leb (record_at w i).verdict 255) && leb seen 255) en ∙
              (rw (every_more, or_byte, ← ev) (moved (every (n - 1) (λ i. leb (record_at w i).verdict 255)) (leb v 255) (leb seen 255)));
        }

    -- the answer, where all are counted: a verdict that is no byte, or the counts
    module _ (n : ℕ) (done : n < 1) (heads links : List ℕ) (s t seen : ℕ) (counting : Counting n heads links s t seen) where
      n_0 : n ≡ 0
      n_0 = omega arith

      every_byte : every (length w / 4) (λ i. leb (record_at w i).verdict 255) ≡ leb seen 255
      every_byte = counting.bytes ∙ rw (n_0, every-none)

      pub count-wide : 255 < seen → Err Unsound ≡ verdict_count w
      unfolding verdict_count first refusal_of
      count-wide wide = rw (whole_refusal w (length w / 4) (omega arith) (omega arith), every_byte, lt-leb seen 255 wide)

      module _ (low : seen ≤ 255) where
        all_bytes : since w n ≡ records (length w / 4) w
        all_bytes =
            ap (since w) n_0 ∙
            low_bytes (records (length w / 4) w)
            (sym (every-records (length w / 4) (λ x. leb x.verdict 255) w) ∙ every_byte ∙ le-leb seen 255 low)

        count-scrubbed : s ≡ scrubbed (records (length w / 4) w)
        count-scrubbed = counting.noted.scrubs ∙ ap scrubbed all_bytes

        count-touched : t ≡ touched (records (length w / 4) w)
        count-touched = counting.noted.touches ∙ ap touched all_bytes

        -- so the gap is a number
        pub count-gap : t ≤ s
        count-gap =
            let a = count-scrubbed in
            let b = count-touched in
            omega (arith, touched_most (records (length w / 4) w))

        pub count-all : Ok (record { scrubbed = s; touched = t; gap = s - t }) ≡ verdict_count w
        unfolding verdict_count first counted gap
        count-all = rw (whole_refusal w (length w / 4) (omega arith) (omega arith), every_byte, le-leb seen 255 low, count-scrubbed, count-touched)
