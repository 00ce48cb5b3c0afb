-- `soundness::records_sound`. The invariant: no origin is counted and the bits seen make a byte just if each of the records passed is sound.
use Rattle.std.proofs.Common.{◌≡◌, ◌∙◌, ap, ℕ, ◌+◌, ◌*◌, ◌/◌, ◌<◌, ◌&&◌, true, false, List, [], length, get_or, leb, eqb, arith}
use native.Mathlib.Nat.{add-zero}
use lib.Bits.{bit_or}
use mir.Val.{bool_byte}
use Rattle.std.specs.Simd.{first_chunks}
use Rattle.meaning.specs.Rows.{every, record_at}
use Rattle.meaning.specs.Table.{record_sound}
use borrow.Author.Tests.{eq-eqb, ne_eqb}
use Rattle.meaning.proofs.SoundLaws.{scan_starts, scan_more, scan_ends}
use Rattle.soundness.proofs.ScanLaws.{record_word, counted, one_more}
use Rattle.soundness.proofs.records_sound.Goals as goal

pub loop-origin-init : goal.loop-origin-init
loop-origin-init c = record { few = omega arith; passed = scan_starts c.args.w.now c.args.n }

module _ (w : List ℕ) (rows : List (List ℕ)) (is : rows ≡ first_chunks 4 (length w / 4) w) (long : length rows ≡ length w / 4) (n i : ℕ)
    (here : i < length rows) where
  word : (j : ℕ) → j < 4 → get_or (get_or rows i []) j 0 ≡ get_or w (4 * i + j) 0
  word j h = ap (λ (z : List (List ℕ)). get_or (get_or z i []) j 0) is ∙ record_word (length w / 4) w i j (omega arith) h

  more :
      (m v d : ℕ) → d ≡ bool_byte (leb n (get_or (get_or rows i []) 0 0)) →
      (eqb m 0 && leb v 255) ≡ every i (λ k. record_sound n (record_at w k)) →
      (eqb (m + d) 0 && leb (bit_or v (get_or (get_or rows i []) 3 0)) 255) ≡ every (i + 1) (λ k. record_sound n (record_at w k))
  more m v d e before =
      let first : get_or (get_or rows i []) 0 0 ≡ get_or w (4 * i) 0 = word 0 (omega arith) ∙ ap (λ (k : ℕ). get_or w k 0) (add-zero (4 * i)) in
      ap (λ (x : ℕ). eqb (m + d) 0 && leb (bit_or v x) 255) (word 3 (omega arith)) ∙
      scan_more w n i m v d (counted (get_or w (4 * i) 0) n d (e ∙ ap (λ (x : ℕ). bool_byte (leb n x)) first)) before

pub loop-origin-preserved : goal.loop-origin-preserved
loop-origin-preserved c =
    let rows = c.as_chunks.result.0.now in
    let i = c.loop-origin.origin-index in
    let told = c.from-beyonds.ensures in
    let before = c.loop-origin.invariant in
    let least = one_more _ c.from-beyonds.result told in
    record {
      few = omega (arith, before.few);
      passed = more c.args.w.now rows c.as_chunks.ensures.front c.as_chunks.ensures.front_len c.args.n i c.loop-origin-test.true c.loop-origin.beyonds
          c.loop-origin.verdicts c.from-beyonds.result told before.passed;
    }

pub overflow_add-beyonds : goal.overflow_add-beyonds
overflow_add-beyonds c =
    let least = one_more _ c.from-beyonds.result c.from-beyonds.ensures in
    let before = c.loop-origin.invariant in
    let long = c.as_chunks.ensures.front_len in
    omega (arith, before.few)

pub returns-then-beyonds-eq0 : goal.returns-then-beyonds-eq0
returns-then-beyonds-eq0 c =
    let loop = c.loop-origin in
    let long = c.as_chunks.ensures.front_len in
    let end = loop.auto.origin-index-end in
    scan_ends _ _ true loop.origin-index _ loop.beyonds loop.verdicts (omega arith) (omega arith) (eq-eqb loop.beyonds 0 c.if-beyonds-eq0.true)
    loop.invariant.passed

pub returns-else-beyonds-eq0 : goal.returns-else-beyonds-eq0
returns-else-beyonds-eq0 c =
    let loop = c.loop-origin in
    let long = c.as_chunks.ensures.front_len in
    let end = loop.auto.origin-index-end in
    let some = ne_eqb loop.beyonds 0 c.if-beyonds-eq0.false in
    some ∙ scan_ends _ _ false loop.origin-index _ loop.beyonds loop.verdicts (omega arith) (omega arith) some loop.invariant.passed
