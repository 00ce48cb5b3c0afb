-- `logs::carry` meets its contract: the invariant says that the newer records of the rows passed stand at `to` and the rest is as it was.
use mathlib.Core.Path.{◌≡◌, refl, ap, ap₂, sym, ◌∙◌}
use mathlib.Core.List.{List, [], ◌∷◌, ◌++◌}
use Prim.Native.Nat.{ℕ, ◌+◌, ◌*◌, ◌≤◌, ◌<◌}
use native.Mathlib.Omega.{arith}
use lib.ListN.{length, length-append}
use Rattle.meaning.specs.declared.Record.{Record}
use Rattle.meaning.specs.Rows.{newer, record_at, records, words}
use Rattle.meaning.specs.Table.{log_most, part, place, record_sound}
use Rattle.meaning.proofs.PlaceLaws.{place_none, place-append, part_away}
use Rattle.meaning.proofs.RowLaws.{newer-row, newer-none, newer_grows, words-none, words_append, length-words, length-newer, length-records, all_row}
use Rattle.meaning.proofs.TableLaws.{origin_below}
use Rattle.logs.specs.Carry.{log_record, Carries, CarriesAll, Puts}
use Rattle.logs.proofs.carry.Invariants.{carried_to, sent}
use Rattle.logs.proofs.carry.Goals as goal

few : (s : List ℕ) (from i : ℕ) (t : List ℕ) → length (sent s from i t) ≤ i
few s from i t =
    let a = length-newer s (records i (part from (4 * log_most) t)) in
    let b = length-records i (part from (4 * log_most) t) in
    omega arith

module _ (t : List ℕ) (from held to : ℕ) (s : List ℕ) (pre : CarriesAll t from held to s) (i : ℕ) (h : i < held) where
  -- the log is as it was
  same : (u : List ℕ) → u ≡ carried_to s from to i t → part from (4 * log_most) u ≡ part from (4 * log_most) t
  same u e =
      let g = newer_grows s (part from (4 * log_most) t) i held (omega arith) in
      let l = length-words (sent s from i t) in
      let f = pre.fits in
      ap (part from (4 * log_most)) e ∙
      part_away from (4 * log_most) to (words (sent s from i t)) t (omega arith) pre.inside (λ a b. pre.apart (omega arith) b)

  next : sent s from (i + 1) t ≡ sent s from i t ++ newer s (record_at (part from (4 * log_most) t) i ∷ [])
  next = newer-row s i (part from (4 * log_most) t)

  ready : (u : List ℕ) (k : ℕ) → u ≡ carried_to s from to i t → length u ≡ length t → k ≡ length (sent s from i t) → Carries u from i (to + 4 * k) s
  ready u k e l hk =
      let p = same u e in
      let g = newer_grows s (part from (4 * log_most) t) (i + 1) held (omega arith) in
      let n = ap length next ∙ length-append (sent s from i t) (newer s (record_at (part from (4 * log_most) t) i ∷ [])) in
      let f = pre.fits in
      let b = pre.below in
      let w = pre.inside in
      record {
        inside = omega arith;
        below = omega arith;
        known =
            rw p
            (origin_below (length s) (record_at (part from (4 * log_most) t) i)
            (all_row (record_sound (length s)) held (part from (4 * log_most) t) pre.known i h));
        fits = rw p (omega arith);
      }

  more :
      {u v : List ℕ} {k n : ℕ} → Puts (to + 4 * k) (newer s (log_record from i u ∷ [])) u n v → u ≡ carried_to s from to i t →
      k ≡ length (sent s from i t) → (k + n ≡ length (sent s from (i + 1) t)) × (v ≡ carried_to s from to (i + 1) t)
  more {u} {v} {k} {n} put hu hk =
      let hn = put.many in
      let p = same u hu in
      let one : newer s (record_at (part from (4 * log_most) u) i ∷ []) ≡ newer s (record_at (part from (4 * log_most) t) i ∷ []) =
      ap (λ (z : List ℕ). newer s (record_at z i ∷ [])) p
      in
      let x : List Record = newer s (record_at (part from (4 * log_most) t) i ∷ []) in
      let l = ap length next ∙ length-append (sent s from i t) x in
      let g = newer_grows s (part from (4 * log_most) t) (i + 1) held (omega arith) in
      let a = length-words (sent s from i t) in
      let b = length-words x in
      let f = pre.fits in
      let o = ap length one in (
        omega arith,
        put.leaves ∙ ap₂ (λ (y : List Record) (z : List ℕ). place (to + 4 * k) (words y) z) one hu ∙
            place-append to (to + 4 * k) (words (sent s from i t)) (words x) t (omega arith) (omega arith) ∙
            ap (λ (z : List ℕ). place to z t) (sym (words_append (sent s from i t) x)) ∙
            ap (λ (z : List Record). place to (words z) t) (sym next),
      )

none : (s : List ℕ) (from to : ℕ) (t : List ℕ) → (0 ≡ length (sent s from 0 t)) × (t ≡ carried_to s from to 0 t)
none s from to t = (
  sym (ap length (newer-none s (part from (4 * log_most) t))),
  sym
      (ap (λ (z : List Record). place to (words z) t) (newer-none s (part from (4 * log_most) t)) ∙ ap (λ (z : List ℕ). place to z t) words-none ∙
      place_none to t),
)

pub loop-row-init : goal.loop-row-init
loop-row-init c =
    let n = none c.args.summary.now c.args.from c.args.to c.args.t.now in (refl, n.0, n.1)

pub overflow_mul-carried : goal.overflow_mul-carried
overflow_mul-carried c =
    let f = few c.args.summary.now c.args.from c.loop-row.row c.args.t.now in
    let p = c.requires.below in
    omega arith

pub overflow_add-to : goal.overflow_add-to
overflow_add-to c =
    let f =
    newer_grows c.args.summary.now (part c.args.from (4 * log_most) c.args.t.now) c.loop-row.row c.args.held (omega arith)
    in
    let p = c.requires.fits in
    omega arith

pub carry_one-carried-requires : goal.carry_one-carried-requires
carry_one-carried-requires c =
    ready c.args.t.now c.args.from c.args.held c.args.to c.args.summary.now c.requires c.loop-row.row
    (omega arith) c.loop-row.t c.loop-row.carried c.loop-row.invariant.2 c.loop-row.invariant.0 c.loop-row.invariant.1

pub overflow_add-carried : goal.overflow_add-carried
overflow_add-carried c =
    let m =
    more c.args.t.now c.args.from c.args.held c.args.to c.args.summary.now c.requires c.loop-row.row
    (omega arith) c.carry_one-carried.ensures c.loop-row.invariant.2 c.loop-row.invariant.1
    in
    let e = m.0 in
    let f = few c.args.summary.now c.args.from (c.loop-row.row + 1) c.args.t.now in
    let p = c.requires.below in
    omega arith

pub loop-row-preserved : goal.loop-row-preserved
loop-row-preserved c =
    let m =
    more c.args.t.now c.args.from c.args.held c.args.to c.args.summary.now c.requires c.loop-row.row
    (omega arith) c.carry_one-carried.ensures c.loop-row.invariant.2 c.loop-row.invariant.1
    in
    (c.carry_one-carried.auto.t ∙ c.loop-row.invariant.0, m.0, m.1)

pub returns : goal.returns
returns c =
    let e : c.loop-row.row ≡ c.args.held = omega arith in
    record {
      many = c.loop-row.invariant.1 ∙ ap (λ (m : ℕ). length (sent c.args.summary.now c.args.from m c.args.t.now)) e;
      leaves =
          c.loop-row.invariant.2 ∙ ap (λ (m : ℕ). carried_to c.args.summary.now c.args.from c.args.to m c.args.t.now) e;
    }
