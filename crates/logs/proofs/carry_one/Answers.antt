-- `logs::carry_one` meets its contract: the two answers of `is_newer`, and the record's words put where it was newer.
use mathlib.Core.Path.{◌≡◌, ap, sym, ◌∙◌}
use mathlib.Core.Bool.{Bool, true, false, not}
use mathlib.Core.List.{List, [], ◌∷◌}
use Prim.Native.Nat.{ℕ, ◌+◌, ◌*◌, ◌-◌, ◌≤◌}
use native.Mathlib.Omega.{arith}
use lib.ListN.{length, take, drop}
use Rattle.meaning.specs.declared.Record.{Record}
use Rattle.meaning.specs.Rows.{covers, newer, keep_if, record_at, words}
use Rattle.meaning.specs.Table.{log_most, part, place}
use Rattle.meaning.proofs.PlaceLaws.{place_none}
use Rattle.meaning.proofs.RowLaws.{newer_one_is, words-none}
use Rattle.logs.specs.Carry.{log_record, Carries, Puts}
use Rattle.logs.proofs.carry_one.Goals as goal

-- the record read from the part that was lent
read : (from row : ℕ) (t : List ℕ) (r : Record) → r ≡ record_at (take ((from + 256) - from) (drop from t)) row → r ≡ log_record from row t
unfolding part
read from row t r e =
    let q : (from + 256) - from ≡ 4 * log_most = omega arith in
    e ∙ ap (λ (m : ℕ). record_at (take m (drop from t)) row) q

module _ (from row to : ℕ) (t s : List ℕ) (r : Record) (e : r ≡ log_record from row t) where
  one : (b : Bool) → b ≡ not (covers s r) → newer s (log_record from row t ∷ []) ≡ keep_if b r []
  one b h = ap (λ (x : Record). newer s (x ∷ [])) (sym e) ∙ newer_one_is s r b (sym h)

  room : Carries t from row to s → true ≡ not (covers s r) → to + 4 ≤ length t
  room c h =
      let f = c.fits in
      let l = ap length (one true h) in
      omega arith

  taken :
      true ≡ not (covers s r) → (u : List ℕ) → u ≡ place to (words (r ∷ [])) t → Puts to (newer s (log_record from row t ∷ [])) t 1 u
  taken h u g =
      record { many = sym (ap length (one true h)); leaves = g ∙ ap (λ (x : List Record). place to (words x) t) (sym (one true h)) }

  left : false ≡ not (covers s r) → Puts to (newer s (log_record from row t ∷ [])) t 0 t
  left h =
      let none = ap (λ (x : List Record). place to (words x) t) (one false h) ∙ ap (λ (x : List ℕ). place to x t) words-none ∙ place_none to t in
      record { many = sym (ap length (one false h)); leaves = sym none }

pub is_newer-requires : goal.is_newer-requires
is_newer-requires c =
    let e = read c.args.from c.args.row c.args.t.now c.record_at-r.result c.record_at-r.ensures in rw e c.requires.known

pub put_record-requires : goal.put_record-requires
put_record-requires c =
    let e = read c.args.from c.args.row c.args.t.now c.record_at-r.result c.record_at-r.ensures in
    room c.args.from c.args.row c.args.to c.args.t.now c.args.summary.now c.record_at-r.result
    e c.requires (sym c.if-is_newer.true ∙ c.is_newer.ensures)

pub returns-then-is_newer : goal.returns-then-is_newer
returns-then-is_newer c =
    let e = read c.args.from c.args.row c.args.t.now c.record_at-r.result c.record_at-r.ensures in
    taken c.args.from c.args.row c.args.to c.args.t.now c.args.summary.now c.record_at-r.result
    e (sym c.if-is_newer.true ∙ c.is_newer.ensures) c.put_record.new.t c.put_record.ensures

pub returns-else-is_newer : goal.returns-else-is_newer
returns-else-is_newer c =
    let e = read c.args.from c.args.row c.args.t.now c.record_at-r.result c.record_at-r.ensures in
    left c.args.from c.args.row c.args.to c.args.t.now c.args.summary.now c.record_at-r.result
    e (sym c.if-is_newer.false ∙ c.is_newer.ensures)
