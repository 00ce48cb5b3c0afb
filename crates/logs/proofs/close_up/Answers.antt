-- `logs::close_up` meets its contract: the rows passed closed up, and one row more, of a record that leaves or one that stays.
use Rattle.std.proofs.Common.{◌≡◌, Bool, true, false, not, List, [], ◌∷◌, ◌++◌, ℕ, zero, suc, ◌+◌, ◌*◌, ◌≤◌, ◌<◌, length, get_or, arith}
use Rattle.std.proofs.Common.{refl, sym, ap, ◌∙◌, append-nil}
use lib.ListN.{length-append}
use Rattle.meaning.specs.declared.Record.{Record}
use Rattle.meaning.specs.Rows.{record_at, records, words}
use Rattle.meaning.specs.Table.{place}
use Rattle.meaning.proofs.PlaceLaws.{place_none, place-append, get_d_beyond}
use Rattle.meaning.proofs.RowLaws.{words-none, words_append, length-words, length-keep, length-records, record_at_agree}
use Rattle.logs.specs.Carry.{stay}
use Rattle.logs.proofs.MoveLaws.{none_stays, stay-row, stay_one}
use Rattle.logs.proofs.close_up.Invariants.{closed}
use Rattle.logs.proofs.close_up.Goals as goal
use Rattle.logs.proofs.close_up.Goals.{then-not-goes, else-not-goes}

few : (leaves : Record → Bool) (i : ℕ) (w : List ℕ) → length (stay leaves (records i w)) ≤ i
few leaves i w =
    let a = length-keep (λ (r : Record). not (leaves r)) (records i w) in
    let b = length-records i w in
    omega arith

module _ (leaves : Record → Bool) (i : ℕ) (w : List ℕ) (fits : 4 * i + 4 ≤ length w) where
  room : 0 + length (words (stay leaves (records i w))) ≤ length w
  room =
      let a = few leaves i w in
      let b = length-words (stay leaves (records i w)) in
      omega arith

  -- one row more: what is put of it stands behind what stays of the rows before
  gone_on : leaves (record_at w i) ≡ true → stay leaves (records (i + 1) w) ≡ stay leaves (records i w)
  gone_on h =
      stay-row leaves i w ∙ ap (λ x. stay leaves (records i w) ++ x) (stay_one leaves (record_at w i) true h) ∙ append-nil (stay leaves (records i w))

  kept_on : leaves (record_at w i) ≡ false → stay leaves (records (i + 1) w) ≡ stay leaves (records i w) ++ (record_at w i ∷ [])
  kept_on h = stay-row leaves i w ∙ ap (λ x. stay leaves (records i w) ++ x) (stay_one leaves (record_at w i) false h)

  goes : (k : ℕ) (u : List ℕ) → leaves (record_at w i) ≡ true → (k ≡ length (stay leaves (records i w))) × (u ≡ closed leaves i w) →
      (k ≡ length (stay leaves (records (i + 1) w))) × (u ≡ closed leaves (i + 1) w)
  goes k u h (hk, hu) = (hk ∙ sym (ap length (gone_on h)), hu ∙ sym (ap (λ x. place 0 (words x) w) (gone_on h)))

  stays :
      (k : ℕ) (u v : List ℕ) → leaves (record_at w i) ≡ false → v ≡ place (4 * k) (words (record_at w i ∷ [])) u →
      (k ≡ length (stay leaves (records i w))) × (u ≡ closed leaves i w) →
      (k + 1 ≡ length (stay leaves (records (i + 1) w))) × (v ≡ closed leaves (i + 1) w)
  stays k u v h put (hk, hu) =
      let l = ap length (kept_on h) ∙ length-append (stay leaves (records i w)) (record_at w i ∷ []) in
      let a = length-words (stay leaves (records i w)) in
      let b = length-words (record_at w i ∷ []) in
      let c = few leaves i w in (
        omega arith,
        put ∙ ap (place (4 * k) (words (record_at w i ∷ []))) hu ∙
            place-append 0 (4 * k) (words (stay leaves (records i w))) (words (record_at w i ∷ [])) w (omega arith) (omega arith) ∙
            ap (λ z. place 0 z w) (sym (words_append (stay leaves (records i w)) (record_at w i ∷ []))) ∙
            ap (λ z. place 0 (words z) w) (sym (kept_on h)),
      )

-- the first row is of a record that leaves: nothing of it stays
gone : (leaves : Record → Bool) (w : List ℕ) → leaves (record_at w 0) ≡ true → stay leaves (records 1 w) ≡ []
gone leaves w h =
    stay-row leaves 0 w ∙
    ap (λ (z : List Record). z ++ stay leaves (record_at w 0 ∷ [])) (none_stays leaves w) ∙
    stay_one leaves (record_at w 0) true h

none : (leaves : Record → Bool) (w : List ℕ) → leaves (record_at w 0) ≡ true → (0 ≡ length (stay leaves (records 1 w))) × (w ≡ closed leaves 1 w)
none leaves w h = (
  sym (ap length (gone leaves w h)),
  sym (ap (λ (z : List Record). place 0 (words z) w) (gone leaves w h) ∙ ap (λ (z : List ℕ). place 0 z w) words-none ∙ place_none 0 w),
)

-- so fewer stay than were passed: each record moves up by a row at least
fewer : (leaves : Record → Bool) (i : ℕ) (w : List ℕ) → leaves (record_at w 0) ≡ true → length (stay leaves (records (i + 1) w)) ≤ i
fewer leaves zero w h = let e = (none leaves w h).0 in omega arith
fewer leaves (suc i) w h =
    let f = fewer leaves i w h in
    let e : suc i ≡ i + 1 = omega arith in
    let l = ap length (stay-row leaves (i + 1) w) ∙ length-append (stay leaves (records (i + 1) w)) (stay leaves (record_at w (i + 1) ∷ [])) in
    let a = length-keep (λ (r : Record). not (leaves r)) (record_at w (i + 1) ∷ []) in
    rw e (omega arith)

pub loop-row-init : goal.loop-row-init
loop-row-init g c = record {
  free = omega arith;
  few = omega arith;
  long = refl;
  rest = λ m h. refl;
  done = λ rule f closes. none rule c.args.tail.now closes.first;
}

-- the row that is looked at is as it was
pub same_row :
    (w u : List ℕ) (i : ℕ) (r : Record) → ((m : ℕ) → 4 * i ≤ m → get_or u m 0 ≡ get_or w m 0) → r ≡ record_at u i → r ≡ record_at w i
same_row w u i r rest e = e ∙ record_at_agree u w i i (λ m h. rest (4 * i + m) (omega arith))

pub goes-requires : goal.goes-requires
goes-requires g c =
    let r = same_row c.args.tail.now c.loop-row.tail c.loop-row.row c.record_at-r.result c.loop-row.invariant.rest c.record_at-r.ensures in
    rw r (c.requires.askable c.loop-row.row (omega arith))

-- a record put above the row leaves the rows behind it as they were
behind :
    (k i : ℕ) (r : Record) (w u v : List ℕ) → k < i → 4 * i ≤ length u → v ≡ place (4 * k) (words (r ∷ [])) u →
    ((m : ℕ) → 4 * i ≤ m → get_or u m 0 ≡ get_or w m 0) → (m : ℕ) → 4 * (i + 1) ≤ m → get_or v m 0 ≡ get_or w m 0
behind k i r w u v h fits put rest m g =
    let l = length-words (r ∷ []) in
    ap (λ z. get_or z m 0) put ∙ get_d_beyond (4 * k) (words (r ∷ [])) u (omega arith) m (omega arith) ∙ rest m (omega arith)

pub loop-row-preserved : goal.loop-row-preserved
loop-row-preserved g c =
    let w = c.args.tail.now in
    let row = c.loop-row.row in
    let kept = c.loop-row.kept in
    let before = c.loop-row.invariant in
    let long = before.long in
    let fits : 4 * row + 4 ≤ length w = omega arith in
    let r = same_row w c.loop-row.tail row c.record_at-r.result before.rest c.record_at-r.ensures in
    elim c.if-not-goes.branch [
      | then-not-goes b ↦
          let put : c.if-not-goes.tail ≡ place (4 * kept) (words (c.record_at-r.result ∷ [])) c.loop-row.tail = b.tail-is ∙ b.put_record.ensures in
          record {
            free = omega arith;
            few = omega arith;
            long = c.if-not-goes.auto.tail ∙ long;
            rest = behind kept row c.record_at-r.result w c.loop-row.tail c.if-not-goes.tail (omega arith) (omega arith) put before.rest;
            done = λ rule f closes.
                let said = f row c.goes.result (omega arith) (rw (← r) c.goes.ensures) in
                let next =
                stays rule row w fits kept c.loop-row.tail c.if-not-goes.tail (sym said ∙ b.if-not-goes.true)
                (put ∙ ap (λ x. place (4 * kept) (words (x ∷ [])) c.loop-row.tail) r) (before.done rule f closes)
                in
                (b.kept-is ∙ next.0, next.1);
          }
      | else-not-goes b ↦ record {
        free = omega arith;
        few = omega arith;
        long = c.if-not-goes.auto.tail ∙ long;
        rest = λ m h. ap (λ z. get_or z m 0) b.tail-is ∙ before.rest m (omega arith);
        done = λ rule f closes.
            let said = f row c.goes.result (omega arith) (rw (← r) c.goes.ensures) in
            let next = goes rule row w fits kept c.loop-row.tail (sym said ∙ b.if-not-goes.false) (before.done rule f closes) in
            (b.kept-is ∙ next.0, b.tail-is ∙ next.1);
      }
    ]
