-- Laws of a delivery into a lent list: what is due of a log that is lent, its refusals by the tests that were passed before each, how code answers.
use mathlib.Core.Path.{◌≡◌, refl, sym, ap, ap₂, ◌∙◌}
use mathlib.Core.Bool.{Bool, true, false, ◌&&◌}
use mathlib.Core.List.{List, [], ◌∷◌}
use Prim.Native.Nat.{ℕ, ◌+◌, ◌*◌, ◌-◌, ◌≤◌, ◌<◌}
use native.Mathlib.Omega.{arith}
use borrow.Author.Tests.{leb-true, lt-leb, le-ltb, lt-ltb, ltb-true, ltb-false}
use lib.ListN.{length, length-drop, take, drop}
use lib.Dec.{leb, ltb}
use Rattle.meaning.specs.declared.Record.{Record}
use Rattle.meaning.specs.declared.Action.TheVariants.{Deliver}
use Rattle.meaning.specs.Rows.{keep, due, in_order, records, words}
use Rattle.meaning.specs.declared.Refusal.{Refusal}
use Rattle.meaning.specs.declared.Refusal.TheVariants.{ListShort}
use Rattle.meaning.specs.declared.Report.TheVariants.{Delivered}
use Rattle.meaning.specs.Refusals.{first, number_of}
use Rattle.meaning.specs.Table.{form_of, count, log_most, log_at, mark, node, part, place, put_mark, sound}
use Rattle.std.specs.Prelude.{Ok, Err}
use Rattle.std.proofs.lemmas.List.{get_or-take}
use Rattle.records.specs.Tests.{all_records}
use Rattle.records.proofs.FrontLaws.{front_records}
use Rattle.meaning.proofs.RowLaws.{records_agree}
use Rattle.deliveries.specs.declared.Delivery.{Delivery}
use Rattle.deliveries.specs.Goes.{Goes, due_by}
use Rattle.meaning.specs.Node.{waiting, given, raised}
use Rattle.meaning.specs.Steps.{refusals, refusal, acted, reported, due_of, lent_refusals, lent_refusal, lent_reply, lent_after, list_after}
use Rattle.meaning.proofs.RowLaws.{length-keep}
use Rattle.meaning.proofs.RefusalLaws.{none, given_before, first-none, number_above, answered_name, unless_name}
use Rattle.meaning.proofs.StepLaws.{MayDeliver, may_deliver, accept, acted-sound}
use Rattle.meaning.proofs.TableLaws.{facts_sound, log_length}
use Rattle.looks.specs.Applied.{Applied}
use Rattle.deliveries.specs.Lent.{Lent}

-- no more is due than is held
pub few_due : (mark limit : ℕ) (l : List Record) → length (due mark limit l) ≤ length l
unfolding due
few_due mark limit l = length-keep _ l

-- and nothing where the mark has come as far as the limit
pub none-due : (mark limit : ℕ) → limit ≤ mark → (l : List Record) → due mark limit l ≡ []
unfolding due keep
none-due mark limit h [] = refl
none-due mark limit h (r ∷ rs) = cc (off (leb r.timestamp limit) refl, none-due mark limit h rs)
  where
    off : (b : Bool) → leb r.timestamp limit ≡ b → ltb mark r.timestamp && leb r.timestamp limit ≡ false
    off true e =
        let low = leb-true r.timestamp limit e in
        cc (le-ltb mark r.timestamp (omega arith))
    off false e = rw e (none (ltb mark r.timestamp))
      where
        none : (a : Bool) → a && false ≡ false
        none true = refl
        none false = refl

-- What a delivery goes by, on the table that it was read from
module _ (t : List ℕ) (d : Delivery) (g : Goes t d) where
  pub may : MayDeliver t d.p
  may = may_deliver t d.p g.passed

  pub due_is : due_by t d ≡ waiting (mark t d.p) (node t d.p)
  unfolding waiting
  due_is = ap₂ (λ (x y : ℕ). due x y (node t d.p).log) g.from g.upto

  pub due_few : length (due_by t d) ≤ d.held
  due_few =
      let a = few_due d.which.mark d.which.limit (node t d.p).log in
      let b = log_length t d.p in
      let e = g.many in
      omega arith

  pub few : d.held ≤ log_most
  few = rw g.many (may.is_sound.room d.p may.here)

  -- the held rows of its node's log, as a slice of the table lends them
  module _ (at : ℕ) (ea : at ≡ log_at (form_of t) d.p) where
    pub log_ends : at + 4 * d.held ≤ length t
    log_ends =
        let s = may.is_sound in
        let l = s.long in
        let b = s.high in
        let h = may.here in
        let f = few in
        omega arith

    pub log_is : all_records (take ((at + 4 * d.held) - at) (drop at t)) ≡ (node t d.p).log
    unfolding node part
    log_is =
        let k = d.held in
        let e : (at + 4 * k) - at ≡ 4 * k = omega arith in
        let f = few in
        let l = log_ends in
        let fits : 4 * k ≤ length (drop at t) = omega (arith, length-drop at t) in
        ap (λ (m : ℕ). all_records (take m (drop at t))) e ∙ front_records k (drop at t) fits ∙
        records_agree k (drop at t) (take (4 * log_most) (drop at t)) (λ m h. sym (get_or-take (4 * log_most) (drop at t) m 0 (omega arith))) ∙
        ap₂ (λ (m a : ℕ). records m (take (4 * log_most) (drop a t))) g.many ea

module _ (t : List ℕ) (p k : ℕ) where
  pub lent_is_1 : sound t ≡ false → lent_refusal t k (Deliver p) ≡ 1
  unfolding lent_refusal lent_refusals refusals first
  lent_is_1 h = rw h

  -- a number that is given before 7
  pub lent_before : (j : ℕ) → refusal t (Deliver p) ≡ j → 0 < j → lent_refusal t k (Deliver p) ≡ j
  unfolding lent_refusal lent_refusals refusal
  lent_before j h above = go (none (refusals t (Deliver p))) refl
    where
      go : (b : Bool) → none (refusals t (Deliver p)) ≡ b → first (lent_refusals t k (Deliver p)) ≡ j
      go true e = let z = first-none (refusals t (Deliver p)) e in absurd (omega arith)
      go false e = (given_before (refusals t (Deliver p)) _ e).0 ∙ h

  -- and 7 itself
  module _ (m : MayDeliver t p) where
    pub lent_is_7 : k < 4 * length (waiting (mark t p) (node t p)) → lent_refusal t k (Deliver p) ≡ 7
    unfolding lent_refusal lent_refusals refusals first due_of
    lent_is_7 g = rw (facts_sound t m.is_sound, lt-leb (count t) p m.here, m.form, lt-ltb k (4 * length (waiting (mark t p) (node t p))) g)

    pub lent_is_0 : 4 * length (waiting (mark t p) (node t p)) ≤ k → lent_refusal t k (Deliver p) ≡ 0
    unfolding lent_refusal lent_refusals refusals first due_of
    lent_is_0 g = rw (facts_sound t m.is_sound, lt-leb (count t) p m.here, m.form, le-ltb k (4 * length (waiting (mark t p) (node t p))) g)

-- How code answers: a refusal, or what was done
module _ (t list : List ℕ) (p : ℕ) where
  pub lent_refuse : (r : Refusal) → lent_refusal t (length list) (Deliver p) ≡ number_of r → Lent t list p (Err r) t list
  unfolding lent_reply lent_after list_after
  lent_refuse r h = (
    sym (answered_name r (lent_refusal t (length list) (Deliver p)) (reported t (Deliver p)) h),
    sym (unless_name r (lent_refusal t (length list) (Deliver p)) (acted t (Deliver p)) t h),
    sym (unless_name r (lent_refusal t (length list) (Deliver p)) _ list h),
  )

  -- a refusal that any list meets
  pub lent_refused : (r : Refusal) → refusal t (Deliver p) ≡ number_of r → Lent t list p (Err r) t list
  lent_refused r e =
      lent_refuse r (lent_before t p (length list) (number_of r) e (number_above r))

  pub lent_accept :
      lent_refusal t (length list) (Deliver p) ≡ 0 →
      Lent t list p (Ok (reported t (Deliver p))) (acted t (Deliver p)) (place 0 (words (given (mark t p) (node t p))) list)
  unfolding lent_reply lent_after list_after
  lent_accept h = (rw h, rw h, rw h)

-- What a delivery answers, by what it goes by: into a list
module _ (t list : List ℕ) (d : Delivery) (g : Goes t d) (b : Bool) (eb : b ≡ ltb (length list) (4 * length (due_by t d))) where
  pub short : b ≡ true → Lent t list d.p (Err ListShort) t list
  short h =
      let l = ap length (due_is t d g) in
      let few = ltb-true (length list) (4 * length (due_by t d)) (sym eb ∙ h) in
      lent_refuse t list d.p ListShort (lent_is_7 t d.p (length list) (may t d g) (omega arith))

  pub room : b ≡ false → 4 * length (due_by t d) ≤ length list
  room h = ltb-false (length list) (4 * length (due_by t d)) (sym eb ∙ h)

  pub filled :
      b ≡ false → (k : ℕ) (u out : List ℕ) → k ≡ length (due_by t d) → out ≡ place 0 (words (in_order (due_by t d))) list →
      u ≡ put_mark d.p (raised (mark t d.p) (node t d.p)) t → Lent t list d.p (Ok (Delivered k)) u out
  unfolding reported acted given
  filled h k u out ek eo eu =
      let l = ap length (due_is t d g) in
      let f = room h in
      let a = lent_accept t list d.p (lent_is_0 t d.p (length list) (may t d g) (omega arith)) in (
        ap (λ (n : ℕ). Ok (Delivered n)) (ek ∙ l) ∙ a.0,
        eu ∙ a.1,
        eo ∙ ap (λ (x : List Record). place 0 (words (in_order x)) list) (due_is t d g) ∙ a.2,
      )

-- with no list, and that the table stays sound
module _ (t : List ℕ) (d : Delivery) (g : Goes t d) (u : List ℕ) (eu : u ≡ put_mark d.p (raised (mark t d.p) (node t d.p)) t) where
  pub counted : (k : ℕ) → k ≡ length (due_by t d) → Applied t (Deliver d.p) (Ok (Delivered k)) u
  unfolding reported acted
  counted k ek =
      let a = accept t (Deliver d.p) g.passed in (
        ap (λ (n : ℕ). Ok (Delivered n)) (ek ∙ ap length (due_is t d g)) ∙ a.0,
        eu ∙ a.1,
      )

  pub stays_sound : sound u ≡ true
  unfolding acted
  stays_sound = facts_sound u (rw eu (acted-sound t (Deliver d.p) (omega arith) g.passed))
