-- Laws of lines on a table: what a step counts and keeps, and how far what is left of the lines comes, by the line that is next.
use mathlib.Core.Path.{◌≡◌, refl, sym, ap, ◌∙◌}
use mathlib.Core.Bool.{true, false}
use mathlib.Core.List.{List, [], ◌∷◌}
use Prim.Native.Nat.{ℕ, zero, suc, ◌+◌, ◌-◌, ◌≤◌, ◌<◌}
use native.Mathlib.Omega.{arith}
use lib.ListN.{length}
use denote.Enum.Declared.{variants}
use denote.Enum.Laws.{Fields, spellss, owed}
use denote.Laws.{Is}
use mir.Val.{Val}
use Rattle.meaning.specs.declared.Action.{Action}
use Rattle.meaning.specs.declared.Action.TheVariants.{Write, Session, Purge, Deliver}
use Rattle.meaning.specs.declared.Step.{Step}
use Rattle.std.specs.Prelude.{Some, None, Ok}
use Rattle.meaning.specs.declared.Fault.{Fault}
use Rattle.meaning.specs.declared.NextLine.TheVariants.{Act as ActAt}
use Rattle.meaning.specs.declared.Refusal.TheVariants.{Unsound}
use Rattle.meaning.specs.Refusals.{number_of, fault_at, answered}
use Rattle.meaning.specs.declared.Progress.{Progress}
use Rattle.meaning.specs.Table.{form_of, form_words, sound, Sound}
use Rattle.meaning.specs.Steps.{refusal, reported, reply, after}
use Rattle.meaning.specs.Journals.{Steps, broken, step∷, one_if, next_in, steps_from, after_all, refused_of}
use Rattle.meaning.specs.Lines.{progress, unread, lines_reply, lines_after}
use Rattle.meaning.specs.contracts.Action as A
use Rattle.meaning.proofs.Action.TheLaws as A'
use Rattle.meaning.proofs.TableLaws.{sound_facts}
use Rattle.meaning.proofs.RefusalLaws.{fault_name, fault_at_name}
use Rattle.meaning.proofs.StepLaws.{verdict_of, after_form}
use Rattle.meaning.proofs.JournalLaws.{steps_act, steps_end}
use Rattle.steplines.specs.declared.Turn.{Turn}
use Rattle.steplines.specs.declared.Turn.TheVariants.{Done, Refused, Unsure}
use Rattle.steplines.specs.StepLines.{turn_of}
use Rattle.turns.specs.Turns.{some_due, due_at}
use Rattle.turns.proofs.TurnLaws.{due_room, taken}
use Rattle.lines.specs.declared.Taken.{Taken}
use Rattle.lines.specs.Applying.{one_of, Stepped, TakenAt, AppliedFrom, AppliedLines}

-- an action's verdict is a byte
verdict_in : (x : Action) → Fields (variants A.the_type) (spellss (A.the_type).parts A'.the_laws) ((A.the_type).to x) → verdict_of x ≤ 255
verdict_in (Write p t b v) f = omega (arith, f.1.1.1.0.1)
verdict_in (Session a b ca cb o) f = omega arith
verdict_in (Purge p) f = omega arith
verdict_in (Deliver p) f = omega arith

pub verdict_fits : (x : Action) (vs : List Val) → Is A.the_row x vs → verdict_of x ≤ 255
verdict_fits x vs p = verdict_in x (owed A.the_type A'.the_laws x vs p)

-- a refused step counts 1, and any other 0
pub one_most : (told : Turn) → one_of told ≤ 1
one_most Done = omega arith
one_most Refused = omega arith
one_most Unsure = omega arith

refused_counts : (t : List ℕ) (x : Action) → one_of (turn_of (reply t x)) ≡ one_if (refusal t x)
unfolding reply
refused_counts t x = go (refusal t x)
  where
    go : (k : ℕ) → one_of (turn_of (answered k (reported t x))) ≡ one_if k
    go zero = refl
    go (suc k) = refl

-- How far what is left comes, when so many steps are done, of which so many were refused
unfoldable pub further : ℕ → ℕ → List ℕ → Steps → Progress
further k r t x =
    record { steps = k + length x.steps; refused = r + refused_of t x.steps; stop = x.stop; fault = fault_at x.bad_number x.bad_place }

further_none : (t : List ℕ) (x : Steps) → progress t x ≡ further 0 0 t x
unfolding further
further_none t x =
    let a : 0 + length x.steps ≡ length x.steps = omega arith in
    let b : 0 + refused_of t x.steps ≡ refused_of t x.steps = omega arith in
    rw (a, b)

further_stop : (k r : ℕ) (t : List ℕ) (at line j p : ℕ)
    → further k r t (broken at line j p) ≡ record { steps = k; refused = r; stop = at; fault = fault_at j p }
unfolding further refused_of
further_stop k r t at line j p =
    let a : k + 0 ≡ k = omega arith in
    let b : r + 0 ≡ r = omega arith in
    rw (a, b)

further_step : (k r : ℕ) (t : List ℕ) (x : Step) (y : Steps)
    → further k r t (step∷ x y) ≡ further (k + 1) (r + one_if (refusal t x.action)) (after t x.action) y
unfolding further refused_of
further_step k r t x y =
    let a : k + suc (length y.steps) ≡ k + 1 + length y.steps = omega arith in
    let one = one_if (refusal t x.action) in
    let more = refused_of (after t x.action) y.steps in
    let b : r + (one + more) ≡ r + one + more = omega arith in
    rw (a, b)

after_none : (t : List ℕ) → after_all t [] ≡ t
unfolding after_all
after_none t = refl

after_step : (t : List ℕ) (x : Step) (xs : List Step) → after_all t (x ∷ xs) ≡ after_all (after t x.action) xs
unfolding after_all
after_step t x xs = refl

-- Where the loop stands, begun on the table t₀: after so many steps, at this place with the table t, what is left gives the answer and the table of
-- the whole
pub record Reached (s : List ℕ) (from first : ℕ) (t₀ t : List ℕ) (at steps refused : ℕ) : Type 0 where
  pub passed : steps + from ≤ at
  pub within : at ≤ length s
  pub few : refused ≤ steps
  pub is_sound : Sound t
  pub long : length t ≡ length t₀
  pub answer : progress t₀ (steps_from (length s) s from first) ≡ further steps refused t (steps_from (length s - steps) s at (first + steps))
  pub table : after_all t₀ (steps_from (length s) s from first).steps ≡ after_all t (steps_from (length s - steps) s at (first + steps)).steps

pub reached_start : (s : List ℕ) (from first : ℕ) (t : List ℕ) → Sound t → from ≤ length s → Reached s from first t t from 0 0
reached_start s from first t sound high =
    let k : length s - 0 ≡ length s = omega arith in
    let l : first + 0 ≡ first = omega arith in
    record {
      passed = omega arith;
      within = high;
      few = omega arith;
      is_sound = sound;
      long = refl;
      answer = rw (k, l) (further_none t (steps_from (length s) s from first));
      table = rw (k, l);
    }

module _ {s : List ℕ} {from first : ℕ} {t₀ t : List ℕ} {at steps refused : ℕ} (x : Reached s from first t₀ t at steps refused) where
  -- the lines still to come bound themselves
  left_is : {y : Steps} → at < length s → steps_from (suc (length s - (steps + 1))) s at (first + steps) ≡ y
      → steps_from (length s - steps) s at (first + steps) ≡ y
  left_is h e =
      let k : length s - steps ≡ suc (length s - (steps + 1)) = omega (arith, x.within, x.passed) in
      rw k e

  -- the whole is what is left
  whole : (y : Steps) → steps_from (length s - steps) s at (first + steps) ≡ y
      → AppliedFrom s from first t₀ (further steps refused t y) (after_all t y.steps)
  whole y e =
      record {
        answer = sym (x.answer ∙ ap (further steps refused t) e);
        table = sym (x.table ∙ ap (λ (z : Steps). after_all t z.steps) e);
      }

  stopped : (l j p : ℕ) → steps_from (length s - steps) s at (first + steps) ≡ broken at l j p
      → AppliedFrom s from first t₀ (record { steps = steps; refused = refused; stop = at; fault = fault_at j p }) t
  stopped l j p e =
      let w = whole (broken at l j p) e in
      record { answer = sym (further_stop steps refused t at l j p) ∙ w.answer; table = sym (after_none t) ∙ w.table }

  pub reached_bad : (f : Fault) → at < length s
      → steps_from (suc (length s - (steps + 1))) s at (first + steps) ≡ broken at (first + steps) (number_of f.refusal) f.place
      → AppliedFrom s from first t₀ (record { steps = steps; refused = refused; stop = at; fault = Some f }) t
  reached_bad f h e =
      rw (sym (fault_at_name f.refusal (number_of f.refusal) f.place refl)) (stopped (first + steps) (number_of f.refusal) f.place (left_is h e))

  pub reached_end : next_in false s at (first + steps) ≡ Ok None
      → AppliedFrom s from first t₀ (record { steps = steps; refused = refused; stop = at; fault = None }) t
  reached_end e = stopped 0 0 0 (steps_end (length s - steps) s at (first + steps) e)

  pub reached_step : {y : Step} {next : ℕ} {told : Turn} {t' : List ℕ} → next_in false s at (first + steps) ≡ Ok (Some (ActAt y next)) → at < next
      → next ≤ length s → sound t' ≡ true → Stepped t y.action told t' → Reached s from first t₀ t' next (steps + 1) (refused + one_of told)
  reached_step {y} {next} {told} {t'} e low high kept d =
      let rest = steps_from (length s - (steps + 1)) s next (first + steps + 1) in
      let inside : at < length s = omega arith in
      let w = whole (step∷ y rest) (left_is inside (steps_act (length s - (steps + 1)) s at (first + steps) e)) in
      let l : first + (steps + 1) ≡ first + steps + 1 = omega arith in
      let counts : one_of told ≡ one_if (refusal t y.action) = ap one_of d.tells ∙ refused_counts t y.action in
      let is_sound = sound_facts t' kept in
      record {
        passed = omega (arith, x.passed);
        within = high;
        few = omega (arith, x.few, one_most told);
        is_sound = is_sound;
        long = is_sound.long ∙ ap form_words (ap form_of d.leaves ∙ after_form t y.action) ∙ sym x.is_sound.long ∙ x.long;
        answer = rw l (sym w.answer ∙ further_step steps refused t y rest ∙ rw (counts, d.leaves));
        table = rw l (sym w.table ∙ after_step t y rest.steps ∙ rw d.leaves);
      }

  -- one line taken in a turn, and one left to the reader
  pub reached_turn : (y : Taken) {t' : List ℕ} → TakenAt s at t y t' → sound t' ≡ true
      → (Reached s from first t₀ t' y.next (steps + 1) (refused + one_of y.told)) × (at < y.next) × (y.next ≤ length s)
  reached_turn y {t'} d kept =
      let z = taken s at (due_at s at) refl t y.told t' d.turned d.sure in
      let is : at + (due_at s at + 1) ≡ y.next = sym d.passes in
      let found : next_in false s at (first + steps) ≡ Ok (Some (ActAt (record { line = first + steps; action = z.action }) y.next)) =
      z.found (first + steps) ∙ ap (λ (k : ℕ). Ok (Some (ActAt (record { line = first + steps; action = z.action }) k))) is in
      let low : at < y.next = omega (arith, d.passes) in
      let high : y.next ≤ length s = omega (arith, d.passes, z.room) in
      (reached_step found low high kept (record { tells = z.tells; leaves = z.leaves }), low, high)

  pub reached_kept : {t' : List ℕ} → t' ≡ t → Reached s from first t₀ t' at steps refused
  reached_kept e = rw e x

-- a line that is due ends within what is lent
pub due_within : (s : List ℕ) (at d : ℕ) → Some d ≡ some_due (due_at s at) → at + d < length s
due_within s at d e = go (due_at s at) refl e
  where
    go : (k : ℕ) → due_at s at ≡ k → Some d ≡ some_due k → at + d < length s
    go zero p q = absurd (cc q)
    go (suc k) p q =
        let is : d ≡ suc k = cc q in
        let room = due_room s at (due_at s at) refl (λ z. omega (arith, z, p)) in
        omega (arith, room, p, is)

-- many lines, on a table that is not sound and on one that is
unread_is : unread ≡ record { steps = 0; refused = 0; stop = 0; fault = Some (record { refusal = Unsound; place = 0 }) }
unread_is = ap (λ (f : Fault). record { steps = 0; refused = 0; stop = 0; fault = Some f }) (fault_name Unsound 1 0 refl)

pub lines_unsound : (t s : List ℕ) → sound t ≡ false
    → AppliedLines t s (record { steps = 0; refused = 0; stop = 0; fault = Some (record { refusal = Unsound; place = 0 }) }) t
unfolding lines_reply lines_after
lines_unsound t s h = (sym unread_is ∙ rw h, rw h)

pub lines_sound : (t s : List ℕ) {r : Progress} {t' : List ℕ} → sound t ≡ true → AppliedFrom s 0 1 t r t' → AppliedLines t s r t'
unfolding lines_reply lines_after
lines_sound t s h x = (rw h x.answer, rw h x.table)
