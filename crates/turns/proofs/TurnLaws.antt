-- Laws of a turn: where the line of so many digits ends, and that the reader finds the same step there.
use mathlib.Core.Path.{◌≡◌, refl, sym, ap, ◌∙◌}
use mathlib.Core.Bool.{Bool, true, false, cond}
use mathlib.Core.List.{List, [], ◌∷◌}
use Prim.Native.Nat.{ℕ, zero, suc, ◌+◌, ◌-◌, ◌≤◌, ◌<◌}
use native.Mathlib.Omega.{arith}
use lib.Dec.{leb, eqb}
use lib.ListN.{length, get_or, take, drop, length-drop, get_or-eq_default}
use lib.Seq.{get_or-take, get_or-drop, length-take-le}
use borrow.Author.Tests.{leb-true, leb-false, eqb-true, eqb-false, eq-eqb, ne_eqb, lt-leb}
use Rattle.meaning.specs.declared.Action.{Action}
use Rattle.std.specs.Prelude.{Option, Some, Ok}
use Rattle.meaning.specs.declared.Said.TheVariants.{Act}
use Rattle.meaning.specs.declared.NextLine.TheVariants.{Act as ActAt}
use Rattle.meaning.specs.Steps.{reply, after}
use Rattle.meaning.specs.Frames.{Line, bytes_of, all_digits, digit_value, journal_kinds, action_of, line_kind, line_fields, line_refusal, read_line}
use Rattle.meaning.specs.Journals.{until_lf, has_lf, line_at, place_after, next_in}
use Rattle.meaning.proofs.FrameLaws.{digit-none, digits_cons, digits_even, Good, good, read_wrong, read_begin, read_act}
use Rattle.meaning.proofs.JournalLaws.{line_ended, ended}
use Rattle.heads.proofs.QuickLaws.{no_length}
use Rattle.meaning.specs.Lines.{left_by}
use Rattle.steplines.specs.declared.Turn.{Turn}
use Rattle.steplines.specs.declared.Turn.TheVariants.{Unsure}
use Rattle.steplines.specs.StepLines.{turn_of, told_of, Turned, Begins}
use Rattle.steplines.proofs.StepLineLaws.{turned_none}
use Rattle.turns.specs.Turns.{some_due, due_by, ends_at, due_at, said_at}

-- so many digits, as an option
pub some_is : (k : ℕ) → 0 < k → Some k ≡ some_due k
some_is zero h = absurd (omega arith)
some_is (suc k) h = refl

pub due_told : (d k : ℕ) → Some d ≡ some_due k → d ≡ k
due_told d zero e = absurd (cc e)
due_told d (suc k) e = cc e

-- the digits that are due, by the kind's two characters
module _ (high low : ℕ) where
  pub due_write : high ≡ 48 → low ≡ 49 → due_by high low ≡ 24
  unfolding due_by
  due_write p q = rw (p, q)

  pub due_session : high ≡ 48 → low ≡ 50 → due_by high low ≡ 26
  unfolding due_by
  due_session p q = rw (p, q)

  pub due_purge : high ≡ 48 → low ≡ 51 → due_by high low ≡ 6
  unfolding due_by
  due_purge p q = rw (p, q)

  pub due_delivery : high ≡ 48 → low ≡ 53 → due_by high low ≡ 6
  unfolding due_by
  due_delivery p q = rw (p, q)

  pub due_other : high ≡ 48 → (low ≡ 49 → ⊥) → (low ≡ 50 → ⊥) → (low ≡ 51 → ⊥) → (low ≡ 53 → ⊥) → due_by high low ≡ 0
  unfolding due_by
  due_other p a b c d = cc (eq-eqb high 48 p, ne_eqb low 49 a, ne_eqb low 50 b, ne_eqb low 51 c, ne_eqb low 53 d)

  pub due-none : (high ≡ 48 → ⊥) → due_by high low ≡ 0
  unfolding due_by
  due-none p = cc (ne_eqb high 48 p)

  -- and what the digits tell of the characters
  abbrev Told : ℕ → Type 0
  Told due = ((due ≡ 0 → ⊥) → 6 ≤ due) × (due ≡ 24 → (high ≡ 48) × (low ≡ 49)) × (due ≡ 26 → (high ≡ 48) × (low ≡ 50))

  pub due_tells : Told (due_by high low)
  unfolding due_by
  due_tells = go (eqb high 48) (eqb low 49) (eqb low 50) (eqb low 51) (eqb low 53) refl refl refl
    where
      go : (a b c d e : Bool) → eqb high 48 ≡ a → eqb low 49 ≡ b → eqb low 50 ≡ c
          → Told (cond a (cond b 24 (cond c 26 (cond d 6 (cond e 6 0)))) 0)
      go true true c d e p q r = (λ n. omega arith, λ z. (eqb-true high 48 p, eqb-true low 49 q), λ z. absurd (omega arith))
      go true false true d e p q r = (λ n. omega arith, λ z. absurd (omega arith), λ z. (eqb-true high 48 p, eqb-true low 50 r))
      go true false false true e p q r = (λ n. omega arith, λ z. absurd (omega arith), λ z. absurd (omega arith))
      go true false false false true p q r = (λ n. omega arith, λ z. absurd (omega arith), λ z. absurd (omega arith))
      go true false false false false p q r = (λ n. absurd (omega arith), λ z. absurd (omega arith), λ z. absurd (omega arith))
      go false b c d e p q r = (λ n. absurd (omega arith), λ z. absurd (omega arith), λ z. absurd (omega arith))

-- an LF after so many characters, another byte there, or none
module _ (s : List ℕ) (at due : ℕ) where
  pub ends_here : get_or s (at + due) 0 ≡ 10 → due ≡ ends_at s at due
  unfolding ends_at
  ends_here e = cc (eq-eqb (get_or s (at + due) 0) 10 e)

  pub ends_not : (get_or s (at + due) 0 ≡ 10 → ⊥) → 0 ≡ ends_at s at due
  unfolding ends_at
  ends_not n = cc (ne_eqb (get_or s (at + due) 0) 10 n)

  pub ends_short : length s ≤ at + due → 0 ≡ ends_at s at due
  ends_short h = ends_not (λ e. omega (arith, get_or-eq_default s 0 h))

  ends_none : due ≡ 0 → 0 ≡ ends_at s at due
  unfolding ends_at
  ends_none e = go (eqb (get_or s (at + due) 0) 10)
    where
      go : (b : Bool) → 0 ≡ cond b due 0
      go true = sym e
      go false = refl

  ends_tells : (r : ℕ) → r ≡ ends_at s at due → (r ≡ 0 → ⊥) → (r ≡ due) × (get_or s (at + r) 0 ≡ 10)
  unfolding ends_at
  ends_tells r e some = go (eqb (get_or s (at + due) 0) 10) refl e
    where
      go : (b : Bool) → eqb (get_or s (at + due) 0) 10 ≡ b → r ≡ cond b due 0 → (r ≡ due) × (get_or s (at + r) 0 ≡ 10)
      go true p q = (q, ap (λ (k : ℕ). get_or s (at + k) 0) q ∙ eqb-true (get_or s (at + due) 0) 10 p)
      go false p q = absurd (some q)

-- the digits due at a place, by what is seen there
module _ (s : List ℕ) (at : ℕ) where
  pub due_short : length s - at < 7 → 0 ≡ due_at s at
  unfolding due_at
  due_short h = go (eqb (due_by (get_or s at 0) (get_or s (at + 1) 0)) 0) refl
    where
      go : (b : Bool) → eqb (due_by (get_or s at 0) (get_or s (at + 1) 0)) 0 ≡ b → 0 ≡ ends_at s at (due_by (get_or s at 0) (get_or s (at + 1) 0))
      go true p = ends_none s at (due_by (get_or s at 0) (get_or s (at + 1) 0)) (eqb-true (due_by (get_or s at 0) (get_or s (at + 1) 0)) 0 p)
      go false p =
          let long = (due_tells (get_or s at 0) (get_or s (at + 1) 0)).0 (eqb-false (due_by (get_or s at 0) (get_or s (at + 1) 0)) 0 p) in
          ends_short s at (due_by (get_or s at 0) (get_or s (at + 1) 0)) (omega arith)

  pub due-nothing : due_by (get_or s at 0) (get_or s (at + 1) 0) ≡ 0 → 0 ≡ due_at s at
  unfolding due_at
  due-nothing e = ends_none s at (due_by (get_or s at 0) (get_or s (at + 1) 0)) e

  pub due_is : (r : Option ℕ) (k : ℕ) → due_by (get_or s at 0) (get_or s (at + 1) 0) ≡ k → r ≡ some_due (ends_at s at k) → r ≡ some_due (due_at s at)
  unfolding due_at
  due_is r k e q = q ∙ ap (λ (n : ℕ). some_due (ends_at s at n)) (sym e)

  -- a line of so many characters, ended by an LF
  pub record Ended (due low : ℕ) : Type 0 where
    pub room : at + due < length s
    pub begins : Begins (take due (drop at s)) due low

  module _ (due : ℕ) (e : due ≡ due_at s at) where
    pub due-ended : (due ≡ 0 → ⊥) → (due ≡ due_by (get_or s at 0) (get_or s (at + 1) 0)) × (get_or s (at + due) 0 ≡ 10)
    unfolding due_at
    due-ended some = ends_tells s at (due_by (get_or s at 0) (get_or s (at + 1) 0)) due e some

    pub due_room : (due ≡ 0 → ⊥) → at + due < length s
    due_room some = go (leb (length s) (at + due)) refl
      where
        go : (b : Bool) → leb (length s) (at + due) ≡ b → at + due < length s
        go true p = absurd (omega (arith, get_or-eq_default s 0 (leb-true (length s) (at + due) p), (due-ended some).1))
        go false p = leb-false (length s) (at + due) p

    ended_by : (low : ℕ) → 2 ≤ due → (get_or s at 0 ≡ 48) × (get_or s (at + 1) 0 ≡ low) → Ended due low
    ended_by low two chars =
        let room = due_room (λ z. omega arith) in
        let zeroth : at + 0 ≡ at = omega arith in
        record {
          room = room;
          begins =
              record {
                is_long = length-take-le due (drop at s) (omega (arith, length-drop at s));
                has_high =
                    get_or-take due (drop at s) 0 0 (omega arith) ∙ get_or-drop at s 0 0 ∙ ap (λ (k : ℕ). get_or s k 0) zeroth ∙ chars.0;
                has_low = get_or-take due (drop at s) 1 0 (omega arith) ∙ get_or-drop at s 1 0 ∙ chars.1;
              };
        }

    tells_of : (due ≡ 0 → ⊥) → Told (get_or s at 0) (get_or s (at + 1) 0) due
    tells_of some = rw (due-ended some).0 (due_tells (get_or s at 0) (get_or s (at + 1) 0))

    pub ended_write : due ≡ 24 → Ended due 49
    ended_write is = ended_by 49 (omega arith) ((tells_of (λ z. omega arith)).1 is)

    pub ended_session : due ≡ 26 → Ended due 50
    ended_session is = ended_by 50 (omega arith) ((tells_of (λ z. omega arith)).2 is)

    -- of six characters only so many are known
    pub ended_short : due ≡ 6 → (at + due < length s) × (length (take due (drop at s)) ≡ 6)
    ended_short is =
        let room = due_room (λ z. omega arith) in
        (room, length-take-le due (drop at s) (omega (arith, length-drop at s)) ∙ is)

-- digits hold no LF, so that the first LF is the one after them
not_LF : (c : ℕ) → digit_value c < 16 → c ≡ 10 → ⊥
not_LF c h e = omega (arith, digit-none c (λ p q. omega arith) (λ p q. omega arith))

pub digits_until : (k : ℕ) (l : List ℕ) → all_digits (take k l) ≡ true → get_or l k 0 ≡ 10 → (until_lf l ≡ take k l) × (has_lf l ≡ true)
unfolding until_lf has_lf
digits_until k [] d e = absurd (omega arith)
digits_until zero (c ∷ cs) d e = (rw e, rw e)
digits_until (suc k) (c ∷ cs) d e =
    let here = digits_cons c (take k cs) d in
    let rest = digits_until k cs here.1 e in
    let other = ne_eqb c 10 (not_LF c here.0) in
    (cc (other, rest.0), cc (other, rest.1))

-- What a turn that is sure tells: the reader finds the step there, whatever the line number, and the turn has applied it
pub record Taken (s : List ℕ) (at due : ℕ) (t : List ℕ) (told : Turn) (t' : List ℕ) : Type 0 where
  pub action : Action
  pub found : (line : ℕ) → next_in false s at line ≡ Ok (Some (ActAt (record { line = line; action = action }) (at + (due + 1))))
  pub room : at + due < length s
  pub tells : told ≡ turn_of (reply t action)
  pub leaves : t' ≡ after t action

module _ (s : List ℕ) (at due : ℕ) (e : due ≡ due_at s at) where
  abbrev front : List ℕ
  front = take due (drop at s)

  -- the line at the place is the one of so many digits
  module _ (g : Good front) where
    not_none : due ≡ 0 → ⊥
    not_none z =
        let none : length front ≡ 0 = ap (λ (k : ℕ). length (take k (drop at s))) z in
        omega (arith, none, g.long, (digits_even journal_kinds (line_kind (bytes_of front))).1)

    lf_there : get_or (drop at s) due 0 ≡ 10
    lf_there = get_or-drop at s due 0 ∙ (due-ended s at due e not_none).1

    front_is : (line_at s at ≡ front) × (has_lf (drop at s) ≡ true)
    front_is =
        let is = digits_until due (drop at s) g.digits lf_there in
        (line_ended s at is.1 ∙ is.0, is.1)

    after_is : place_after s at ≡ at + (due + 1)
    unfolding place_after
    after_is =
        let room = due_room s at due e not_none in
        let long = length-take-le due (drop at s) (omega (arith, length-drop at s)) in
        omega (arith, ap length front_is.0, long)

    found_act : {x : Action} (line : ℕ) → Ok (Act (record { line = line; action = x })) ≡ read_line line front
        → next_in false s at line ≡ Ok (Some (ActAt (record { line = line; action = x }) (at + (due + 1))))
    unfolding next_in
    found_act {x} line is =
        let room = due_room s at due e not_none in
        let inside = lt-leb (length s) at (omega arith) in
        let said : read_line line (line_at s at) ≡ Ok (Act (record { line = line; action = x })) = ap (read_line line) front_is.0 ∙ sym is in
        rw (inside, ended s at front_is.1, said, after_is)

  -- a turn's parts, as the program lends them
  part_is : (k : ℕ) → due ≡ k → take (at + k - at) (drop at s) ≡ front
  part_is k is =
      let long : at + k - at ≡ due = omega arith in
      ap (λ (m : ℕ). take m (drop at s)) long

  pub part-begins : (k low : ℕ) → due ≡ k → Ended s at due low → Begins (take (at + k - at) (drop at s)) k low
  part-begins k low is x =
      let part = part_is k is in
      record { is_long = ap length part ∙ x.begins.is_long ∙ is; has_high = rw part x.begins.has_high; has_low = rw part x.begins.has_low }

  pub part_short : due ≡ 6 → length (take (at + 6 - at) (drop at s)) ≡ 6
  part_short is = ap length (part_is 6 is) ∙ (ended_short s at due e is).1

  pub part_turned : (k : ℕ) → due ≡ k → {t : List ℕ} {told : Turn} {t' : List ℕ} → Turned t (read_line 1 (take (at + k - at) (drop at s))) told t'
      → Turned t (said_at s at) told t'
  unfolding said_at
  part_turned k is x = rw (sym (part_is k is ∙ ap (λ (m : ℕ). take m (drop at s)) e)) x

  -- no other length is a line's
  pub turned_other : (t : List ℕ) → (due ≡ 24 → ⊥) → (due ≡ 26 → ⊥) → (due ≡ 6 → ⊥) → Turned t (said_at s at) Unsure t
  unfolding said_at
  turned_other t a b c =
      let none : Good front → ⊥ = λ g.
      let room = due_room s at due e (not_none g) in
      let long = length-take-le due (drop at s) (omega (arith, length-drop at s)) in
      no_length front g (λ z. c (sym long ∙ z)) (λ z. a (sym long ∙ z)) (λ z. b (sym long ∙ z)) in
      rw (ap (λ (m : ℕ). take m (drop at s)) (sym e)) (turned_none t front none)

  pub taken : (t : List ℕ) (told : Turn) (t' : List ℕ) → Turned t (said_at s at) told t' → (told ≡ Unsure → ⊥) → Taken s at due t told t'
  unfolding said_at
  taken t told t' x sure = go (line_refusal front) refl
    where
      said : said_at s at ≡ read_line 1 front
      said = ap (λ (k : ℕ). read_line 1 (take k (drop at s))) (sym e)

      none : {y : Line} → y ≡ read_line 1 front → told_of t y ≡ Unsure → Taken s at due t told t'
      none is two = absurd (sure (x.tells ∙ ap (told_of t) (said ∙ sym is) ∙ two))

      act : line_refusal front ≡ 0 → (line_kind (bytes_of front) ≡ 0 → ⊥) → Taken s at due t told t'
      act clear step =
          let g = good front clear in
          let is = read_act 1 front clear step in
          record {
            action = action_of (line_kind (bytes_of front)) (line_fields (bytes_of front));
            found = λ line. found_act g line (read_act line front clear step);
            room = due_room s at due e (not_none g);
            tells = x.tells ∙ ap (told_of t) (said ∙ sym is);
            leaves = x.leaves ∙ ap (left_by t) (said ∙ sym is);
          }

      by_kind : line_refusal front ≡ 0 → (b : Bool) → eqb (line_kind (bytes_of front)) 0 ≡ b → Taken s at due t told t'
      by_kind clear true p = none (read_begin 1 front clear (eqb-true (line_kind (bytes_of front)) 0 p)) refl
      by_kind clear false p = act clear (eqb-false (line_kind (bytes_of front)) 0 p)

      go : (k : ℕ) → line_refusal front ≡ k → Taken s at due t told t'
      go zero p = by_kind p (eqb (line_kind (bytes_of front)) 0) refl
      go (suc k) p = none (read_wrong 1 k front p) refl
