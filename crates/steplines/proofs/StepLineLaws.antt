-- Laws of one line on a sound table: what is told of it, and what its step does, by the numbers of its digits.
use mathlib.Core.Path.{◌≡◌, refl, sym, ap, ◌∙◌}
use mathlib.Core.Bool.{Bool, true, false, not, true≢false}
use lib.Dec.{eqb}
use borrow.Author.Tests.{not-false}
use Rattle.std.specs.Option.{option_eq}
use mathlib.Core.List.{List}
use Prim.Native.Nat.{ℕ, zero, suc, ◌+◌, ◌*◌, ◌≤◌}
use native.Mathlib.Omega.{arith}
use lib.ListN.{length, get_or}
use Rattle.std.specs.Prelude.{Option, Some, None, Result, Ok, Err}
use Rattle.meaning.specs.declared.Action.{Action}
use Rattle.meaning.specs.declared.Action.TheVariants.{Write, Purge, Deliver}
use Rattle.meaning.specs.declared.Said.TheVariants.{Begin, Act}
use Rattle.meaning.specs.declared.Refusal.{Refusal}
use Rattle.meaning.specs.Steps.{Reply, reply, after}
use Rattle.meaning.specs.Frames.{Line, bytes_of, line_kind, line_refusal, read_line}
use Rattle.meaning.specs.Lines.{left_by}
use Rattle.meaning.proofs.FrameLaws.{Good, good, read_wrong}
use Rattle.looks.specs.Applied.{Applied}
use Rattle.purges.specs.Dropped.{passed, Passed}
use Rattle.digits.specs.Digits.{sum_of, values_of}
use Rattle.digits.proofs.DigitLaws.{told_some, some_told, sum_digits, length_values, values_small}
use Rattle.numbers.specs.Numbers.{joined_at, Joins}
use Rattle.heads.specs.declared.Short.{Short}
use Rattle.heads.specs.Heads.{short_of}
use Rattle.heads.proofs.QuickLaws.{chars_kind, good_write, short_tells, short_refused, held_kind}
use Rattle.heads.proofs.FieldLaws.{kind_lengths}
use Rattle.heads.proofs.SaidLaws.{write_of, write_line_lem, purge_line, deliver_line, start_line}
use Rattle.steplines.specs.declared.Turn.{Turn}
use Rattle.steplines.specs.declared.Turn.TheVariants.{Done, Refused, Unsure}
use Rattle.steplines.specs.StepLines.{turn_of, told_of, Turned, Begins}

-- what is told of a reply is never that it is none
pub not_unsure : (r : Reply) → turn_of r ≡ Unsure → ⊥
not_unsure (Ok x) e = absurd (cc e)
not_unsure (Err r) e = absurd (cc e)

-- a step of which only the refusal is answered
passed_done : (r : Reply) → Ok tt ≡ passed r → Done ≡ turn_of r
passed_done (Ok x) e = refl
passed_done (Err r) e = absurd (cc e)

passed_refused : (r : Reply) (k : Refusal) → Err k ≡ passed r → Refused ≡ turn_of r
passed_refused (Ok x) k e = absurd (cc e)
passed_refused (Err r) k e = refl

-- a sum that is asked for by comparison
pub sum_told : (o : Option ℕ) (n : ℕ) (b : Bool) → b ≡ not (option_eq eqb o (Some n)) → b ≡ false → Some n ≡ o
sum_told o n b e f = told_some o n (not-false (option_eq eqb o (Some n)) (sym e ∙ f))

pub sum_other : (o : Option ℕ) (n : ℕ) (b : Bool) → b ≡ not (option_eq eqb o (Some n)) → b ≡ true → Some n ≡ o → ⊥
sum_other o n b e f same = true≢false (sym f ∙ e ∙ ap not (some_told o n same))

-- the step of a line, and a line that is refused
module _ (t l : List ℕ) where
  pub turned_after : {x : Action} {told : Turn} {t' : List ℕ} → Ok (Act (record { line = 1; action = x })) ≡ read_line 1 l → told ≡ turn_of (reply t x)
      → t' ≡ after t x → Turned t (read_line 1 l) told t'
  turned_after e tells leaves = record { tells = tells ∙ ap (told_of t) e; leaves = leaves ∙ ap (left_by t) e }

  pub turned_act : {x : Action} {r : Reply} {told : Turn} {t' : List ℕ} → Ok (Act (record { line = 1; action = x })) ≡ read_line 1 l
      → Applied t x r t' → told ≡ turn_of r → Turned t (read_line 1 l) told t'
  turned_act e done tells = turned_after e (tells ∙ ap turn_of done.0) done.1

  pub turned_none : (Good l → ⊥) → Turned t (read_line 1 l) Unsure t
  turned_none none = go (line_refusal l) refl
    where
      go : (k : ℕ) → line_refusal l ≡ k → Turned t (read_line 1 l) Unsure t
      go zero e = absurd (none (good l e))
      go (suc k) e = let is = read_wrong 1 k l e in record { tells = ap (told_of t) is; leaves = ap (left_by t) is }

-- a turn that is not sure leaves the table as it was
pub unsure : {t : List ℕ} {x : Line} {told : Turn} {t' : List ℕ} → Turned t x told t' → told ≡ Unsure → t' ≡ t
unsure {t} {x} {told} {t'} d h = go x d.tells d.leaves
  where
    go : (y : Line) → told ≡ told_of t y → t' ≡ left_by t y → t' ≡ t
    go (Ok (Begin n)) p q = q
    go (Ok (Act z)) p q = absurd (not_unsure (reply t z.action) (sym p ∙ h))
    go (Err f) p q = q

-- the numbers of a line's digits, where the line has only digits
module _ (l v : List ℕ) (sum : ℕ) (es : Some sum ≡ sum_of l) (ev : v ≡ values_of l) where
  pub joins : (at w : ℕ) → at + 2 * w ≤ length l → Joins v at w
  joins at w h = rw ev (record { small = values_small l (sum_digits l sum es).0; room = omega (arith, length_values l) })

-- a write's 24 characters
module _ (t l v : List ℕ) (b : Begins l 24 49) (ev : v ≡ values_of l) where
  pub write_joins : Some 0 ≡ sum_of l → (at w : ℕ) → at + 2 * w ≤ 24 → Joins v at w
  write_joins z at w h = joins l v 0 z ev at w (omega (arith, b.is_long))

  pub write_unsure : (Some 0 ≡ sum_of l → ⊥) → Turned t (read_line 1 l) Unsure t
  write_unsure n = turned_none t l (λ g. n (good_write l b.is_long g).2)

  pub write_turned : Some 0 ≡ sum_of l → {node timestamp block verdict : ℕ} {r : Reply} {told : Turn} {t' : List ℕ}
      → node ≡ joined_at v 2 1 → timestamp ≡ joined_at v 4 4 → block ≡ joined_at v 12 4 → verdict ≡ joined_at v 20 1
      → Applied t (Write node timestamp block verdict) r t' → told ≡ turn_of r → Turned t (read_line 1 l) told t'
  write_turned z {node} {timestamp} {block} {verdict} p q x y done tells =
      let said : Write node timestamp block verdict ≡ write_of v = λ i. Write (p i) (q i) (x i) (y i) in
      let line = write_line_lem 1 l b.is_long b.has_high b.has_low z in
      let action : Write node timestamp block verdict ≡ write_of (values_of l) = said ∙ ap write_of ev in
      turned_act t l (ap (λ (a : Action). Ok (Act (record { line = 1; action = a }))) action ∙ line) done tells

-- six characters: a purge's, a delivery's, a start's, or a refused line's
module _ (t l : List ℕ) where
  pub short_unsure : None ≡ short_of l → Turned t (read_line 1 l) Unsure t
  short_unsure e = turned_none t l (λ g. short_refused l e g)

  -- the second character of an accepted one is its kind's digit
  module _ (long : length l ≡ 6) (x : Short) (e : Some x ≡ short_of l) where
    kind_char : get_or l 1 0 ≡ 48 + x.kind
    kind_char =
        let g = (short_tells l x e).0 in
        let kind = held_kind l x e (omega arith) in
        let small : line_kind (bytes_of l) ≤ 9 =
        kind_lengths (λ (k n : ℕ). k ≤ 9) (omega arith) (omega arith) (omega arith) (omega arith) (omega arith) (line_kind (bytes_of l)) g.has_kind in
        (chars_kind l (omega arith) (line_kind (bytes_of l)) small refl).1 ∙ ap (λ (k : ℕ). 48 + k) (sym kind)

    pub purge_said : get_or l 1 0 ≡ 51 → Ok (Act (record { line = 1; action = Purge x.field })) ≡ read_line 1 l
    purge_said is = purge_line l x e 1 (omega (arith, kind_char))

    pub purge_done : get_or l 1 0 ≡ 51 → {r : Result (Unit {0}) Refusal} {t' : List ℕ} → Passed t (Purge x.field) r t' → r ≡ Ok tt
        → Turned t (read_line 1 l) Done t'
    purge_done is done told = turned_after t l (purge_said is) (passed_done (reply t (Purge x.field)) (sym told ∙ done.0)) done.1

    pub purge_refused : get_or l 1 0 ≡ 51 → {r : Result (Unit {0}) Refusal} {t' : List ℕ} → Passed t (Purge x.field) r t' → (k : Refusal) → r ≡ Err k
        → Turned t (read_line 1 l) Refused t'
    purge_refused is done k told = turned_after t l (purge_said is) (passed_refused (reply t (Purge x.field)) k (sym told ∙ done.0)) done.1

    pub delivery_turned : get_or l 1 0 ≡ 53 → {r : Reply} {told : Turn} {t' : List ℕ} → Applied t (Deliver x.field) r t' → told ≡ turn_of r
        → Turned t (read_line 1 l) told t'
    delivery_turned is done tells = turned_act t l (deliver_line l x e 1 (omega (arith, kind_char))) done tells

    -- an accepted one that is neither a purge's nor a delivery's is a start's
    start_left : (x.kind ≡ 3 → ⊥) → (x.kind ≡ 5 → ⊥) → x.kind ≡ 0
    start_left p q =
        let g = (short_tells l x e).0 in
        let kind = held_kind l x e (omega arith) in
        let left : line_kind (bytes_of l) ≡ 0 =
        kind_lengths (λ (k n : ℕ). length l ≡ n → (k ≡ 3 → ⊥) → (k ≡ 5 → ⊥) → k ≡ 0) (λ d a b. refl) (λ d a b. absurd (omega arith))
        (λ d a b. absurd (omega arith)) (λ d a b. absurd (a refl)) (λ d a b. absurd (b refl)) (line_kind (bytes_of l)) g.has_kind g.long
        (λ is. p (kind ∙ is)) (λ is. q (kind ∙ is)) in
        kind ∙ left

    start_unsure : (x.kind ≡ 3 → ⊥) → (x.kind ≡ 5 → ⊥) → Turned t (read_line 1 l) Unsure t
    start_unsure p q =
        let is = start_line l x e 1 (start_left p q) in
        record { tells = ap (told_of t) is; leaves = ap (left_by t) is }

-- six characters of which the second is neither a purge's nor a delivery's
pub other_unsure : (t l : List ℕ) → length l ≡ 6 → (get_or l 1 0 ≡ 51 → ⊥) → (get_or l 1 0 ≡ 53 → ⊥) → Turned t (read_line 1 l) Unsure t
other_unsure t l long a b = go (short_of l) refl
  where
    go : (o : Option Short) → short_of l ≡ o → Turned t (read_line 1 l) Unsure t
    go None p = short_unsure t l (sym p)
    go (Some x) p =
        let char = kind_char t l long x (sym p) in
        start_unsure t l long x (sym p) (λ is. a (char ∙ ap (λ (k : ℕ). 48 + k) is)) (λ is. b (char ∙ ap (λ (k : ℕ). 48 + k) is))
