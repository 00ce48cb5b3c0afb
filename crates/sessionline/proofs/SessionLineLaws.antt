-- Laws of a session's line on a sound table, by the numbers of the digits after its kind's two.
use mathlib.Core.Path.{◌≡◌, sym, ap, ◌∙◌}
use mathlib.Core.List.{List}
use Prim.Native.Nat.{ℕ, ◌+◌, ◌*◌, ◌≤◌, ◌<◌}
use native.Mathlib.Omega.{arith}
use lib.ListN.{take, drop, length-drop}
use Rattle.std.specs.Prelude.{Some, Ok}
use Rattle.meaning.specs.declared.Action.{Action}
use Rattle.meaning.specs.declared.Said.TheVariants.{Act}
use Rattle.meaning.specs.declared.Action.TheVariants.{Session}
use Rattle.meaning.specs.Steps.{Reply}
use Rattle.meaning.specs.Frames.{read_line}
use Rattle.looks.specs.Applied.{Applied}
use Rattle.digits.specs.Digits.{sum_of, values_of}
use Rattle.numbers.specs.Numbers.{joined_at, Joins}
use Rattle.heads.proofs.QuickLaws.{good_session, rest_part}
use Rattle.heads.proofs.SaidLaws.{session_of, outcome_of, session_line_lem}
use Rattle.steplines.specs.declared.Turn.{Turn}
use Rattle.steplines.specs.declared.Turn.TheVariants.{Unsure}
use Rattle.steplines.specs.StepLines.{turn_of, Turned, Begins}
use Rattle.steplines.proofs.StepLineLaws.{turned_act, turned_none, joins}

-- a session's 26 characters, by the digits after its kind's two
module _ (t l v : List ℕ) (b : Begins l 26 50) (ev : v ≡ values_of (take 24 (drop 2 l))) where
  values_rest : v ≡ values_of (drop 2 l)
  values_rest = ev ∙ ap values_of (rest_part l b.is_long)

  sum_rest : Some 254 ≡ sum_of (take 24 (drop 2 l)) → Some 254 ≡ sum_of (drop 2 l)
  sum_rest z = z ∙ ap sum_of (rest_part l b.is_long)

  pub session_joins : Some 254 ≡ sum_of (take 24 (drop 2 l)) → (at w : ℕ) → at + 2 * w ≤ 24 → Joins v at w
  session_joins z at w h = joins (drop 2 l) v 254 (sum_rest z) values_rest at w (omega (arith, b.is_long, length-drop 2 l))

  pub session_unsure : (Some 254 ≡ sum_of (take 24 (drop 2 l)) → ⊥) → Turned t (read_line 1 l) Unsure t
  session_unsure n = turned_none t l (λ g. n ((good_session l b.is_long g).3 ∙ sym (ap sum_of (rest_part l b.is_long))))

  pub session_above : {o : ℕ} → o ≡ joined_at v 20 1 → 3 < o → Turned t (read_line 1 l) Unsure t
  session_above {o} e above =
      turned_none t l (λ g.
      let is = ap (λ (x : List ℕ). joined_at x 20 1) values_rest ∙ outcome_of l b.is_long in
      omega (arith, is, (good_session l b.is_long g).2))

  pub session_turned : Some 254 ≡ sum_of (take 24 (drop 2 l)) → {p q ca cb o : ℕ} {r : Reply} {told : Turn} {t' : List ℕ}
      → p ≡ joined_at v 0 1 → q ≡ joined_at v 2 1 → ca ≡ joined_at v 4 4 → cb ≡ joined_at v 12 4 → o ≡ joined_at v 20 1 → o ≤ 3
      → Applied t (Session p q ca cb o) r t' → told ≡ turn_of r → Turned t (read_line 1 l) told t'
  session_turned z {p} {q} {ca} {cb} {o} ep eq ea eb eo few done tells =
      let said : Session p q ca cb o ≡ session_of v = λ i. Session (ep i) (eq i) (ea i) (eb i) (eo i) in
      let action : Session p q ca cb o ≡ session_of (values_of (drop 2 l)) = said ∙ ap session_of values_rest in
      let outcome : joined_at (values_of (drop 2 l)) 20 1 ≡ o = sym (eo ∙ ap (λ (x : List ℕ). joined_at x 20 1) values_rest) in
      let line = session_line_lem l b.is_long 1 b.has_high b.has_low (sum_rest z) (omega (arith, outcome)) in
      turned_act t l (ap (λ (a : Action). Ok (Act (record { line = 1; action = a }))) action ∙ line) done tells
