-- Laws of a line's six words: a start's, a purge's and a delivery's, those put into more, and what is told of fewer.
use mathlib.Core.Path.{◌≡◌, refl, sym, ◌∙◌, ap}
use mathlib.Core.Bool.{Bool, true, false}
use mathlib.Core.List.{List, [], ◌∷◌, ◌++◌}
use Prim.Native.Nat.{ℕ, zero, suc, ◌≤◌, ◌<◌}
use native.Mathlib.Omega.{arith}
use lib.ListN.{length, take, drop, take-append-drop}
use lib.Dec.{eqb}
use borrow.Author.Tests.{eqb-true, eqb-false}
use Rattle.meaning.specs.declared.Fault.{Fault}
use Rattle.std.specs.Prelude.{Option, Some, None}
use Rattle.meaning.specs.declared.Refusal.TheVariants.{RoomShort}
use Rattle.heads.specs.declared.Short.{Short}
use Rattle.six.proofs.SixLaws.{puts_is, puts_not}
use Rattle.meaning.specs.Frames.{
  Line,
  bytes_of,
  journal_kinds,
  known,
  widths_in,
  digits_in,
  digits_of,
  line_kind,
  line_refusal,
  line_fault,
  line_values,
  read_line,
  padded,
  six_values,
  words_fault,
  words_after,
  ReadWords,
}
use Rattle.meaning.proofs.FrameLaws.{clear, no_fault, read_none, kind_cases, words_refused, words_few, words_full}
use Rattle.meaning.proofs.PlaceLaws.{mid_place}
use Rattle.heads.specs.Heads.{short_of}
use Rattle.heads.proofs.HeadLaws.{accepted_clear, accepted_refused}
use Rattle.heads.proofs.QuickLaws.{short_tells, held_kind, held_not, held_refused}
use Rattle.heads.proofs.SaidLaws.{purge_line, deliver_line, start_line}
use Rattle.six.specs.Six.{Puts}

-- the six values of a start, of a purge and of a delivery, by what the line holds
module _ (l : List ℕ) (x : Short) (few : length l < 24) (e : Some x ≡ short_of l) where
  six_short : x.kind ∷ x.field ∷ 0 ∷ 0 ∷ 0 ∷ 0 ∷ [] ≡ six_values l
  unfolding six_values padded digits_in widths_in journal_kinds
  six_short = go (line_kind (bytes_of l)) refl (short_tells l x e).0.has_kind (held_not l x e few 1) (held_not l x e few 2)
    where
      said : ℕ → List ℕ
      said k = k ∷ x.field ∷ 0 ∷ 0 ∷ 0 ∷ 0 ∷ []

      at : (k : ℕ) → line_kind (bytes_of l) ≡ k → x.kind ≡ k
      at k z = held_kind l x e few ∙ z

      go : (k : ℕ) → line_kind (bytes_of l) ≡ k → known k ≡ true → ((digits_of 1 ≡ 6 → ⊥) → line_kind (bytes_of l) ≡ 1 → ⊥)
          → ((digits_of 2 ≡ 6 → ⊥) → line_kind (bytes_of l) ≡ 2 → ⊥) → x.kind ∷ x.field ∷ 0 ∷ 0 ∷ 0 ∷ 0 ∷ [] ≡ padded 6 (drop 2 (line_values (read_line 0 l)))
      go k is has one two =
          kind_cases (λ (m : ℕ). line_kind (bytes_of l) ≡ m → x.kind ∷ x.field ∷ 0 ∷ 0 ∷ 0 ∷ 0 ∷ [] ≡ padded 6 (drop 2 (line_values (read_line 0 l))))
          (λ z. ap said (at 0 z) ∙ ap (λ (y : Line). padded 6 (drop 2 (line_values y))) (start_line l x e 0 (at 0 z)))
          (λ z. absurd (one (omega arith) z))
          (λ z. absurd (two (omega arith) z))
          (λ z. ap said (at 3 z) ∙ ap (λ (y : Line). padded 6 (drop 2 (line_values y))) (purge_line l x e 0 (at 3 z)))
          (λ z. ap said (at 5 z) ∙ ap (λ (y : Line). padded 6 (drop 2 (line_values y))) (deliver_line l x e 0 (at 5 z)))
          k has is

  pub short_put : (w w' : List ℕ) → w' ≡ x.kind ∷ x.field ∷ 0 ∷ 0 ∷ 0 ∷ 0 ∷ [] → Puts l w true w'
  short_put w w' p = puts_is l w w' (clear l (short_tells l x e).0) (p ∙ six_short)

-- a short line that holds nothing is refused
pub short_refused : (l w : List ℕ) → None ≡ short_of l → Puts l w false w
short_refused l w e = puts_not l w (held_refused l e)

-- a line's six values are six
length-padded : (k : ℕ) (xs : List ℕ) → length (padded k xs) ≡ k
unfolding padded
length-padded zero xs = refl
length-padded (suc k) [] = ap suc (length-padded k [])
length-padded (suc k) (x ∷ xs) = ap suc (length-padded k xs)

length_six : (l : List ℕ) → length (six_values l) ≡ 6
unfolding six_values
length_six l = length-padded 6 (drop 2 (line_values (read_line 0 l)))

-- fewer than six words: the same answer for any such words
module _ (l : List ℕ) where
  fault_refuses : (f : Fault) → Some f ≡ line_fault l → line_refusal l ≡ 0 → ⊥
  fault_refuses f e z = cc (no_fault l z, e)

  pub few_refused : (f : Fault) → Some f ≡ line_fault l → Some f ≡ words_fault l []
  few_refused f e = e ∙ (words_refused l [] (fault_refuses f e)).0

  pub few_accepted : None ≡ line_fault l → Some (record { refusal = RoomShort; place = 0 }) ≡ words_fault l []
  few_accepted e = (words_few l [] (read_none l (sym e)) (omega arith)).0

  pub few_words : (words : List ℕ) (f : Option Fault) → length words < 6 → f ≡ words_fault l [] → ReadWords l words f words
  few_words words f h e = go (eqb (line_refusal l) 0) refl
    where
      go : (b : Bool) → eqb (line_refusal l) 0 ≡ b → ReadWords l words f words
      go true x =
          let z = eqb-true (line_refusal l) 0 x in
          let any = words_few l words z h in
          (e ∙ sym (words_few l [] z (omega arith)).0 ∙ any.0, any.1)
      go false x =
          let n = eqb-false (line_refusal l) 0 x in
          let any = words_refused l words n in
          (e ∙ sym (words_refused l [] n).0 ∙ any.0, any.1)

  pub few_told : (words : List ℕ) → length words < 6 → words_fault l words ≡ words_fault l []
  few_told words h = sym (few_words words (words_fault l []) h refl).0

  pub few_kept : (words : List ℕ) → length words < 6 → words_after l words ≡ words
  few_kept words h = sym (few_words words (words_fault l []) h refl).1

  -- six words of those lent
  pub full_words : (words w' out : List ℕ) → 6 ≤ length words → Puts l (take 6 words) true w' → out ≡ w' ++ drop 6 words
      → ReadWords l words None out
  full_words words w' out h p e =
      let z = accepted_clear l (sym p.0) in
      let full = words_full l words z h in
      let six : w' ≡ six_values l = p.1 ∙ cc (sym p.0) in
      let long : length (six_values l) ≡ 6 = length_six l in
      (full.0, e ∙ ap (λ (w : List ℕ). w ++ drop 6 words) six ∙ mid_place 0 6 words (six_values l) long ∙ full.1)

  pub kept_words : (words w' out : List ℕ) (f : Option Fault) → Puts l (take 6 words) false w' → out ≡ w' ++ drop 6 words → f ≡ line_fault l
      → ReadWords l words f out
  kept_words words w' out f p e g =
      let no = words_refused l words (accepted_refused l (sym p.0)) in
      let same : w' ≡ take 6 words = p.1 ∙ cc (sym p.0) in
      (g ∙ no.0, e ∙ ap (λ (w : List ℕ). w ++ drop 6 words) same ∙ take-append-drop 6 words ∙ no.1)
