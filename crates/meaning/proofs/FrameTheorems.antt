-- One frame: reading the frame of a step gives the step back, and a line that reads as a step is that step's frame, so no step has two.
-- The same for starts. Document 00, demand 2: "Every step but a session with some other outcome has one frame of hexadecimal,
-- and reading that frame gives the step back."
use mathlib.Core.Path.{◌≡◌, refl, sym, ◌∙◌, ap}
use mathlib.Core.Bool.{Bool, true, false, not, ◌&&◌}
use mathlib.Core.List.{List, [], ◌∷◌, ◌++◌, append_assoc}
use Prim.Native.Nat.{ℕ, zero, suc, ◌+◌, ◌-◌, ◌<◌}
use native.Mathlib.Omega.{arith}
use lib.ListN.{length, get_or, take, drop, length-append}
use lib.Seq.{take_at}
use lib.Dec.{leb, ltb, eqb}
use borrow.Author.Tests.{leb-true, lt-ltb, eqb-true, eqb-false, ne_eqb, not-false}
use Rattle.meaning.specs.declared.Action.{Action}
use Rattle.meaning.specs.declared.Action.TheVariants.{Write, Session, Purge, Deliver}
use Rattle.meaning.specs.declared.Step.{Step}
use Rattle.std.specs.Prelude.{Ok}
use Rattle.meaning.specs.declared.Said.TheVariants.{Begin, Act}
use Rattle.meaning.specs.Table.{count_right, place}
use Rattle.meaning.specs.Steps.{outcome_above}
use Rattle.meaning.specs.Frames.{
  spelled,
  bytes_of,
  all_digits,
  total,
  Kind,
  journal_kinds,
  known_in,
  known,
  widths_in,
  widths,
  digits_in,
  digits_of,
  summed,
  packed,
  unpacked,
  kind_of,
  fields_of,
  action_of,
  sealed,
  frame_in,
  frame_of,
  frame,
  start_frame,
  fit,
  wide,
  line_kind,
  fields_in,
  line_fields,
  line_refusal,
  read_line,
  writer_refusal,
  starter_refusal,
  frame_reply,
  frame_after,
  start_reply,
  start_after,
}
use Rattle.meaning.proofs.FrameLaws.{
  Bytes,
  bytes_drop,
  bytes_of_lem,
  length-bytes_of,
  length-spelled,
  kind_cases,
  Good,
  clear,
  good,
  read_wrong,
  read_begin,
  read_act,
  framed_right,
  framed_none,
  started_right,
  started_none,
  written_within,
  started_within,
}
use Rattle.meaning.proofs.RowLaws.{and_right}
use Rattle.meaning.proofs.FrameInverses.{
  bytes_of-spelled,
  digits_spelled,
  spelled-bytes_of,
  bytes_packed,
  length-packed,
  unpacked-packed,
  packed-unpacked,
  fit-unpacked,
  to_last,
  total-sealed,
  check_of,
  bytes_at,
  bytes_sealed,
  length-sealed,
}

-- a frame without its LF, whatever the kinds
pub body : List Kind → ℕ → List ℕ → List ℕ
body ks kind vs = spelled (sealed (kind ∷ packed (widths_in ks kind) vs))

frame_body : (ks : List Kind) (kind : ℕ) (vs : List ℕ) → frame_in ks kind vs ≡ body ks kind vs ++ (10 ∷ [])
unfolding frame_in body
frame_body ks kind vs = refl

-- lists that end alike are alike before
snoc_injective : (xs ys : List ℕ) (z : ℕ) → xs ++ (z ∷ []) ≡ ys ++ (z ∷ []) → xs ≡ ys
snoc_injective xs ys z e =
    let long : length xs ≡ length ys = omega (arith, ap length e, length-append xs (z ∷ []), length-append ys (z ∷ [])) in
    sym (take_at xs (z ∷ []) (length xs) refl) ∙ ap (take (length xs)) e ∙ take_at ys (z ∷ []) (length xs) (sym long)

-- There: what reading finds in the line that writing made
pub record Back (ks : List Kind) (l : List ℕ) (kind : ℕ) (vs : List ℕ) : Type 0 where
  pub digits : all_digits l ≡ true
  pub is : line_kind (bytes_of l) ≡ kind
  pub fields : fields_in ks (bytes_of l) ≡ vs
  pub long : length l ≡ digits_in ks kind
  pub sum : total (bytes_of l) ≡ 0

pub back : (ks : List Kind) (kind : ℕ) (vs : List ℕ) → kind < 256 → length vs ≡ length (widths_in ks kind) → fit (widths_in ks kind) vs ≡ true
    → Back ks (body ks kind vs) kind vs
unfolding body line_kind fields_in digits_in sealed
back ks kind vs k n p =
    let ws = widths_in ks kind in
    let bs = kind ∷ packed ws vs in
    let all = bytes_sealed bs (k, bytes_packed ws vs) in
    let read : bytes_of (spelled (sealed bs)) ≡ sealed bs = bytes_of-spelled (sealed bs) all in
    record {
      digits = digits_spelled (sealed bs) all;
      is = rw read refl;
      fields = rw read (unpacked-packed ws vs _ n p);
      long = omega (arith, length-spelled (sealed bs), length-sealed bs, length-packed ws vs n);
      sum = rw read (total-sealed bs);
    }

-- a kind's number of fields, and an action's kind, fields and outcome
fields_long : (x : Action) → length (fields_of x) ≡ length (widths (kind_of x))
unfolding widths_in journal_kinds
fields_long (Write p t b v) = refl
fields_long (Session a b ca cb o) = refl
fields_long (Purge p) = refl
fields_long (Deliver p) = refl

kind_known : (x : Action) → (0 < kind_of x) × (kind_of x < 256) × (known (kind_of x) ≡ true)
unfolding known_in journal_kinds
kind_known (Write p t b v) = (omega arith, omega arith, refl)
kind_known (Session a b ca cb o) = (omega arith, omega arith, refl)
kind_known (Purge p) = (omega arith, omega arith, refl)
kind_known (Deliver p) = (omega arith, omega arith, refl)

action_back : (x : Action) → action_of (kind_of x) (fields_of x) ≡ x
unfolding action_of
action_back (Write p t b v) = refl
action_back (Session a b ca cb o) = refl
action_back (Purge p) = refl
action_back (Deliver p) = refl

outcome_back : (x : Action) → eqb (kind_of x) 2 && ltb 3 (get_or (fields_of x) 4 0) ≡ outcome_above x
unfolding outcome_above
outcome_back (Write p t b v) = refl
outcome_back (Session a b ca cb o) = refl
outcome_back (Purge p) = refl
outcome_back (Deliver p) = refl

step_body : Action → List ℕ
step_body x = body journal_kinds (kind_of x) (fields_of x)

action_body : (x : Action) → wide x ≡ true → Back journal_kinds (step_body x) (kind_of x) (fields_of x)
unfolding wide step_body
action_body x p = back journal_kinds (kind_of x) (fields_of x) (kind_known x).1 (fields_long x) p

read_body : (x : Action) (line : ℕ) → wide x ≡ true → outcome_above x ≡ false → read_line line (step_body x) ≡ Ok (Act (record { line = line; action = x }))
read_body x line p q =
    let l = step_body x in
    let b = action_body x p in
    let k = kind_known x in
    let some : (kind_of x ≡ 0 → ⊥) = omega arith in
    let right : Good l = record {
      digits = b.digits;
      has_kind = rw b.is k.2;
      long = b.long ∙ ap digits_of (sym b.is);
      outcome = cc (b.is, b.fields, outcome_back x);
      sum = b.sum;
      start = cc (b.is, ne_eqb (kind_of x) 0 some);
    } in
    let read = read_act line l (clear l right) (rw b.is some) in
    sym (rw (b.is, b.fields, action_back x) at read)

-- Every frame ends in LF.
frame_step : (x : Action) → frame x ≡ step_body x ++ (10 ∷ [])
unfolding frame step_body
frame_step x = frame_body journal_kinds (kind_of x) (fields_of x)

pub frame_ends : (x : Action) → (l : List ℕ) × (frame x ≡ l ++ (10 ∷ []))
frame_ends x = (step_body x, frame_step x)

-- Reading the frame of a step, without its LF, gives the step back, with the line number that the reader is told.
pub frame_reads : (x : Action) (line : ℕ) (l : List ℕ) → wide x ≡ true → outcome_above x ≡ false → frame x ≡ l ++ (10 ∷ [])
    → read_line line l ≡ Ok (Act (record { line = line; action = x }))
frame_reads x line l p q e =
    let same : step_body x ≡ l = snoc_injective (step_body x) l 10 (sym (frame_step x) ∙ e) in
    rw (← same) (read_body x line p q)

-- Two actions with the same frame are the same, their fields being as wide as in the frame.
pub frame_injective : (x y : Action) → wide x ≡ true → wide y ≡ true → frame x ≡ frame y → x ≡ y
frame_injective x y p q e =
    let same : step_body x ≡ step_body y = snoc_injective (step_body x) (step_body y) 10 (sym (frame_step x) ∙ e ∙ frame_step y) in
    let b = action_body x p in
    let d = action_body y q in
    sym (action_back x) ∙ cc (b.is, b.fields, d.is, d.fields, same) ∙ action_back y

-- Back: the bytes of a line with its kind's length and the sum zero are its kind, its fields and the check, whatever the kinds
whole_bytes : (ks : List Kind) (bs : List ℕ) → Bytes bs → length bs ≡ summed (widths_in ks (line_kind bs)) + 2 → total bs ≡ 0
    → sealed (line_kind bs ∷ packed (widths_in ks (line_kind bs)) (fields_in ks bs)) ≡ bs
unfolding line_kind fields_in sealed
whole_bytes ks [] p n z = absurd (omega arith)
whole_bytes ks (b ∷ bs) p n z =
    let ws = widths_in ks b in
    let last = get_or bs (summed ws) 0 in
    let parts : bs ≡ take (summed ws) bs ++ (last ∷ []) = to_last bs (summed ws) (omega arith) in
    let fields : packed ws (unpacked ws bs) ≡ take (summed ws) bs = packed-unpacked ws bs p.1 (omega arith) in
    let zero-sum : total ((b ∷ take (summed ws) bs) ++ (last ∷ [])) ≡ 0 = rw parts at z in
    let c = check_of (b ∷ take (summed ws) bs) last (bytes_at bs (summed ws) p.1 (omega arith)) zero-sum in
    rw (fields, ← c) (ap (λ (r : List ℕ). b ∷ r) (sym parts))

pub whole_frame : (ks : List Kind) (l : List ℕ) → all_digits l ≡ true → length l ≡ digits_in ks (line_kind (bytes_of l)) → total (bytes_of l) ≡ 0
    → frame_in ks (line_kind (bytes_of l)) (fields_in ks (bytes_of l)) ≡ l ++ (10 ∷ [])
unfolding body digits_in
whole_frame ks l d long z =
    let bs = bytes_of l in
    let n : length bs ≡ summed (widths_in ks (line_kind bs)) + 2 = omega (arith, long, length-bytes_of l) in
    let same : body ks (line_kind bs) (fields_in ks bs) ≡ l
    = ap spelled (whole_bytes ks bs (bytes_of_lem l d) n z) ∙ spelled-bytes_of l d (omega (arith, long)) in
    frame_body ks (line_kind bs) (fields_in ks bs) ∙ ap (λ (r : List ℕ). r ++ (10 ∷ [])) same

good_frame : (l : List ℕ) → Good l → frame_of (line_kind (bytes_of l)) (line_fields (bytes_of l)) ≡ l ++ (10 ∷ [])
good_frame l g = whole_frame journal_kinds l g.digits g.long g.sum

-- the action of a known kind and its fields has that kind and those fields
action_there : (bs : List ℕ) (kind : ℕ) → known kind ≡ true → (kind ≡ 0 → ⊥)
    → (kind_of (action_of kind (unpacked (widths kind) bs)) ≡ kind) × (fields_of (action_of kind (unpacked (widths kind) bs)) ≡ unpacked (widths kind) bs)
unfolding action_of unpacked widths_in journal_kinds
action_there bs =
    kind_cases
    (λ (k : ℕ). (k ≡ 0 → ⊥) → (kind_of (action_of k (unpacked (widths k) bs)) ≡ k) ×
    (fields_of (action_of k (unpacked (widths k) bs)) ≡ unpacked (widths k) bs))
    (λ z. absurd (z refl)) (λ z. (refl, refl)) (λ z. (refl, refl)) (λ z. (refl, refl)) (λ z. (refl, refl))

-- what a line that reads as a step, or as a start, is
step_read : (line : ℕ) (l : List ℕ) (s : Step) → read_line line l ≡ Ok (Act s)
    → (line_refusal l ≡ 0) × (line_kind (bytes_of l) ≡ 0 → ⊥) ×
    (s ≡ record { line = line; action = action_of (line_kind (bytes_of l)) (line_fields (bytes_of l)) })
step_read line l s e = go (line_refusal l) (eqb (line_kind (bytes_of l)) 0) refl refl
  where
    go : (k : ℕ) (b : Bool) → line_refusal l ≡ k → eqb (line_kind (bytes_of l)) 0 ≡ b
        → (line_refusal l ≡ 0) × (line_kind (bytes_of l) ≡ 0 → ⊥) ×
        (s ≡ record { line = line; action = action_of (line_kind (bytes_of l)) (line_fields (bytes_of l)) })
    go (suc k) b p q = let r = read_wrong line k l p in let z : ◌≡◌ {A = ℕ} 0 1 = cc in absurd (omega arith)
    go zero true p q =
        let r = read_begin line l p (eqb-true (line_kind (bytes_of l)) 0 q) in
        let z : ◌≡◌ {A = ℕ} 0 1 = cc in
        absurd (omega arith)
    go zero false p q =
        let other = eqb-false (line_kind (bytes_of l)) 0 q in
        let r = read_act line l p other in
        (p, other, cc)

start_read : (line : ℕ) (l : List ℕ) (n : ℕ) → read_line line l ≡ Ok (Begin n)
    → (line_refusal l ≡ 0) × (line_kind (bytes_of l) ≡ 0) × (n ≡ get_or (line_fields (bytes_of l)) 0 0)
start_read line l n e = go (line_refusal l) (eqb (line_kind (bytes_of l)) 0) refl refl
  where
    go : (k : ℕ) (b : Bool) → line_refusal l ≡ k → eqb (line_kind (bytes_of l)) 0 ≡ b →
        (line_refusal l ≡ 0) × (line_kind (bytes_of l) ≡ 0) × (n ≡ get_or (line_fields (bytes_of l)) 0 0)
    go (suc k) b p q = let r = read_wrong line k l p in let z : ◌≡◌ {A = ℕ} 0 1 = cc in absurd (omega arith)
    go zero false p q =
        let r = read_act line l p (eqb-false (line_kind (bytes_of l)) 0 q) in
        let z : ◌≡◌ {A = ℕ} 0 1 = cc in
        absurd (omega arith)
    go zero true p q =
        let is = eqb-true (line_kind (bytes_of l)) 0 q in
        let r = read_begin line l p is in
        (p, is, cc)

-- A line that reads as a step is that step's frame without its LF. The step's fields are as wide as in the frame, its outcome is one of the four,
-- and its line number is the one told.
pub record IsFrame (line : ℕ) (l : List ℕ) (s : Step) : Type 0 where
  pub spells : frame s.action ≡ l ++ (10 ∷ [])
  pub fits : wide s.action ≡ true
  pub within : outcome_above s.action ≡ false
  pub told : s.line ≡ line

pub step_framed : (line : ℕ) (l : List ℕ) (s : Step) → read_line line l ≡ Ok (Act s) → IsFrame line l s
unfolding frame wide fields_in
step_framed line l s e =
    let r = step_read line l s e in
    let g = good l r.0 in
    let bs = bytes_of l in
    let kind = line_kind bs in
    let there = action_there (drop 1 bs) kind g.has_kind r.1 in
    let acts : s.action ≡ action_of kind (line_fields bs) = ap (λ (x : Step). x.action) r.2 in
    let is : kind_of s.action ≡ kind = ap kind_of acts ∙ there.0 in
    let has : fields_of s.action ≡ line_fields bs = ap fields_of acts ∙ there.1 in
    record {
      spells = rw (is, has) (good_frame l g);
      fits = rw (is, has) (fit-unpacked (widths kind) (drop 1 bs) (bytes_drop 1 bs (bytes_of_lem l g.digits)));
      within = sym (outcome_back s.action) ∙ rw (is, has) g.outcome;
      told = ap (λ (x : Step). x.line) r.2;
    }

-- No step has two frames: lines that read as the same action are the same line.
pub one_frame : (line line' : ℕ) (l l' : List ℕ) (s s' : Step) → read_line line l ≡ Ok (Act s) → read_line line' l' ≡ Ok (Act s') → s.action ≡ s'.action
    → l ≡ l'
one_frame line line' l l' s s' p q e =
    snoc_injective l l' 10 (sym (step_framed line l s p).spells ∙ ap frame e ∙ (step_framed line' l' s' q).spells)

-- The same for starts.
start_body : ℕ → List ℕ
start_body n = body journal_kinds 0 (n ∷ [])

start_back : (n : ℕ) → count_right n ≡ true → Back journal_kinds (start_body n) 0 (n ∷ [])
unfolding widths_in journal_kinds start_body
start_back n p =
    let most = leb-true n 16 (and_right (leb 2 n) (leb n 16) p) in
    back journal_kinds 0 (n ∷ []) (omega arith) refl (cc (lt-ltb n 256 (omega arith)))

start_known : known 0 ≡ true
unfolding known_in journal_kinds
start_known = refl

read_start : (n line : ℕ) → count_right n ≡ true → read_line line (start_body n) ≡ Ok (Begin n)
read_start n line p =
    let l = start_body n in
    let b = start_back n p in
    let right : Good l = record {
      digits = b.digits;
      has_kind = rw b.is start_known;
      long = b.long ∙ ap digits_of (sym b.is);
      outcome = rw b.is refl;
      sum = b.sum;
      start = rw (b.is, b.fields, p) refl;
    } in
    sym (rw b.fields at (read_begin line l (clear l right) b.is))

frame_start : (n : ℕ) → start_frame n ≡ start_body n ++ (10 ∷ [])
unfolding start_frame start_body
frame_start n = frame_body journal_kinds 0 (n ∷ [])

pub start_ends : (n : ℕ) → (l : List ℕ) × (start_frame n ≡ l ++ (10 ∷ []))
start_ends n = (start_body n, frame_start n)

pub start_reads : (n line : ℕ) (l : List ℕ) → count_right n ≡ true → start_frame n ≡ l ++ (10 ∷ []) → read_line line l ≡ Ok (Begin n)
start_reads n line l p e =
    let same : start_body n ≡ l = snoc_injective (start_body n) l 10 (sym (frame_start n) ∙ e) in
    rw (← same) (read_start n line p)

start_field : (bs : List ℕ) → line_kind bs ≡ 0 → line_fields bs ≡ get_or (line_fields bs) 0 0 ∷ []
unfolding fields_in unpacked widths_in journal_kinds
start_field bs e = rw e refl

pub start_framed : (line : ℕ) (l : List ℕ) (n : ℕ) → read_line line l ≡ Ok (Begin n) → (start_frame n ≡ l ++ (10 ∷ [])) × (count_right n ≡ true)
unfolding start_frame
start_framed line l n e =
    let r = start_read line l n e in
    let g = good l r.0 in
    let fields : line_fields (bytes_of l) ≡ n ∷ [] = start_field (bytes_of l) r.1 ∙ ap (λ (m : ℕ). m ∷ []) (sym r.2) in
    let right : not (count_right n) ≡ false = rw (r.1, ← r.2) at g.start in
    (rw (r.1, fields) at (good_frame l g), not-false (count_right n) right)

pub one_start : (line line' : ℕ) (l l' : List ℕ) (n : ℕ) → read_line line l ≡ Ok (Begin n) → read_line line' l' ≡ Ok (Begin n) → l ≡ l'
one_start line line' l l' n p q = snoc_injective l l' 10 (sym (start_framed line l n p).0 ∙ (start_framed line' l' n q).0)

pub start_injective : (n m : ℕ) → count_right n ≡ true → count_right m ≡ true → start_frame n ≡ start_frame m → n ≡ m
start_injective n m p q e =
    let ends = start_ends n in
    let r = start_reads n 0 ends.0 p ends.1 in
    let r' = start_reads m 0 ends.0 q (sym e ∙ ends.1) in
    cc

-- What the writer left and says that it wrote, read without its LF, is the step; so for a start.
pub written_reads : (out : List ℕ) (x : Action) (line k : ℕ) → wide x ≡ true → frame_reply out x ≡ Ok k
    → read_line line (take (k - 1) (frame_after out x)) ≡ Ok (Act (record { line = line; action = x }))
unfolding place
written_reads out x line k p e = go (writer_refusal out x) refl
  where
    go : (n : ℕ) → writer_refusal out x ≡ n → read_line line (take (k - 1) (frame_after out x)) ≡ Ok (Act (record { line = line; action = x }))
    go (suc n) q =
        let r = framed_none out x n q in
        let z : ◌≡◌ {A = ℕ} 0 1 = cc in
        absurd (omega arith)
    go zero q =
        let r = framed_right out x q in
        let ends = frame_ends x in
        let long : length (frame x) ≡ k = cc r.0 in
        let within = written_within out x q in
        let n : length ends.0 ≡ k - 1 = omega (arith, ap length ends.1, length-append ends.0 (10 ∷ [])) in
        let rest = drop (0 + length (frame x)) out in
        let text : frame_after out x ≡ ends.0 ++ (10 ∷ rest)
        = sym r.1 ∙ ap (λ (f : List ℕ). f ++ rest) ends.1 ∙ append_assoc ends.0 (10 ∷ []) rest in
        rw (text, take_at ends.0 (10 ∷ rest) (k - 1) n) (frame_reads x line ends.0 p within ends.1)

pub started_reads : (out : List ℕ) (n line k : ℕ) → start_reply out n ≡ Ok k → read_line line (take (k - 1) (start_after out n)) ≡ Ok (Begin n)
unfolding place
started_reads out n line k e = go (starter_refusal out n) refl
  where
    go : (m : ℕ) → starter_refusal out n ≡ m → read_line line (take (k - 1) (start_after out n)) ≡ Ok (Begin n)
    go (suc m) q =
        let r = started_none out n m q in
        let z : ◌≡◌ {A = ℕ} 0 1 = cc in
        absurd (omega arith)
    go zero q =
        let r = started_right out n q in
        let ends = start_ends n in
        let long : length (start_frame n) ≡ k = cc r.0 in
        let right = started_within out n q in
        let s : length ends.0 ≡ k - 1 = omega (arith, ap length ends.1, length-append ends.0 (10 ∷ [])) in
        let rest = drop (0 + length (start_frame n)) out in
        let text : start_after out n ≡ ends.0 ++ (10 ∷ rest)
        = sym r.1 ∙ ap (λ (f : List ℕ). f ++ rest) ends.1 ∙ append_assoc ends.0 (10 ∷ []) rest in
        rw (text, take_at ends.0 (10 ∷ rest) (k - 1) s) (start_reads n line ends.0 right ends.1)
