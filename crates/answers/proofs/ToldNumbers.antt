-- The number that is told of an answer is the one that its tests give, whatever it is: what is refused by a number is told by a name that has that
-- number, and leaves what was there. Of a step, the writers, a delivery into a lent list, a fresh table, the counts, and a line read by itself or into
-- words; `StepLaws.reply_number` and `FrameLaws.value_refusal` say the first of a step's values and a line's.
use mathlib.Core.Path.{◌≡◌, refl, sym, ◌∙◌, subst}
use mathlib.Core.Bool.{not}
use mathlib.Core.List.{List, [], ◌∷◌}
use mathlib.Core.Logic.{inl, inr}
use Prim.Native.Nat.{ℕ, zero, suc, ◌*◌, ◌/◌, ◌%◌}
use native.Mathlib.Omega.{arith}
use lib.Dec.{ltb, leb, eqb}
use lib.ListN.{length, get_or}
use Rattle.std.specs.Prelude.{Err}
use Rattle.meaning.specs.declared.Action.{Action}
use Rattle.meaning.specs.declared.Action.TheVariants.{Write, Session, Purge, Deliver}
use Rattle.meaning.specs.declared.Report.{Report}
use Rattle.meaning.specs.declared.Report.TheVariants.{Written, Carried, Purged, Delivered}
use Rattle.meaning.specs.declared.Tally.{Tally}
use Rattle.meaning.specs.Refusals.{number_of, refusal_of, answered, fault_values, Test, test, first, first_place}
use Rattle.meaning.specs.Rows.{record_at, every}
use Rattle.meaning.specs.Table.{log_most, sound, absent}
use Rattle.meaning.specs.Steps.{refusal, refusals, reported, reply, after, lent_refusals, lent_refusal, lent_reply, reply_values}
use Rattle.meaning.specs.Frames.{
  writer_tests,
  writer_refusal,
  starter_tests,
  starter_refusal,
  frame_reply,
  frame_after,
  start_reply,
  start_after,
  framed_values,
  field_tests,
  line_tests,
  line_refusal,
  line_place,
  line_fault,
  words_tests,
  words_fault,
}
use Rattle.meaning.specs.Verdicts.{count_refusal, verdict_count, node_count, count_values}
use Rattle.meaning.proofs.RefusalLaws.{Named, named, numbered, first_named, fault_told, none_first, place_none}
use Rattle.meaning.proofs.StepLaws.{refuse}
use Rattle.meaning.proofs.FrameLaws.{framed_wrong, started_wrong, line_named, clear_place}

-- of a number above 0 that is a name's or 0
pub named_above : (k : ℕ) → Named (suc k) → number_of (refusal_of (suc k)) ≡ suc k
named_above k (inl e) = absurd (omega (arith, e))
named_above k (inr e) = e

pub refusal_named : (t : List ℕ) (x : Action) → Named (refusal t x)
unfolding refusal refusals named refusal_of
refusal_named t (Write p c b v) = first_named (refusals t (Write p c b v)) refl
refusal_named t (Session a b ca cb o) = first_named (refusals t (Session a b ca cb o)) refl
refusal_named t (Purge p) = first_named (refusals t (Purge p)) refl
refusal_named t (Deliver p) = first_named (refusals t (Deliver p)) refl

-- A refused step: "has a number from the list", its name is that number's, and it "changes no word of the table"
pub refuse_numbered : (t : List ℕ) (x : Action) (k : ℕ) → refusal t x ≡ suc k →
    (number_of (refusal_of (suc k)) ≡ suc k) × ((Err (refusal_of (suc k)) ≡ reply t x) × (t ≡ after t x))
refuse_numbered t x k h =
    let n = named_above k (subst Named h (refusal_named t x)) in
    (n, refuse t x (refusal_of (suc k)) (h ∙ sym n))

-- The writers: "refuses with 2 as above, then with 17 if the lent bytes are too few; it then writes nothing"
pub writer_named : (out : List ℕ) (x : Action) → Named (writer_refusal out x)
unfolding writer_refusal writer_tests named refusal_of
writer_named out x = first_named (writer_tests out x) refl

pub framed_numbered : (out : List ℕ) (x : Action) (k : ℕ) → writer_refusal out x ≡ suc k →
    (number_of (refusal_of (suc k)) ≡ suc k) × ((Err (refusal_of (suc k)) ≡ frame_reply out x) × (out ≡ frame_after out x))
framed_numbered out x k h =
    let n = named_above k (subst Named h (writer_named out x)) in
    (n, framed_wrong out x (refusal_of (suc k)) (h ∙ sym n))

pub starter_named : (out : List ℕ) (n : ℕ) → Named (starter_refusal out n)
unfolding starter_refusal starter_tests named refusal_of
starter_named out n = first_named (starter_tests out n) refl

pub started_numbered : (out : List ℕ) (n k : ℕ) → starter_refusal out n ≡ suc k →
    (number_of (refusal_of (suc k)) ≡ suc k) × ((Err (refusal_of (suc k)) ≡ start_reply out n) × (out ≡ start_after out n))
started_numbered out n k h =
    let e = named_above k (subst Named h (starter_named out n)) in
    (e, started_wrong out n (refusal_of (suc k)) (h ∙ sym e))

-- the values that are told begin with the number
framed_first : (k n : ℕ) → Named k → get_or (framed_values (answered k n)) 0 0 ≡ k
framed_first zero n h = refl
framed_first (suc k) n h = named_above k h

pub framed_number : (out : List ℕ) (x : Action) → get_or (framed_values (frame_reply out x)) 0 0 ≡ writer_refusal out x
unfolding frame_reply
framed_number out x = framed_first (writer_refusal out x) _ (writer_named out x)

pub started_number : (out : List ℕ) (n : ℕ) → get_or (framed_values (start_reply out n)) 0 0 ≡ starter_refusal out n
unfolding start_reply
started_number out n = framed_first (starter_refusal out n) _ (starter_named out n)

-- A delivery into a lent list: 7 after a step's own
pub lent_named : (t : List ℕ) (k : ℕ) (x : Action) → Named (lent_refusal t k x)
unfolding lent_refusal lent_refusals refusals named refusal_of
lent_named t k (Write p c b v) = first_named (lent_refusals t k (Write p c b v)) refl
lent_named t k (Session a b ca cb o) = first_named (lent_refusals t k (Session a b ca cb o)) refl
lent_named t k (Purge p) = first_named (lent_refusals t k (Purge p)) refl
lent_named t k (Deliver p) = first_named (lent_refusals t k (Deliver p)) refl

pub lent_number : (t : List ℕ) (k : ℕ) (x : Action) → get_or (reply_values (lent_reply t k x)) 0 0 ≡ lent_refusal t k x
unfolding lent_reply
lent_number t k x = go (lent_refusal t k x) (reported t x) (lent_named t k x)
  where
    go : (n : ℕ) (r : Report) → Named n → get_or (reply_values (answered n r)) 0 0 ≡ n
    go zero Written h = refl
    go zero (Carried a b) h = refl
    go zero (Purged j q) h = refl
    go zero (Delivered j) h = refl
    go (suc n) r h = named_above n h

-- The counts: 1, and over a node's log 1 and 3
counted_first : (k : ℕ) (x : Tally) → Named k → get_or (count_values (answered k x)) 0 0 ≡ k
counted_first zero x h = refl
counted_first (suc k) x h = named_above k h

abbrev count_tests : List ℕ → List Test
count_tests w =
    test 1 (not (eqb (length w % 4) 0)) ∷
    test 1 (ltb (4 * log_most) (length w)) ∷
    test 1 (not (every (length w / 4) (λ i. leb (record_at w i).verdict 255))) ∷
    []

abbrev node_tests : List ℕ → ℕ → List Test
node_tests t p = test 1 (not (sound t)) ∷ test 3 (absent t p) ∷ []

pub count_number : (w : List ℕ) → get_or (count_values (verdict_count w)) 0 0 ≡ count_refusal w
unfolding verdict_count count_refusal named refusal_of
count_number w = counted_first (count_refusal w) _ (first_named (count_tests w) refl)

pub node_number : (t : List ℕ) (p : ℕ) → get_or (count_values (node_count t p)) 0 0 ≡ first (node_tests t p)
unfolding node_count named refusal_of
node_number t p = counted_first (first (node_tests t p)) _ (first_named (node_tests t p) refl)

-- A line by itself, and read into words: 17 after its own
pub line_numbered : (l : List ℕ) → fault_values (line_fault l) ≡ line_refusal l ∷ line_place l ∷ []
unfolding line_fault
line_numbered l = fault_told (line_refusal l) (line_place l) (line_named l) (clear_place l)

pub words_numbered : (l words : List ℕ) → fault_values (words_fault l words) ≡ first (words_tests l words) ∷ first_place (words_tests l words) ∷ []
unfolding words_fault words_tests line_tests field_tests named numbered refusal_of
words_numbered l words =
    fault_told (first (words_tests l words)) (first_place (words_tests l words)) (first_named (words_tests l words) refl)
    (λ e. place_none (words_tests l words) (none_first (words_tests l words) refl e))
