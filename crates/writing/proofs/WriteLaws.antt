-- What a writer answers and leaves: too few bytes, or the frame.
use Rattle.std.proofs.Common.{◌≡◌, refl, Bool, true, false, cond, List, ℕ, [], ◌∷◌, ◌≤◌, ◌<◌, length, ltb}
use Rattle.std.specs.Prelude.{Ok, Err}
use borrow.Author.Tests.{ltb-true, ltb-false, lt-ltb, le-ltb}
use Rattle.meaning.specs.Table.{place, count_right}
use Rattle.meaning.specs.declared.Action.{Action}
use Rattle.meaning.specs.declared.Refusal.{Refusal}
use Rattle.meaning.specs.declared.Refusal.TheVariants.{RoomShort}
use Rattle.meaning.specs.Steps.{outcome_above}
use Rattle.meaning.specs.Frames.{widths, spelled, high_first, sealed, packed, frame_in, frame_of, frame, start_frame, Framed, Wrote, Began}
use Rattle.meaning.proofs.FrameLaws.{framed_few, framed_full, started_few, started_full, length_start}
use Rattle.writing.specs.Filled.{Filled}

pub length_short : (kind n : ℕ) → widths kind ≡ 1 ∷ [] → length (frame_of kind (n ∷ [])) ≡ 7
unfolding frame_in sealed packed high_first spelled
length_short kind n e = rw (frame_in, e) refl

-- bytes put where there is room for them are a step's frame, and a start's
pub filled_wrote : (out out' : List ℕ) (x : Action) (r : Framed) → outcome_above x ≡ false → Filled out (frame x) r out' → Wrote out x r out'
filled_wrote out out' x r p f = go (ltb (length out) (length (frame x))) refl f.0 f.1
  where
    go : (b : Bool) → ltb (length out) (length (frame x)) ≡ b → r ≡ cond b (Err RoomShort) (Ok (length (frame x))) → out' ≡ cond b out (place 0 (frame x) out)
        → Wrote out x r out'
    go true e q w = rw (q, w) (framed_few out x (length (frame x)) p refl (ltb-true (length out) (length (frame x)) e))
    go false e q w =
        rw (q, w) (framed_full out (place 0 (frame x) out) x (length (frame x)) p refl (ltb-false (length out) (length (frame x)) e) refl)

pub filled_began : (out out' : List ℕ) (n : ℕ) (r : Framed) → count_right n ≡ true → Filled out (start_frame n) r out' → Began out n r out'
filled_began out out' n r p f = go (ltb (length out) (length (start_frame n))) refl f.0 f.1
  where
    go : (b : Bool) → ltb (length out) (length (start_frame n)) ≡ b → r ≡ cond b (Err RoomShort) (Ok (length (start_frame n)))
        → out' ≡ cond b out (place 0 (start_frame n) out) → Began out n r out'
    go true e q w = rw (q, w) (started_few out n p (rw length_start at (ltb-true (length out) (length (start_frame n)) e)))
    go false e q w =
        let full = started_full out (place 0 (start_frame n) out) n p (rw length_start at (ltb-false (length out) (length (start_frame n)) e)) refl in
        rw (q, w, length_start) full

-- a frame of one byte, where the room was asked for
pub short_few : (out : List ℕ) (kind n : ℕ) (e : Refusal) → widths kind ≡ 1 ∷ [] → (e ≡ RoomShort) × (length out < 7)
    → Filled out (frame_of kind (n ∷ [])) (Err e) out
short_few out kind n e w h =
    let few : ltb (length out) (length (frame_of kind (n ∷ []))) ≡ true = rw (length_short kind n w) (lt-ltb (length out) 7 h.1) in
    rw (h.0, few) (refl, refl)

pub short_full : (out out' : List ℕ) (kind n : ℕ) → widths kind ≡ 1 ∷ [] → 7 ≤ length out → out' ≡ place 0 (frame_of kind (n ∷ [])) out
    → Filled out (frame_of kind (n ∷ [])) (Ok 7) out'
short_full out out' kind n w h p =
    let full : ltb (length out) 7 ≡ false = le-ltb (length out) 7 h in
    rw (p, length_short kind n w, full) (refl, refl)

-- a frame of more, where it was asked for
pub wrote_few : (out : List ℕ) (x : Action) (n : ℕ) (e : Refusal) → outcome_above x ≡ false → length (frame x) ≡ n → (e ≡ RoomShort) × (length out < n)
    → Wrote out x (Err e) out
wrote_few out x n e p q h = rw h.0 (framed_few out x n p q h.1)
