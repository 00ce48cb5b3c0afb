-- Bytes put from place 0 where there is room for them: what is answered, and the lent bytes at exit.
use Rattle.std.specs.Prelude.{◌≡◌, cond, List, ℕ, length, ltb, Ok, Err}
use Rattle.meaning.specs.declared.Refusal.TheVariants.{RoomShort}
use Rattle.meaning.specs.Table.{place}
use Rattle.meaning.specs.Frames.{Framed}

abbrev pub Filled : List ℕ → List ℕ → Framed → List ℕ → Type 0
Filled out bs r out' =
    (r ≡ cond (ltb (length out) (length bs)) (Err RoomShort) (Ok (length bs))) × (out' ≡ cond (ltb (length out) (length bs)) out (place 0 bs out))
