-- Every action as the language types it is as wide as in its frame, so for code the way back from a frame has no premise: document 00, demand 2.
use mathlib.Core.Path.{◌≡◌}
use mathlib.Core.Bool.{true, false}
use mathlib.Core.List.{List, [], ◌∷◌, ◌++◌}
use Prim.Native.Nat.{ℕ, ◌-◌, ◌<◌}
use native.Mathlib.Omega.{arith}
use mir.Syntax.{w8, w32}
use mir.Val.{Fits}
use lib.ListN.{take}
use borrow.Author.Tests.{lt-ltb}
use Rattle.meaning.specs.declared.Action.{Action}
use Rattle.meaning.specs.declared.Action.TheVariants.{Write, Session, Purge, Deliver}
use Rattle.std.specs.Prelude.{Ok}
use Rattle.meaning.specs.declared.Said.TheVariants.{Act}
use Rattle.meaning.specs.Steps.{outcome_above}
use Rattle.meaning.specs.Frames.{journal_kinds, widths_in, frame, wide, read_line, frame_reply, frame_after}
use Rattle.meaning.proofs.FrameTheorems.{frame_reads, frame_injective, written_reads}

-- each field fits the width that the enum declares for it, by the same test that a contract has of its parameters
abbrev pub Typed : Action → Type 0
Typed (Write p t b v) = Fits w8 p × Fits w32 t × Fits w32 b × Fits w8 v
Typed (Session a b ca cb o) = Fits w8 a × Fits w8 b × Fits w32 ca × Fits w32 cb × Fits w8 o
Typed (Purge p) = Fits w8 p
Typed (Deliver p) = Fits w8 p

byte : (n : ℕ) → Fits w8 n → n < 256
byte n h = omega (arith, h.fits)

word : (n : ℕ) → Fits w32 n → n < 4294967296
word n h = omega (arith, h.fits)

pub typed_wide : (x : Action) → Typed x → wide x ≡ true
unfolding wide widths_in journal_kinds
typed_wide (Write p t b v) h =
    cc (
      lt-ltb p 256 (byte p h.0),
      lt-ltb t 4294967296 (word t h.1),
      lt-ltb b 4294967296 (word b h.2),
      lt-ltb v 256 (byte v h.3),
    )
typed_wide (Session a b ca cb o) h =
    cc (
      lt-ltb a 256 (byte a h.0),
      lt-ltb b 256 (byte b h.1),
      lt-ltb ca 4294967296 (word ca h.2),
      lt-ltb cb 4294967296 (word cb h.3),
      lt-ltb o 256 (byte o h.4),
    )
typed_wide (Purge p) h = cc (lt-ltb p 256 (byte p h))
typed_wide (Deliver p) h = cc (lt-ltb p 256 (byte p h))

-- so of such actions: "reading that frame gives the step back", no two have one frame, and what the writer wrote reads as the step
pub typed_reads : (x : Action) (line : ℕ) (l : List ℕ) → Typed x → outcome_above x ≡ false → frame x ≡ l ++ (10 ∷ [])
    → read_line line l ≡ Ok (Act (record { line = line; action = x }))
typed_reads x line l h = frame_reads x line l (typed_wide x h)

pub typed_injective : (x y : Action) → Typed x → Typed y → frame x ≡ frame y → x ≡ y
typed_injective x y h k = frame_injective x y (typed_wide x h) (typed_wide y k)

pub typed_written : (out : List ℕ) (x : Action) (line k : ℕ) → Typed x → frame_reply out x ≡ Ok k
    → read_line line (take (k - 1) (frame_after out x)) ≡ Ok (Act (record { line = line; action = x }))
typed_written out x line k h = written_reads out x line k (typed_wide x h)
