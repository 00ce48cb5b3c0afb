-- Laws of `read_to`: which answer gives which case, by the tests that the code makes of it; and what may be said of each case.
use mathlib.Core.Path.{◌≡◌, refl}
use mathlib.Core.Bool.{Bool, true, false, cond}
use Prim.Native.Nat.{ℕ, zero, suc, ◌+◌, ◌-◌, ◌<◌, ◌≤◌}
use native.Mathlib.Omega.{arith}
use lib.Dec.{ltb}
use borrow.Author.Tests.{ltb-true, lt-ltb, le-ltb}
use Rattle.std.specs.Prelude.{Result, Ok, Err}
use Rattle.std.specs.declared.io.Error.{Error}
use Rattle.std.specs.declared.io.ErrorKind.{ErrorKind}
use Rattle.std.specs.declared.io.ErrorKind.TheVariants.{Interrupted}
use Rattle.std.specs.IoError.{error_kind}
use Rattle.input.specs.declared.Input.TheVariants.{More, End, Full}
use Rattle.input.specs.Reading.{is_interruption, interrupted, read_to, Within, Told}

-- no other kind is an interruption
other_kind : (k : ErrorKind) → (k ≡ Interrupted → ⊥) → is_interruption k ≡ false
other_kind Interrupted n = absurd (n refl)
other_kind _ n = refl

module _ (lent at : ℕ) where
  pub to_end : Ok (End at) ≡ read_to lent at (Ok 0)
  unfolding read_to
  to_end = refl

  pub to_more : (n : ℕ) → (n ≡ 0 → ⊥) → n < lent - at → Ok (More (at + n)) ≡ read_to lent at (Ok n)
  unfolding read_to
  to_more zero some room = absurd (some refl)
  to_more (suc k) some room = rw (lt-ltb (at + suc k) lent (omega arith))

  pub to_full : (n : ℕ) → (n ≡ 0 → ⊥) → lent - at ≤ n → Ok Full ≡ read_to lent at (Ok n)
  unfolding read_to
  to_full zero some over = absurd (some refl)
  to_full (suc k) some over = rw (le-ltb (at + suc k) lent (omega arith))

  pub to_again : (e : Error) → error_kind e ≡ Interrupted → Ok (More at) ≡ read_to lent at (Err e)
  unfolding read_to
  to_again e h = rw h

  pub to_failed : (e : Error) → (error_kind e ≡ Interrupted → ⊥) → Err e ≡ read_to lent at (Err e)
  unfolding read_to
  to_failed e h = rw (other_kind (error_kind e) h)

  -- what has come stays within the lent bytes
  pub to_within : (got : Result ℕ Error) → at < lent → Within lent (read_to lent at got)
  unfolding read_to
  to_within (Ok zero) h = h
  to_within (Ok (suc k)) h = more (ltb (at + suc k) lent) (ltb-true (at + suc k) lent)
    where
      more : (b : Bool) → (b ≡ true → at + suc k < lent) → Within lent (cond b (Ok (More (at + suc k))) (Ok Full))
      more true p = p refl
      more false p = tt
  to_within (Err e) h = again (interrupted e)
    where
      again : (b : Bool) → Within lent (cond b (Ok (More at)) (Err e))
      again true = h
      again false = tt

  -- an error that is told is no interruption
  pub to_told : (got : Result ℕ Error) → Told (read_to lent at got)
  unfolding read_to
  to_told (Ok zero) = tt
  to_told (Ok (suc k)) = more (ltb (at + suc k) lent)
    where
      more : (b : Bool) → Told (cond b (Ok (More (at + suc k))) (Ok Full))
      more true = tt
      more false = tt
  to_told (Err e) = again (interrupted e) refl
    where
      again : (b : Bool) → interrupted e ≡ b → Told (cond b (Ok (More at)) (Err e))
      again true h = tt
      again false h = h
