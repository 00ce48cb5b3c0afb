-- What it is that a contract allows one reply. It is said of the contract's own generated reading (`Post` of a function's `Reads`), so it
-- cannot drift from the source.
-- Document 01, "How much a contract says": "That two replies allowed by the same contract are equal is itself proved".
use mathlib.Core.Path.{◌≡◌}
use mathlib.Core.List.{List}
use Prim.Native.Nat.{ℕ}
use contract.Lifetimes.{Lfts}
use borrow.Fn.Kinds.{ParamKind, ResultKind, Out, Dens, res_t, ended_of}
use denote.Triple.Clauses.{AtExit}

module _ (n : ℕ) (ps : List (ParamKind n)) (r : ResultKind n) (post : Out n ps r) where
  -- one result for each choice of arguments, where nothing is lent to be written
  abbrev pub OneResult : Type 0
  OneResult = (κs : Lfts n) (a : Dens κs ps) (x y : (res_t r κs).Denot) (s s' : AtExit (ended_of n ps r) κs) → post κs a x s → post κs a y s' → x ≡ y

  -- one value of the result and of what was lent at exit, as `reply` reads them
  abbrev pub OneReply : {R : Type 0} → ((κs : Lfts n) → (res_t r κs).Denot → AtExit (ended_of n ps r) κs → R) → Type 0
  OneReply reply =
      (κs : Lfts n) (a : Dens κs ps) (x y : (res_t r κs).Denot) (s s' : AtExit (ended_of n ps r) κs)
      → post κs a x s
      → post κs a y s'
      → reply κs x s ≡ reply κs y s'
