-- A step leaves a sound table sound: what a function that applies an action owes its table.
use mathlib.Core.Path.{◌≡◌}
use mathlib.Core.Bool.{true}
use mathlib.Core.List.{List}
use Prim.Native.Nat.{ℕ, ◌≤◌}
use Rattle.meaning.specs.declared.Action.{Action}
use Rattle.meaning.specs.Table.{sound}
use Rattle.meaning.specs.Steps.{Reply, after}
use Rattle.meaning.proofs.TableLaws.{sound_facts, facts_sound}
use Rattle.meaning.proofs.StepLaws.{verdict_of, after-sound}
use Rattle.looks.specs.Applied.{Applied}

pub after_kept : (t : List ℕ) (x : Action) (u : List ℕ) → u ≡ after t x → verdict_of x ≤ 255 → sound t ≡ true → sound u ≡ true
after_kept t x u e small s = facts_sound u (rw e (after-sound t x small (sound_facts t s)))

pub applied_kept : (t : List ℕ) (x : Action) (r : Reply) (u : List ℕ) → Applied t x r u → verdict_of x ≤ 255 → sound t ≡ true → sound u ≡ true
applied_kept t x r u done small s = after_kept t x u done.1 small s
