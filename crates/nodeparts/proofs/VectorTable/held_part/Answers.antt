-- `held_part` prints the node's held number.
use mathlib.Core.Path.{ap, ◌∙◌}
use mathlib.Core.List.{[], ◌∷◌, ◌++◌}
use Prim.Native.Nat.{ℕ}
use native.Mathlib.Omega.{arith}
use Rattle.meaning.specs.Rows.{ascii}
use Rattle.meaning.specs.Table.{held}
use Rattle.meaning.specs.Journals.{spaced}
use Rattle.printing.proofs.Printing.{printed_as}
use Rattle.nodeparts.proofs.PartLaws.{said_is}
use Rattle.nodeparts.proofs.VectorTable.held_part.Goals as goal

pub returns : goal.returns
returns c =
    let t = c.args.self.now.words.now in
    let said = ap (λ (v : ℕ). ascii " L" ++ spaced (v ∷ [])) c.held_of.ensures ∙ said_is " L" (held t c.args.p ∷ []) in
    printed_as said (omega arith) c.said_one.ensures
