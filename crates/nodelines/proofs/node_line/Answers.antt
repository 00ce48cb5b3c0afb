-- `node_line` is five texts, one after the other, and the law `line_is` says that they are the node's line.
use mathlib.Core.Path.{ap}
use mathlib.Core.List.{List, ◌++◌}
use Prim.Native.Nat.{ℕ}
use native.Mathlib.Omega.{arith}
use Rattle.meaning.specs.Rows.{ascii}
use Rattle.meaning.specs.Table.{Vectors, part, count}
use Rattle.meaning.specs.Journals.{spaced}
use Rattle.printing.proofs.Printing.{printed_as, printed_then}
use Rattle.meaning.proofs.TableLaws.{form_is}
use Rattle.nodelines.proofs.LineLaws.{line_is}
use Rattle.nodelines.proofs.node_line.Goals as goal

pub returns : goal.returns
returns c =
    let t = c.args.table.now.words.now in
    let said_part : List ℕ → ℕ → List ℕ = λ w a. w ++ spaced (part a (count t) t) in
    let summary = printed_as {most' = 338} (ap (said_part (ascii " S")) c.summary_at.ensures.0) (omega arith) c.vector.ensures in
    let acks = printed_as {most' = 338} (ap (said_part (ascii " K")) c.acks_at.ensures) (omega arith) c.vector-2.ensures in
    printed_as (line_is t c.args.p (form_is Vectors t c.args.table.now.nodes.long)) (omega arith)
    (printed_then c.number.ensures (printed_then summary (printed_then acks (printed_then c.held_part.ensures c.put.ensures))))
