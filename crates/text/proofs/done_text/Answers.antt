-- `done_text` prints all lines where each test of the definition holds, and else nothing.
use mathlib.Core.Path.{◌≡◌}
use mathlib.Core.Bool.{true, false}
use mathlib.Core.List.{List}
use Prim.Native.Nat.{ℕ}
use native.Mathlib.Omega.{arith}
use lib.ListN.{length}
use borrow.Author.Tests.{eq-eqb, ne_eqb, le-leb, lt-leb}
use Rattle.std.specs.Prelude.{Ok}
use Rattle.meaning.specs.declared.Done.{Done}
use Rattle.meaning.specs.Table.{Vectors, form_words, nodes_most, count}
use Rattle.printing.specs.Printed.{Printed, Room}
use Rattle.text.specs.Text.{text_most, has_nodes, text_for}
use Rattle.printing.specs.declared.Printer.{Printer}
use Rattle.printing.proofs.Printing.{printed_as, printed_none}
use Rattle.nodeparts.proofs.PartLaws.{count_is}
use Rattle.text.proofs.Lines.{text_none, text_whole}
use Rattle.text.proofs.done_text.Goals as goal
use Rattle.text.proofs.done_text.Goals.{
  else-t-eq-TABLE_WORDS-via-then-t-eq-TABLE_WORDS+then-t-most+else-done-most,
  else-t-eq-TABLE_WORDS-via-then-t-eq-TABLE_WORDS+else-t-most,
  else-t-eq-TABLE_WORDS-via-else-t-eq-TABLE_WORDS,
}

-- nothing is printed where a test fails
nothing : (p : Printer) (x : Done) (t : List ℕ) → Room p text_most → has_nodes (Ok x) t ≡ false → Printed p (text_for p.out.now (Ok x) t) text_most p
nothing p x t h e = printed_as (text_none p.out.now (Ok x) t (omega arith) e) (omega arith) (printed_none p text_most (omega arith))

pub invariant_of-all_lines : goal.invariant_of-all_lines
invariant_of-all_lines c =
    let e = count_is c.args.t.now in
    record { nodes = record { long = c.if-t-eq-TABLE_WORDS.true; few = omega arith } }

pub returns-then-done-most : goal.returns-then-done-most
returns-then-done-most c =
    let t = c.args.t.now in
    let x = c.args.done in
    let e = count_is t in
    let long = eq-eqb (length t) (form_words Vectors) c.if-t-eq-TABLE_WORDS.true in
    let few = le-leb (count t) nodes_most (omega arith) in
    let h : has_nodes (Ok x) t ≡ true = rw (long, few, le-leb x.n nodes_most c.if-done-most.true) in
    printed_as (text_whole c.args.printer.now.out.now (Ok x) t (omega arith) h) (omega arith) c.all_lines.ensures

pub returns-else-t-eq-TABLE_WORDS : goal.returns-else-t-eq-TABLE_WORDS
returns-else-t-eq-TABLE_WORDS c =
    let t = c.args.t.now in
    let x = c.args.done in
    let e = count_is t in
    nothing c.args.printer.now x t c.requires
    (elim c.else-t-eq-TABLE_WORDS.branch [
      | else-t-eq-TABLE_WORDS-via-then-t-eq-TABLE_WORDS+then-t-most+else-done-most w ↦
          let long = eq-eqb (length t) (form_words Vectors) w.if-t-eq-TABLE_WORDS.true in
          let few = le-leb (count t) nodes_most (omega arith) in
          rw (long, few, lt-leb x.n nodes_most w.if-done-most.false)
      | else-t-eq-TABLE_WORDS-via-then-t-eq-TABLE_WORDS+else-t-most w ↦
          let long = eq-eqb (length t) (form_words Vectors) w.if-t-eq-TABLE_WORDS.true in
          rw (long, lt-leb (count t) nodes_most (omega arith))
      | else-t-eq-TABLE_WORDS-via-else-t-eq-TABLE_WORDS w ↦ rw (ne_eqb (length t) (form_words Vectors) w.if-t-eq-TABLE_WORDS.false)
    ])
