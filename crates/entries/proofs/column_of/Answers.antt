-- `column_of` meets its contract: the entry of the column, where the table has it.
use mathlib.Core.Bool.{not}
use mathlib.Core.Path.{ap}
use Prim.Native.Nat.{◌<◌, ◌≤◌}
use native.Mathlib.Omega.{arith}
use Rattle.meaning.specs.Table.{count}
use Rattle.layout.proofs.FormLaws.{has_columns, has_vectors}
use Rattle.entries.proofs.EntryLaws.{absent, there, is_sound_lem, below, column_fits, no_column, column_none, column_out, column_is}
use Rattle.entries.proofs.column_of.Goals as goal

pub returns-then-not-is_present : goal.returns-then-not-is_present
returns-then-not-is_present c = no_column _ _ _ _ (absent _ _ c.is_present.result c.is_present.ensures (ap not c.if-not-is_present.true))

pub returns-then-not-has_columns : goal.returns-then-not-has_columns
returns-then-not-has_columns c =
    let h = there _ _ c.is_present.result c.is_present.ensures (ap not c.if-not-is_present.false) in
    let r = c.has_columns.result in
    let f = has_vectors _ r c.has_columns.ensures c.if-not-has_columns.true in
    column_none _ _ _ _ h f

pub count_of-requires : goal.count_of-requires
count_of-requires c =
    (is_sound_lem _ _ (there _ _ c.is_present.result c.is_present.ensures (ap not c.if-not-is_present.false))).long

pub returns-then-count_of-q : goal.returns-then-count_of-q
returns-then-count_of-q c =
    let h = there _ _ c.is_present.result c.is_present.ensures (ap not c.if-not-is_present.false) in
    let out : count c.args.table.now ≤ c.args.column = omega (arith, c.count_of.ensures, c.if-count_of-q.true) in
    let r = c.has_columns.result in
    let f = has_columns _ r c.has_columns.ensures c.if-not-has_columns.false in
    column_out _ _ _ _ h f out

pub column_at-requires : goal.column_at-requires
column_at-requires c =
    let h = there _ _ c.is_present.result c.is_present.ensures (ap not c.if-not-is_present.false) in
    let b = below _ _ h in
    let n = (is_sound_lem _ _ h).high in
    (omega (arith, c.count_of.ensures, c.if-count_of-q.false), omega (arith, c.count_of.ensures, c.if-count_of-q.false))

pub entry-requires : goal.entry-requires
entry-requires c =
    let h = there _ _ c.is_present.result c.is_present.ensures (ap not c.if-not-is_present.false) in
    let here : c.args.column < count c.args.table.now = omega (arith, c.count_of.ensures, c.if-count_of-q.false) in
    let r = c.has_columns.result in
    let f = has_columns _ r c.has_columns.ensures c.if-not-has_columns.false in
    (is_sound_lem _ _ h, column_fits _ _ _ _ h f here c.column_at.ensures)

pub returns : goal.returns
returns c =
    let h = there _ _ c.is_present.result c.is_present.ensures (ap not c.if-not-is_present.false) in
    let here : c.args.column < count c.args.table.now = omega (arith, c.count_of.ensures, c.if-count_of-q.false) in
    let r = c.has_columns.result in
    let f = has_columns _ r c.has_columns.ensures c.if-not-has_columns.false in
    column_is _ _ _ _ _ _ h f here c.column_at.ensures c.entry.ensures
