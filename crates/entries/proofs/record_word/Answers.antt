-- `record_word` meets its contract: the word where the record stands, 0 beyond the log and beyond the record.
use mathlib.Core.Bool.{not}
use mathlib.Core.Path.{ap}
use Prim.Native.Nat.{◌<◌, ◌≤◌}
use native.Mathlib.Omega.{arith}
use Rattle.entries.proofs.EntryLaws.{absent, there, is_sound_lem, is_node, below, no_record, record_beyond, word_beyond, record_is}
use borrow.Author.Rules.{rules}
use Rattle.entries.proofs.record_word.Goals as goal

pub returns-then-not-is_present : goal.returns-then-not-is_present
returns-then-not-is_present c = no_record _ _ _ _ (absent _ _ c.is_present.result c.is_present.ensures (ap not c.if-not-is_present.true))

pub held_of-requires : goal.held_of-requires
held_of-requires c =
    let h = there _ _ c.is_present.result c.is_present.ensures (ap not c.if-not-is_present.false) in
    ((is_sound_lem _ _ h).long, omega (arith, below _ _ h))

pub returns-then-held_of-index : goal.returns-then-held_of-index
returns-then-held_of-index c =
    let h = there _ _ c.is_present.result c.is_present.ensures (ap not c.if-not-is_present.false) in
    record_beyond _ _ _ _ _ h c.held_of.ensures (omega (arith, c.if-held_of-index.true))

pub returns-then-word-gt3 : goal.returns-then-word-gt3
returns-then-word-gt3 c =
    word_beyond _ _ _ _ (there _ _ c.is_present.result c.is_present.ensures (ap not c.if-not-is_present.false)) (omega (arith, c.if-word-gt3.true))

pub log_at-requires : goal.log_at-requires
log_at-requires c =
    let h = there _ _ c.is_present.result c.is_present.ensures (ap not c.if-not-is_present.false) in
    ((is_sound_lem _ _ h).long, omega (arith, below _ _ h))

pub overflow_add-result : goal.overflow_add-result
overflow_add-result c =
    let h = there _ _ c.is_present.result c.is_present.ensures (ap not c.if-not-is_present.false) in
    let l = (is_sound_lem _ _ h).long in
    let b = below _ _ h in
    search rules

pub overflow_add-result-2 : goal.overflow_add-result-2
overflow_add-result-2 c =
    let h = there _ _ c.is_present.result c.is_present.ensures (ap not c.if-not-is_present.false) in
    let l = (is_sound_lem _ _ h).long in
    let b = below _ _ h in
    search rules

pub offset_bounds-table-log_at : goal.offset_bounds-table-log_at
offset_bounds-table-log_at c =
    let h = there _ _ c.is_present.result c.is_present.ensures (ap not c.if-not-is_present.false) in
    let l = (is_sound_lem _ _ h).long in
    let b = below _ _ h in
    search rules

pub bounds-table-log_at : goal.bounds-table-log_at
bounds-table-log_at c =
    let h = there _ _ c.is_present.result c.is_present.ensures (ap not c.if-not-is_present.false) in
    let t = is_sound_lem _ _ h in
    omega
    (arith, t.long, t.room _ (is_node _ _ h), below _ _ h, c.held_of.ensures, c.if-held_of-index.false, c.if-word-gt3.false, c.log_at.ensures)

pub returns : goal.returns
returns c =
    let h = there _ _ c.is_present.result c.is_present.ensures (ap not c.if-not-is_present.false) in
    let held : c.args.index < c.held_of.result = omega (arith, c.if-held_of-index.false) in
    let word : c.args.word ≤ 3 = omega (arith, c.if-word-gt3.false) in
    record_is _ _ _ _ _ _ h c.held_of.ensures held word c.log_at.ensures
