-- `of_session` meets its contract: each field by its place, and past them 0.
use native.Mathlib.Omega.{arith}
use Rattle.meaning.specs.Frames.{fields_of}
use Rattle.heads.specs.Heads.{session_at}
use Rattle.contents.proofs.ContentLaws.{past, value_at}
use Rattle.contents.proofs.of_session.Goals as goal

pub returns-in-0 : goal.returns-in-0
returns-in-0 c =
    let fields = fields_of (session_at c.args.s.now) in
    value_at fields c.args.index 0 c.byte.result c.in-0.is c.byte.ensures

pub returns-in-1 : goal.returns-in-1
returns-in-1 c =
    let fields = fields_of (session_at c.args.s.now) in
    value_at fields c.args.index 1 c.byte-in-1.result c.in-1.is c.byte-in-1.ensures

pub returns-in-2 : goal.returns-in-2
returns-in-2 c =
    let fields = fields_of (session_at c.args.s.now) in
    value_at fields c.args.index 2 c.word.result c.in-2.is c.word.ensures

pub returns-in-3 : goal.returns-in-3
returns-in-3 c =
    let fields = fields_of (session_at c.args.s.now) in
    value_at fields c.args.index 3 c.word-in-3.result c.in-3.is c.word-in-3.ensures

pub returns-in-4 : goal.returns-in-4
returns-in-4 c =
    let fields = fields_of (session_at c.args.s.now) in
    value_at fields c.args.index 4 c.byte-in-4.result c.in-4.is c.byte-in-4.ensures

pub returns-in_default : goal.returns-in_default
returns-in_default c = past (fields_of (session_at c.args.s.now)) c.args.index (omega arith)
