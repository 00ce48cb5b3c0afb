-- `apply_words` goes by the kind.
use lib.ListN.{get_or}
use native.Mathlib.Omega.{arith}
use Rattle.oneline.proofs.WordLaws.{applied_as, first_byte, verdict_byte, session_bytes, in_write, in_session, in_deliver, in_purge}
use Rattle.oneline.proofs.apply_words.Goals as goal

pub overflow_cast-node : goal.overflow_cast-node
overflow_cast-node c =
    let w = c.args.words in
    record { fits = first_byte (get_or w 0 0) (get_or w 1 0) (get_or w 2 0) (get_or w 3 0) (get_or w 4 0) (get_or w 5 0) c.requires }

pub overflow_cast-d : goal.overflow_cast-d
overflow_cast-d c =
    let w = c.args.words in
    record { fits = verdict_byte (get_or w 0 0) (get_or w 1 0) (get_or w 2 0) (get_or w 3 0) (get_or w 4 0) (get_or w 5 0) c.requires c.in-1.is }

pub overflow_cast-b : goal.overflow_cast-b
overflow_cast-b c =
    let w = c.args.words in
    record { fits = (session_bytes (get_or w 0 0) (get_or w 1 0) (get_or w 2 0) (get_or w 3 0) (get_or w 4 0) (get_or w 5 0) c.requires c.in-2.is).0 }

pub overflow_cast-e : goal.overflow_cast-e
overflow_cast-e c =
    let w = c.args.words in
    record { fits = (session_bytes (get_or w 0 0) (get_or w 1 0) (get_or w 2 0) (get_or w 3 0) (get_or w 4 0) (get_or w 5 0) c.requires c.in-2.is).1 }

pub returns-in-1 : goal.returns-in-1
returns-in-1 c =
    let w = c.args.words in
    applied_as c.args.t.now (in_write (get_or w 0 0) (get_or w 1 0) (get_or w 2 0) (get_or w 3 0) (get_or w 4 0) (get_or w 5 0) c.in-1.is) c.write.ensures

pub returns-in-2 : goal.returns-in-2
returns-in-2 c =
    let w = c.args.words in
    applied_as c.args.t.now (in_session (get_or w 0 0) (get_or w 1 0) (get_or w 2 0) (get_or w 3 0) (get_or w 4 0) (get_or w 5 0) c.in-2.is) c.session.ensures

pub returns-in-5 : goal.returns-in-5
returns-in-5 c =
    let w = c.args.words in
    applied_as c.args.t.now (in_deliver (get_or w 0 0) (get_or w 1 0) (get_or w 2 0) (get_or w 3 0) (get_or w 4 0) (get_or w 5 0) c.in-5.is)
    c.deliver_alone.ensures

pub returns-in_default : goal.returns-in_default
returns-in_default c =
    let w = c.args.words in
    applied_as c.args.t.now
    (in_purge (get_or w 0 0) (get_or w 1 0) (get_or w 2 0) (get_or w 3 0) (get_or w 4 0) (get_or w 5 0) (omega arith) (omega arith) (omega arith))
    c.purge.ensures
