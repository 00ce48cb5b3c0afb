-- Both sides of each edge: the cases that document 01 marks ★, the places of T-01, the nodes of T-02, the deliveries of T-04, the pairs of T-05 and the
-- columns of T-06, as one table that is computed. A row has a name, what the definitions compute and what is expected, and holds by computation; where
-- one does not, the checker says `Holds "its name" ..` of the first that fails. The theorem `edges` is the whole table at once.
-- A step runs on a real table of 4,641 or 8,225 words. Each action that a form accepts has a row there that shows refusal, both counts, and place and new
-- value of every word that changed, so that no other word did. To walk a table is what costs, so the other rows leave out what is proved of every table: that a
-- refusal changes no word (`StepLaws.after_refused`), that no step changes one beyond n (`Numbers.after_outside`) and that none but a delivery moves a mark
-- (`StepLaws.session_mark`); and what one node does by itself is computed of the node.
use mathlib.Core.Path.{◌≡◌, refl}
use mathlib.Core.Bool.{Bool, true, false, ◌&&◌, cond}
use mathlib.Core.List.{List, [], ◌∷◌, ◌++◌, map}
use Prim.Native.Nat.{ℕ, suc, ◌+◌, ◌-◌, ◌*◌, ◌/◌, ◌<◌}
use Prim.Native.String.{String}
use lib.ListN.{length, get_or, replicate}
use lib.Dec.{T, ltb, eqb, eqb→eq}
use borrow.Author.Tests.{lt-leb, eq-eqb}
use Rattle.meaning.specs.declared.Action.{Action}
use Rattle.meaning.specs.declared.Action.TheVariants.{Write, Session, Purge, Deliver}
use Rattle.std.specs.Prelude.{Err}
use Rattle.meaning.specs.declared.Refusal.TheVariants.{SessionOutcome, NodeTwice, JournalLong}
use Rattle.meaning.specs.declared.Stopped.TheVariants.{Unread}
use Rattle.meaning.specs.Refusals.{refusal_of, first, first_place}
use Rattle.meaning.specs.Rows.{
  ascii,
  every,
  all,
  keep,
  least,
  least_at,
  raise,
  raise_each,
  covers,
  newer,
  above,
  due,
  earlier,
  inserted,
  in_order,
  record_at,
  records,
  words,
}
use Rattle.meaning.specs.Table.{
  Form,
  Vectors,
  Columns,
  form_words,
  form_of,
  column_at,
  summary_at,
  acks_at,
  held_at,
  log_at,
  mark_at,
  part,
  place,
  count,
  held,
  mark,
  columns_from,
  Node,
  node,
  Piece,
  piece,
  lay,
  column_pieces,
  pieces,
  put_node,
  put_mark,
  fresh,
  fresh_refusal,
  made_fresh,
  record_sound,
  log_sound,
  sound,
  Sound,
}
use Rattle.meaning.specs.Node.{own, wrote, opened, learnt, finished, ended, purged, limit_of, leaves, lows, waiting, given, raised}
use Rattle.meaning.specs.Steps.{
  overfull,
  refusals,
  refusal,
  limit,
  leaving,
  lagging,
  acted,
  reported,
  reply,
  after,
  reply_values,
  due_of,
  lent_refusals,
  lent_refusal,
  lent_reply,
  lent_after,
  list_after,
}
use Rattle.meaning.specs.Frames.{
  digit,
  digit_value,
  spelled,
  bytes_of,
  all_digits,
  stray_at,
  total,
  check,
  journal_kinds,
  known_in,
  widths_in,
  digits_in,
  field_place_in,
  high_first,
  number,
  packed,
  unpacked,
  action_of,
  sealed,
  frame_in,
  frame,
  start_frame,
  line_kind,
  fields_in,
  field_tests,
  line_tests,
  line_refusal,
  line_place,
  read_line,
  line_values,
}
use Rattle.meaning.specs.Journals.{
  until_lf,
  has_lf,
  unended,
  line_at,
  place_after,
  next_in,
  steps_from,
  journal,
  after_all,
  refused_of,
  replayed,
  replay_after,
  decimal_in,
  decimal,
  spaced,
  said,
  node_line,
  node_lines,
  printed,
}
use Rattle.meaning.specs.Verdicts.{
  class_of,
  among,
  different,
  pairs_of,
  scrubbed,
  touched,
  gap,
  counted,
  count_refusal,
  verdict_count,
  count_values,
}
use Rattle.meaning.proofs.TableLaws.{facts_sound}

both_left : (a b : Bool) → T (a && b) → T a
both_left true b h = tt
both_left false b h = h

both_right : (a b : Bool) → T (a && b) → T b
both_right true b h = h
both_right false b h = absurd h

-- two lists are the same, entry by entry: a test that computes
same : List ℕ → List ℕ → Bool
same [] [] = true
same [] (y ∷ ys) = false
same (x ∷ xs) [] = false
same (x ∷ xs) (y ∷ ys) = eqb x y && same xs ys

-- the row of this name holds
pub Holds : String → List ℕ → List ℕ → Type 0
Holds name computed expected = T (same computed expected)

pub record Row : Type 0 where
  pub name : String
  pub computed : List ℕ
  pub expected : List ℕ
  pub holds : Holds name computed expected

abbrev row : (name : String) (computed expected : List ℕ) → Holds name computed expected → Row
row name computed expected holds = record { name = name; computed = computed; expected = expected; holds = holds }

-- the places at which two tables differ, each with its new word; 999,999 where their lengths do
abbrev change_if : Bool → ℕ → ℕ → List ℕ → List ℕ
change_if true i y r = r
change_if false i y r = i ∷ y ∷ r

changes : ℕ → List ℕ → List ℕ → List ℕ
changes i [] [] = []
changes i [] (y ∷ ys) = 999999 ∷ []
changes i (x ∷ xs) [] = 999999 ∷ []
changes i (x ∷ xs) (y ∷ ys) = change_if (eqb x y) i y (changes (suc i) xs ys)

-- what an action does to a table: refusal, counts, changed words
does : List ℕ → Action → List ℕ
does t x = reply_values (reply t x) ++ changes 0 t (after t x)

-- the same of the first 1,041 words, in which all that two nodes on vectors have stands, but for their marks
settles : List ℕ → Action → List ℕ
settles t x = reply_values (reply t x) ++ changes 0 (part 0 1041 t) (part 0 1041 (after t x))

-- what it answers alone
answers : List ℕ → Action → List ℕ
answers t x = reply_values (reply t x)

refused : ℕ → List ℕ
refused k = k ∷ 0 ∷ 0 ∷ []

-- a delivery of p into a list of k words, each 7: refusal, count, changed words of the table, then the list; and the same without the table
gives : List ℕ → ℕ → ℕ → List ℕ
gives t k p = reply_values (lent_reply t k (Deliver p)) ++ (changes 0 t (lent_after t k (Deliver p)) ++ list_after t (replicate k 7) p)

lends : List ℕ → ℕ → ℕ → List ℕ
lends t k p = reply_values (lent_reply t k (Deliver p)) ++ list_after t (replicate k 7) p

-- A table of n written down, in one walk where each step that leads to it takes several: its pieces, in the order of their places, and zeros
spread : ℕ → List Piece → ℕ → List ℕ
spread i [] end = replicate (end - i) 0
spread i (x ∷ xs) end = replicate (x.at - i) 0 ++ (x.new ++ spread (x.at + length x.new) xs end)

table : Form → ℕ → List Piece → List ℕ
table f n xs = n ∷ spread 1 xs (form_words f)

-- a word beyond n entries, n columns, n nodes or the held number, which no step names, is 7
abbrev more : List ℕ → List ℕ
more ws = ws ++ (7 ∷ [])

-- two nodes on vectors: the summary, acknowledgements and log of each, and node 0's mark
pair : List ℕ → List ℕ → List ℕ → List ℕ → List ℕ → List ℕ → ℕ → List ℕ
pair s a l s' a' l' m =
    table Vectors 2
    (piece (summary_at Vectors 0) (more s) ∷
    piece (summary_at Vectors 1) (more s') ∷
    piece (acks_at 0) (more a) ∷
    piece (acks_at 1) (more a') ∷
    piece (held_at Vectors 0) (more (length l / 4 ∷ length l' / 4 ∷ [])) ∷
    piece (log_at Vectors 0) (more l) ∷
    piece (log_at Vectors 1) (more l') ∷
    piece (log_at Vectors 2) (more []) ∷
    piece (mark_at Vectors 0) (m ∷ []) ∷
    [])

-- two nodes on columns: node 0's columns and log; all that node 1 has is 0
sole : List ℕ → List ℕ → List ℕ → List ℕ
sole c c' l =
    table Columns 2
    (piece (column_at 0 0) (more c) ∷
    piece (column_at 0 1) (more c') ∷
    piece (column_at 0 2) (more []) ∷
    piece (column_at 2 0) (more []) ∷
    piece (held_at Columns 0) (more (length l / 4 ∷ 0 ∷ [])) ∷
    piece (log_at Columns 0) (more l) ∷
    [])

-- a fresh table of n whose node 0 has these acknowledgements
abbrev acked : ℕ → List ℕ → List ℕ
acked n row = table Vectors n (piece (acks_at 0) row ∷ [])

-- a node by itself, of vectors (summary, acknowledgements, log) and of columns (its number, columns, log)
vectored : List ℕ → List ℕ → List ℕ → Node
vectored s a l = record { summary = s; acks = a; columns = []; log = records (length l / 4) l }

columned : ℕ → List (List ℕ) → List ℕ → Node
columned p cs l = record { summary = get_or cs p []; acks = []; columns = cs; log = records (length l / 4) l }

-- its entries: summary, acknowledgements and columns
joined : List (List ℕ) → List ℕ
joined [] = []
joined (c ∷ cs) = c ++ joined cs

entries : Node → List ℕ
entries x = x.summary ++ (x.acks ++ joined x.columns)

-- who lags, of a node with these acknowledgements
lags : List ℕ → List ℕ
lags a = least_at (lows Vectors (vectored [] a [])) ∷ []

-- what a delivery gives, the mark being 0
delivers : Node → List ℕ
delivers x = words (given 0 x)

-- T-06: who lags, and what a purge of a node of columns leaves
clears : Node → List ℕ
clears x = least_at (lows Columns x) ∷ words (purged (leaves Columns 0 x) x).log

-- T-06: refusal 6, or none, of a side that holds k records (each of origin 0 and timestamp 0) and to which one comes: what `refusals` asks of both sides
overfills : ℕ → List ℕ
overfills k =
    cond
    (overfull true (columned 1 ((0 ∷ 0 ∷ []) ∷ (0 ∷ 0 ∷ []) ∷ []) (replicate (4 * k) 0))
    (columned 0 ((1 ∷ 0 ∷ []) ∷ (0 ∷ 0 ∷ []) ∷ []) (0 ∷ 1 ∷ 16 ∷ 0x20 ∷ []))) 6 0 ∷ []

-- what making a table of n does to some words: refusal and the first three words
makes : List ℕ → ℕ → List ℕ
makes t n = fresh_refusal t n ∷ part 0 3 (made_fresh t n)

-- some records counted: refusal, scrubbed, touched, gap
counts : List ℕ → List ℕ
counts w = count_values (verdict_count w)

-- one record of this verdict
verdict : ℕ → List ℕ
verdict v = counts (0 ∷ 1 ∷ 16 ∷ v ∷ [])

line : String → List ℕ
line s = line_values (read_line 1 (ascii s))

-- what the program prints of a journal
replays : String → List ℕ
replays s = printed (replayed (ascii s)) (replay_after [] (ascii s))

example : String
example = "0002FE\n0100000000050000001010DA\n020001000000060000000403F0\n020001000000070000000701EE\n0300FD\n020001000000080000000803EA\n0300FD\n"

-- the same "with a line `0500FB` before its last"
told : String
told =
    "0002FE\n0100000000050000001010DA\n020001000000060000000403F0\n020001000000070000000701EE\n0300FD\n020001000000080000000803EA\n0500FB\n0300FD\n"

pub rows : List Row
unfolding every all keep least least_at raise covers newer above due earlier inserted in_order record_at records words part place form_of count held mark
    columns_from node lay column_pieces pieces put_node put_mark fresh fresh_refusal made_fresh
    record_sound log_sound sound own wrote opened raise_each learnt finished
    purged limit_of leaves lows waiting given raised refusals refusal limit leaving lagging acted reported reply after due_of lent_refusals
    lent_refusal lent_reply lent_after list_after digit digit_value spelled bytes_of all_digits stray_at total
    check journal_kinds known_in widths_in digits_in field_place_in high_first number packed unpacked action_of sealed frame_in frame start_frame line_kind
    fields_in refusal_of first
    first_place field_tests line_tests line_refusal line_place read_line until_lf has_lf unended line_at place_after next_in steps_from journal
    after_all refused_of replayed replay_after decimal_in decimal spaced said node_line node_lines printed class_of among different pairs_of
    scrubbed touched gap counted count_refusal verdict_count counts changes does settles answers refused gives lends spread table pair sole vectored columned
    joined entries lags delivers clears overfills makes verdict line replays example told same Holds
rows =
    -- the tables that rows begin from, each computed once
    let two : List ℕ = fresh Vectors 2 in
    -- node 0 wrote at 1
    let one : List ℕ = after two (Write 0 1 16 0x20) in
    -- the records at 5 and 6, which both nodes hold in most of these
    let both : List ℕ = 0 ∷ 5 ∷ 16 ∷ 0x20 ∷ 0 ∷ 6 ∷ 17 ∷ 0x20 ∷ [] in
    -- they are held, and every acknowledgement is 5
    let five : List ℕ = pair (6 ∷ 5 ∷ []) (5 ∷ 5 ∷ []) both (6 ∷ 5 ∷ []) (5 ∷ 5 ∷ []) both 0 in
    -- the same after a delivery, so that the mark is 5
    let five_told : List ℕ = pair (6 ∷ 5 ∷ []) (5 ∷ 5 ∷ []) both (6 ∷ 5 ∷ []) (5 ∷ 5 ∷ []) both 5 in
    -- every acknowledgement is 6, and node 0 delivered before 6 was written
    let six_told : List ℕ = pair (6 ∷ 6 ∷ []) (6 ∷ 6 ∷ []) both (6 ∷ 6 ∷ []) (6 ∷ 6 ∷ []) both 5 in
    -- node 0 has acknowledged 8, delivered, and knows node 1 to be at 6
    let behind : List ℕ = pair (9 ∷ 8 ∷ []) (8 ∷ 6 ∷ []) both (9 ∷ 9 ∷ []) (5 ∷ 9 ∷ []) both 8 in
    -- the same when node 0 has purged and then written at 10
    let behind_still : List ℕ = pair (10 ∷ 8 ∷ []) (8 ∷ 6 ∷ []) (0 ∷ 10 ∷ 18 ∷ 0x20 ∷ []) (9 ∷ 9 ∷ []) (5 ∷ 9 ∷ []) both 8 in
    -- both wrote at 5, and node 1 holds its own first
    let tied : List ℕ = pair (5 ∷ 5 ∷ []) (0 ∷ 0 ∷ []) [] (5 ∷ 5 ∷ []) (0 ∷ 0 ∷ []) (1 ∷ 5 ∷ 17 ∷ 0x20 ∷ 0 ∷ 5 ∷ 16 ∷ 0x20 ∷ []) 0 in
    -- node 1 holds a record that no summary covers: a sound table that no run reaches
    let odd : List ℕ = pair (0 ∷ 0 ∷ []) (0 ∷ 0 ∷ []) [] (0 ∷ 0 ∷ []) (0 ∷ 0 ∷ []) (0 ∷ 9 ∷ 16 ∷ 0x20 ∷ []) 0 in
    -- document 01's journal up to its first purge, but delivered at node 0, so that the acknowledgement 4 alone keeps the record
    let early : List ℕ = pair (7 ∷ 7 ∷ []) (4 ∷ 6 ∷ []) (0 ∷ 5 ∷ 16 ∷ 16 ∷ []) (6 ∷ 7 ∷ []) (0 ∷ 6 ∷ []) (0 ∷ 5 ∷ 16 ∷ 16 ∷ []) 7 in
    -- no table: its count is 17
    let unsound : List ℕ = fresh Vectors 17 in
    -- T-06: a fresh table of 2 with columns
    let wide : List ℕ = fresh Columns 2 in
    -- node 0 wrote at 1
    let wide_one : List ℕ = sole (1 ∷ 0 ∷ []) (0 ∷ 0 ∷ []) (0 ∷ 1 ∷ 16 ∷ 0x20 ∷ []) in
    -- node 0 holds 5 and 6, and knows itself to be at 6 and node 1 at 5
    let wide_known : List ℕ = sole (6 ∷ 6 ∷ []) (5 ∷ 5 ∷ []) both in
    row "write at 0" (does two (Write 0 0 16 0x20)) (refused 5) tt ∷
    row "write at 1" (does two (Write 0 1 16 0x20)) (0 ∷ 0 ∷ 0 ∷ 1 ∷ 1 ∷ 513 ∷ 1 ∷ 530 ∷ 1 ∷ 531 ∷ 16 ∷ 532 ∷ 0x20 ∷ []) tt ∷
    row "a second write at 1" (answers one (Write 0 1 17 0x20)) (refused 5) tt ∷
    row "session 0 with 0" (answers two (Session 0 0 0 0 3)) (refused 4) tt ∷
    row "session 0 with 0, clock back" (answers one (Session 0 0 0 0 3)) (refused 4) tt ∷
    row "write at node 2" (answers two (Write 2 1 16 0x20)) (refused 3) tt ∷
    row "session with node 2" (answers two (Session 0 2 1 1 3)) (refused 3) tt ∷
    row "session of node 2 with itself" (answers two (Session 2 2 1 1 3)) (refused 3) tt ∷
    row "purge of node 2" (answers two (Purge 2)) (refused 3) tt ∷
    row "outcome 4" (answers two (Session 0 1 1 1 4)) (refused 2) tt ∷
    row "outcome 4 at node 2" (answers two (Session 0 2 1 1 4)) (refused 2) tt ∷
    row "outcome 0 on a fresh table changes only the own entries" (settles two (Session 0 1 9 7 0)) (0 ∷ 0 ∷ 0 ∷ 1 ∷ 9 ∷ 18 ∷ 7 ∷ []) tt ∷
    row "readings equal to the own entries, fresh" (answers two (Session 0 1 0 0 3)) (0 ∷ 0 ∷ 0 ∷ []) tt ∷
    row "readings equal to the own entries, b takes one" (settles one (Session 0 1 1 0 3))
    (0 ∷ 0 ∷ 1 ∷ 17 ∷ 1 ∷ 514 ∷ 1 ∷ 786 ∷ 1 ∷ 787 ∷ 16 ∷ 788 ∷ 0x20 ∷ []) tt ∷
    row "the same, only a finishes" (answers one (Session 0 1 1 0 1)) (0 ∷ 0 ∷ 0 ∷ []) tt ∷
    row "the same, a and b change places and only b finishes" (answers one (Session 1 0 0 1 2)) (0 ∷ 0 ∷ 0 ∷ []) tt ∷
    row "b is cut: a takes the acknowledgement that b sent, not one worked out after the merge" (settles one (Session 0 1 1 9 1))
    (0 ∷ 0 ∷ 0 ∷ 2 ∷ 9 ∷ 18 ∷ 9 ∷ []) tt ∷
    row "a is cut: b takes the acknowledgement that a sent" (settles one (Session 1 0 9 1 2)) (0 ∷ 0 ∷ 0 ∷ 2 ∷ 9 ∷ 18 ∷ 9 ∷ []) tt ∷
    row "reading 0 after a write at 1" (answers one (Session 0 1 0 0 3)) (refused 5) tt ∷
    row "outcome 0 changes only own entries and own acknowledgements" (does five (Session 0 1 9 7 0)) (0 ∷ 0 ∷ 0 ∷ 1 ∷ 9 ∷ 18 ∷ 7 ∷ 274 ∷ 6 ∷ []) tt ∷
    row "outcome 0 again: the acknowledgement follows the smallest entry" (entries (opened 0 9 (vectored (9 ∷ 8 ∷ []) (5 ∷ 6 ∷ []) [])))
    (9 ∷ 8 ∷ 8 ∷ 6 ∷ []) tt ∷
    row "outcome 3: both take the greater starting values" (does five (Session 0 1 9 8 3))
    (0 ∷ 0 ∷ 0 ∷ 1 ∷ 9 ∷ 2 ∷ 8 ∷ 17 ∷ 9 ∷ 18 ∷ 8 ∷ 258 ∷ 6 ∷ 274 ∷ 6 ∷ []) tt ∷
    row "b compares with what a began with: its own record does not come back" (settles odd (Session 0 1 0 0 3))
    (0 ∷ 1 ∷ 0 ∷ 513 ∷ 1 ∷ 529 ∷ 0 ∷ 530 ∷ 9 ∷ 531 ∷ 16 ∷ 532 ∷ 0x20 ∷ []) tt ∷
    row "smallest acknowledgement 5 removes 5, once delivered, and keeps 6" (does five_told (Purge 0))
    (0 ∷ 1 ∷ 0 ∷ 513 ∷ 1 ∷ 530 ∷ 6 ∷ 531 ∷ 17 ∷ 534 ∷ 0 ∷ 535 ∷ 0 ∷ 536 ∷ 0 ∷ []) tt ∷
    row "without a delivery the mark is 0 and a purge removes nothing" (answers five (Purge 0)) (0 ∷ 0 ∷ 0 ∷ []) tt ∷
    row "every acknowledgement 6: mark 5 removes 5 and keeps 6" (answers six_told (Purge 0)) (0 ∷ 1 ∷ 0 ∷ []) tt ∷
    row "a delivery: 5 is at the smallest entry and is due, 6 is one above and is not" (does five (Deliver 0)) (0 ∷ 1 ∷ 0 ∷ 4625 ∷ 5 ∷ []) tt ∷
    row "a second delivery: 5 is at the mark and is not due" (answers five_told (Deliver 0)) (0 ∷ 0 ∷ 0 ∷ []) tt ∷
    row "none due, and an empty list" (lends two 0 1) (0 ∷ 0 ∷ 0 ∷ []) tt ∷
    row "one due: its four words, and the rest of the list stays" (lends five 5 0) (0 ∷ 1 ∷ 0 ∷ 0 ∷ 5 ∷ 16 ∷ 0x20 ∷ 7 ∷ []) tt ∷
    row "the other node has a mark of its own" (gives five 4 1) (0 ∷ 1 ∷ 0 ∷ 4626 ∷ 5 ∷ 0 ∷ 5 ∷ 16 ∷ 0x20 ∷ []) tt ∷
    row "by timestamp before origin" (delivers (vectored (5 ∷ 5 ∷ []) [] (0 ∷ 5 ∷ 16 ∷ 0x20 ∷ 1 ∷ 4 ∷ 17 ∷ 0x20 ∷ [])))
    (1 ∷ 4 ∷ 17 ∷ 0x20 ∷ 0 ∷ 5 ∷ 16 ∷ 0x20 ∷ []) tt ∷
    row "one timestamp: by origin, not in log order" (lends tied 8 1) (0 ∷ 2 ∷ 0 ∷ 0 ∷ 5 ∷ 16 ∷ 0x20 ∷ 1 ∷ 5 ∷ 17 ∷ 0x20 ∷ []) tt ∷
    row "one timestamp and one origin: in log order" (delivers (vectored (5 ∷ 5 ∷ []) [] (0 ∷ 5 ∷ 9 ∷ 0x20 ∷ 0 ∷ 5 ∷ 8 ∷ 0x20 ∷ [])))
    (0 ∷ 5 ∷ 9 ∷ 0x20 ∷ 0 ∷ 5 ∷ 8 ∷ 0x20 ∷ []) tt ∷
    row "a list one word short" (gives tied 7 1) (7 ∷ 0 ∷ 0 ∷ replicate 7 7) tt ∷
    row "a list of three words more" (lends tied 11 1) (0 ∷ 2 ∷ 0 ∷ 0 ∷ 5 ∷ 16 ∷ 0x20 ∷ 1 ∷ 5 ∷ 17 ∷ 0x20 ∷ 7 ∷ 7 ∷ 7 ∷ []) tt ∷
    row "a delivery of node 2, whatever the list" (lends two 3 2) (3 ∷ 0 ∷ 0 ∷ 7 ∷ 7 ∷ 7 ∷ []) tt ∷
    row "a delivery on a table that is not sound" (lends unsound 0 2) (refused 1) tt ∷
    row "the first purge of document 01's journal removes nothing" (answers early (Purge 0)) (0 ∷ 0 ∷ 0 ∷ []) tt ∷
    row "a table that is not sound, whatever the step" (answers unsound (Session 9 9 0 0 4)) (refused 1) tt ∷
    row "purging an empty log" (answers two (Purge 0)) (0 ∷ 0 ∷ 0 ∷ []) tt ∷
    row "all acknowledgements equal: node 0 is told" (lags (5 ∷ 5 ∷ 5 ∷ [])) (0 ∷ []) tt ∷
    row "the last node lags" (lags (5 ∷ 5 ∷ 4 ∷ [])) (2 ∷ []) tt ∷
    row "two nodes lag: the lower is told" (lags (5 ∷ 4 ∷ 4 ∷ [])) (1 ∷ []) tt ∷
    row "the first and the last lag: the first is told" (lags (4 ∷ 5 ∷ 4 ∷ [])) (0 ∷ []) tt ∷
    row "an entry beyond n lags: it takes no part" (answers (acked 2 (5 ∷ 4 ∷ 3 ∷ [])) (Purge 0)) (0 ∷ 0 ∷ 1 ∷ []) tt ∷
    row "16 nodes, all equal" (lags (replicate 16 0)) (0 ∷ []) tt ∷
    row "16 nodes, the last lags" (answers (acked 16 (9 ∷ 9 ∷ 9 ∷ 9 ∷ 9 ∷ 9 ∷ 9 ∷ 9 ∷ 9 ∷ 9 ∷ 9 ∷ 9 ∷ 9 ∷ 9 ∷ 9 ∷ 8 ∷ [])) (Purge 0)) (0 ∷ 0 ∷ 15 ∷ []) tt ∷
    row "16 nodes, two lag" (lags (9 ∷ 9 ∷ 9 ∷ 9 ∷ 9 ∷ 9 ∷ 9 ∷ 3 ∷ 9 ∷ 9 ∷ 9 ∷ 3 ∷ 9 ∷ 9 ∷ 9 ∷ 8 ∷ [])) (7 ∷ []) tt ∷
    row "a purge that removes some tells who lags" (answers behind (Purge 0)) (0 ∷ 2 ∷ 1 ∷ []) tt ∷
    row "and so does one that removes nothing" (answers behind_still (Purge 0)) (0 ∷ 0 ∷ 1 ∷ []) tt ∷
    row "a purge refused with 3 has node 0" (answers (acked 2 (5 ∷ 4 ∷ [])) (Purge 2)) (3 ∷ 0 ∷ 0 ∷ []) tt ∷
    row "a purge refused with 1 has node 0" (answers (acked 17 (5 ∷ 4 ∷ [])) (Purge 0)) (1 ∷ 0 ∷ 0 ∷ []) tt ∷
    row "0002FE" (line "0002FE") (0 ∷ 0 ∷ 0 ∷ 2 ∷ []) tt ∷
    row "0002FF" (line "0002FF") (13 ∷ 4 ∷ []) tt ∷
    row "0002fe" (line "0002fe") (12 ∷ 4 ∷ []) tt ∷
    row "an empty line" (line "") (18 ∷ 0 ∷ []) tt ∷
    row "000" (line "000") (18 ∷ 3 ∷ []) tt ∷
    row "a lower-case digit first" (line "a002FE") (12 ∷ 0 ∷ []) tt ∷
    row "a lower-case digit in the middle" (line "00a2FE") (12 ∷ 2 ∷ []) tt ∷
    row "a lower-case digit last" (line "0002Fe") (12 ∷ 5 ∷ []) tt ∷
    row "a stray character before an odd number of digits" (line "030g0") (12 ∷ 3 ∷ []) tt ∷
    row "a slash, the character before 0" (line "0/02FE") (12 ∷ 1 ∷ []) tt ∷
    row "a colon, the character after 9" (line "0:02FE") (12 ∷ 1 ∷ []) tt ∷
    row "an at sign, the character before A" (line "0002@E") (12 ∷ 4 ∷ []) tt ∷
    row "G, the character after F" (line "0002GE") (12 ∷ 4 ∷ []) tt ∷
    row "an LF" (line "0002FE\n") (12 ∷ 6 ∷ []) tt ∷
    row "4 digits of a purge" (line "0300") (19 ∷ 4 ∷ []) tt ∷
    row "5 digits of a purge" (line "0300F") (18 ∷ 5 ∷ []) tt ∷
    row "6 digits of a purge" (line "0300FD") (0 ∷ 0 ∷ 3 ∷ 0 ∷ []) tt ∷
    row "7 digits of a purge" (line "0300FD0") (18 ∷ 7 ∷ []) tt ∷
    row "8 digits of a purge" (line "0300FD00") (19 ∷ 6 ∷ []) tt ∷
    row "22 digits of a write" (line "0100000000050000001010") (19 ∷ 22 ∷ []) tt ∷
    row "23 digits of a write" (line "0100000000050000001010D") (18 ∷ 23 ∷ []) tt ∷
    row "24 digits of a write" (line "0100000000050000001010DA") (0 ∷ 0 ∷ 1 ∷ 0 ∷ 5 ∷ 16 ∷ 16 ∷ []) tt ∷
    row "25 digits of a write" (line "0100000000050000001010DA0") (18 ∷ 25 ∷ []) tt ∷
    row "26 digits of a write" (line "0100000000050000001010DA00") (19 ∷ 24 ∷ []) tt ∷
    row "24 digits of a session" (line "020001000000060000000403") (19 ∷ 24 ∷ []) tt ∷
    row "outcome 3" (line "020001000000060000000403F0") (0 ∷ 0 ∷ 2 ∷ 0 ∷ 1 ∷ 6 ∷ 4 ∷ 3 ∷ []) tt ∷
    row "28 digits of a session" (line "020001000000060000000403F000") (19 ∷ 26 ∷ []) tt ∷
    row "outcome 4" (line "020001000000060000000404EF") (20 ∷ 22 ∷ []) tt ∷
    row "outcome 4 and a wrong sum" (line "020001000000060000000404F0") (20 ∷ 22 ∷ []) tt ∷
    row "outcome 3 and a wrong sum" (line "020001000000060000000403F1") (13 ∷ 24 ∷ []) tt ∷
    row "outcome 4 and two digits too many" (line "020001000000060000000404EF00") (19 ∷ 26 ∷ []) tt ∷
    row "a wrong sum of a write" (line "0100000000050000001010DB") (13 ∷ 22 ∷ []) tt ∷
    row "a wrong sum of a purge" (line "0300FE") (13 ∷ 4 ∷ []) tt ∷
    row "kind 04" (line "0400FC") (11 ∷ 0 ∷ []) tt ∷
    row "kind 04 and a wrong sum" (line "0400FD") (11 ∷ 0 ∷ []) tt ∷
    row "kind 04, four digits" (line "04FC") (11 ∷ 0 ∷ []) tt ∷
    row "kind FF, two digits" (line "FF") (11 ∷ 0 ∷ []) tt ∷
    row "kind 04, five digits" (line "0400F") (18 ∷ 5 ∷ []) tt ∷
    row "a delivery" (line "0501FA") (0 ∷ 0 ∷ 5 ∷ 1 ∷ []) tt ∷
    row "a start of 1" (line "0001FF") (15 ∷ 0 ∷ []) tt ∷
    row "a start of 1 and a wrong sum" (line "0001FE") (13 ∷ 4 ∷ []) tt ∷
    row "a start of 16" (line "0010F0") (0 ∷ 0 ∷ 0 ∷ 16 ∷ []) tt ∷
    row "a start of 17" (line "0011EF") (15 ∷ 0 ∷ []) tt ∷
    row "a write's frame" (frame (Write 0 5 16 16)) (ascii "0100000000050000001010DA\n") tt ∷
    row "a session's frame" (frame (Session 0 1 6 4 3)) (ascii "020001000000060000000403F0\n") tt ∷
    row "a purge's frame" (frame (Purge 0)) (ascii "0300FD\n") tt ∷
    row "a delivery's frame" (frame (Deliver 0)) (ascii "0500FB\n") tt ∷
    row "columns: write at 0" (does wide (Write 0 0 16 0x20)) (refused 5) tt ∷
    row "columns: write at 1" (does wide (Write 0 1 16 0x20)) (0 ∷ 0 ∷ 0 ∷ 1 ∷ 1 ∷ 4097 ∷ 1 ∷ 4114 ∷ 1 ∷ 4115 ∷ 16 ∷ 4116 ∷ 0x20 ∷ []) tt ∷
    row "columns: both take the greater starting values, their own column also the partner's own; what is beyond n takes no part"
    (does wide_one (Session 0 1 1 9 3))
    (0 ∷ 0 ∷ 1 ∷ 2 ∷ 9 ∷ 18 ∷ 9 ∷ 257 ∷ 1 ∷ 273 ∷ 1 ∷ 274 ∷ 9 ∷ 4098 ∷ 1 ∷ 4370 ∷ 1 ∷ 4371 ∷ 16 ∷ 4372 ∷ 0x20 ∷ []) tt ∷
    row "columns: a side that finishes takes a third node's column, and in its own the partner's column for it; one that is cut keeps its own entry alone"
    (let a = opened 0 1 (columned 0 ((0 ∷ 0 ∷ 0 ∷ []) ∷ (0 ∷ 0 ∷ 0 ∷ []) ∷ (0 ∷ 0 ∷ 0 ∷ []) ∷ []) []) in
    let b = opened 1 3 (columned 1 ((0 ∷ 7 ∷ 0 ∷ []) ∷ (0 ∷ 0 ∷ 0 ∷ []) ∷ (4 ∷ 5 ∷ 6 ∷ []) ∷ []) []) in
    entries (ended true 0 a b) ++ entries (ended false 1 b a))
    (1 ∷ 7 ∷ 0 ∷ 1 ∷ 7 ∷ 0 ∷ 0 ∷ 3 ∷ 0 ∷ 4 ∷ 5 ∷ 6 ∷ 0 ∷ 3 ∷ 0 ∷ 0 ∷ 7 ∷ 0 ∷ 0 ∷ 3 ∷ 0 ∷ 4 ∷ 5 ∷ 6 ∷ []) tt ∷
    row "columns: reading 0 after a write at 1" (answers wide_one (Session 0 1 0 0 3)) (refused 5) tt ∷
    row "columns: every column has 5: 5 leaves, without a delivery, and 6 stays" (does wide_known (Purge 0))
    (0 ∷ 1 ∷ 1 ∷ 4097 ∷ 1 ∷ 4114 ∷ 6 ∷ 4115 ∷ 17 ∷ 4118 ∷ 0 ∷ 4119 ∷ 0 ∷ 4120 ∷ 0 ∷ []) tt ∷
    row "columns: the own column has 4, the other column has 3: 5 stays; the entries for another origin are not asked; of two columns the first is told"
    (clears
    (columned 0 ((5 ∷ 4 ∷ 5 ∷ []) ∷ (5 ∷ 5 ∷ 3 ∷ []) ∷ (5 ∷ 5 ∷ 3 ∷ []) ∷ []) (0 ∷ 5 ∷ 16 ∷ 0x20 ∷ 1 ∷ 5 ∷ 17 ∷ 0x20 ∷ 2 ∷ 5 ∷ 18 ∷ 0x20 ∷ [])))
    (1 ∷ 1 ∷ 5 ∷ 17 ∷ 0x20 ∷ 2 ∷ 5 ∷ 18 ∷ 0x20 ∷ []) tt ∷
    row "columns: purge of node 2" (answers wide (Purge 2)) (refused 3) tt ∷
    row "columns: 63 held and 1 coming" (overfills 63) (0 ∷ []) tt ∷
    row "columns: 64 held and 1 coming" (overfills 64) (6 ∷ []) tt ∷
    row "columns: a delivery, whatever the list" (lends wide 0 0) (refused 26) tt ∷
    row "columns: a delivery of node 2" (answers wide (Deliver 2)) (refused 3) tt ∷
    row "8,226 words are no table" (answers (wide ++ (0 ∷ [])) (Deliver 0)) (refused 1) tt ∷
    row "making a table of 8,225 words" (makes (replicate 8225 7) 2) (0 ∷ 2 ∷ 0 ∷ 0 ∷ []) tt ∷
    row "making a table of 8,224 words" (makes (replicate 8224 7) 2) (1 ∷ 7 ∷ 7 ∷ 7 ∷ []) tt ∷
    row "making a table of 4,641 words" (makes (replicate 4641 7) 2) (0 ∷ 2 ∷ 0 ∷ 0 ∷ []) tt ∷
    row "verdict 0F" (verdict 0x0f) (0 ∷ 0 ∷ 0 ∷ 0 ∷ []) tt ∷
    row "verdict 10" (verdict 0x10) (0 ∷ 1 ∷ 0 ∷ 1 ∷ []) tt ∷
    row "verdict 1F" (verdict 0x1f) (0 ∷ 1 ∷ 0 ∷ 1 ∷ []) tt ∷
    row "verdict 20" (verdict 0x20) (0 ∷ 1 ∷ 1 ∷ 0 ∷ []) tt ∷
    row "verdict 30" (verdict 0x30) (0 ∷ 1 ∷ 1 ∷ 0 ∷ []) tt ∷
    row "verdict 3F" (verdict 0x3f) (0 ∷ 1 ∷ 1 ∷ 0 ∷ []) tt ∷
    row "verdict 4F" (verdict 0x4f) (0 ∷ 1 ∷ 1 ∷ 0 ∷ []) tt ∷
    row "verdict 50" (verdict 0x50) (0 ∷ 0 ∷ 0 ∷ 0 ∷ []) tt ∷
    row "one block thrice" (counts (0 ∷ 1 ∷ 16 ∷ 0x20 ∷ 0 ∷ 2 ∷ 16 ∷ 0x20 ∷ 0 ∷ 3 ∷ 16 ∷ 0x20 ∷ [])) (0 ∷ 1 ∷ 1 ∷ 0 ∷ []) tt ∷
    row "one block thrice from page cache" (counts (0 ∷ 1 ∷ 16 ∷ 0x10 ∷ 0 ∷ 2 ∷ 16 ∷ 0x11 ∷ 0 ∷ 3 ∷ 16 ∷ 0x1f ∷ [])) (0 ∷ 1 ∷ 0 ∷ 1 ∷ []) tt ∷
    row "one block again after another" (counts (0 ∷ 1 ∷ 16 ∷ 0x20 ∷ 0 ∷ 2 ∷ 17 ∷ 0x20 ∷ 0 ∷ 3 ∷ 16 ∷ 0x20 ∷ [])) (0 ∷ 2 ∷ 2 ∷ 0 ∷ []) tt ∷
    row "one block at two origins" (counts (0 ∷ 1 ∷ 16 ∷ 0x20 ∷ 1 ∷ 1 ∷ 16 ∷ 0x20 ∷ [])) (0 ∷ 2 ∷ 2 ∷ 0 ∷ []) tt ∷
    row "two blocks at one origin" (counts (0 ∷ 1 ∷ 16 ∷ 0x20 ∷ 0 ∷ 2 ∷ 17 ∷ 0x20 ∷ [])) (0 ∷ 2 ∷ 2 ∷ 0 ∷ []) tt ∷
    row "cache then platter" (counts (0 ∷ 1 ∷ 16 ∷ 0x10 ∷ 0 ∷ 2 ∷ 16 ∷ 0x20 ∷ [])) (0 ∷ 1 ∷ 1 ∷ 0 ∷ []) tt ∷
    row "platter then cache" (counts (0 ∷ 1 ∷ 16 ∷ 0x20 ∷ 0 ∷ 2 ∷ 16 ∷ 0x10 ∷ [])) (0 ∷ 1 ∷ 1 ∷ 0 ∷ []) tt ∷
    row "not read, then from the platter" (counts (0 ∷ 1 ∷ 16 ∷ 0x0f ∷ 0 ∷ 2 ∷ 16 ∷ 0x20 ∷ [])) (0 ∷ 1 ∷ 1 ∷ 0 ∷ []) tt ∷
    row "from the platter, then not read" (counts (0 ∷ 1 ∷ 16 ∷ 0x20 ∷ 0 ∷ 2 ∷ 16 ∷ 0x0f ∷ [])) (0 ∷ 1 ∷ 1 ∷ 0 ∷ []) tt ∷
    row "no record" (counts []) (0 ∷ 0 ∷ 0 ∷ 0 ∷ []) tt ∷
    row "a verdict that is no byte" (verdict 256) (1 ∷ 0 ∷ 0 ∷ 0 ∷ []) tt ∷
    row "a list of three words" (counts (0 ∷ 1 ∷ 16 ∷ [])) (1 ∷ 0 ∷ 0 ∷ 0 ∷ []) tt ∷
    row "document 01's journal, printed" (replays example) (ascii "N 2 STEPS 6 REFUSED 0\n0 S 8 8 K 7 6 L 1\n1 S 8 8 K 7 6 L 1\n") tt ∷
    row "the same with a delivery before its last line" (node_lines 2 (replay_after [] (ascii told)))
    (ascii "0 S 8 8 K 7 6 L 0\n1 S 8 8 K 7 6 L 1\n") tt ∷
    row "an empty journal" (replays "") (ascii "BAD 1 15 0\n") tt ∷
    row "bytes without LF" (replays "0002FE") (ascii "BAD 1 14 6\n") tt ∷
    row "a second line without LF" (replays "0002FE\n0300F") (ascii "BAD 2 14 5\n") tt ∷
    row "a stray character without LF" (replays "0002fe") (ascii "BAD 1 14 6\n") tt ∷
    row "the first line is no start" (replays "0300FD\n") (ascii "BAD 1 15 0\n") tt ∷
    row "the first line is no start and its sum is wrong" (replays "0300FE\n") (ascii "BAD 1 13 4\n") tt ∷
    row "a later line is a start" (replays "0002FE\n0002FE\n") (ascii "BAD 2 15 0\n") tt ∷
    row "a wrong sum in the third line" (replays "0002FE\n0300FD\n0300FE\n") (ascii "BAD 3 13 4\n") tt ∷
    row "an empty line in a journal" (replays "0002FE\n\n") (ascii "BAD 2 18 0\n") tt ∷
    row "a journal that is too long" (printed (Err (Unread JournalLong)) []) (ascii "BAD 0 16\n") tt ∷
    []

same_eq : (xs ys : List ℕ) → T (same xs ys) → xs ≡ ys
unfolding same
same_eq [] [] h = refl
same_eq [] (y ∷ ys) h = absurd h
same_eq (x ∷ xs) [] h = absurd h
same_eq (x ∷ xs) (y ∷ ys) h =
    let p = eqb→eq x y (both_left (eqb x y) (same xs ys) h) in
    let q = same_eq xs ys (both_right (eqb x y) (same xs ys) h) in
    cc

all_hold : (rs : List Row) → map (λ (r : Row). r.computed) rs ≡ map (λ (r : Row). r.expected) rs
unfolding Holds
all_hold [] = refl
all_hold (r ∷ rs) =
    let p = same_eq r.computed r.expected r.holds in
    let q = all_hold rs in
    cc

pub edges : map (λ (r : Row). r.computed) rows ≡ map (λ (r : Row). r.expected) rows
edges = all_hold rows

-- "session 0 with 0: 4, whatever the readings", and whatever the node, the sound table and the outcome; one above 3 is refused with 2 before. No word
-- changes.
pub itself : (t : List ℕ) → Sound t → (p : ℕ) → p < count t → (ca cb outcome : ℕ)
    → (reply t (Session p p ca cb outcome) ≡ Err (cond (ltb 3 outcome) SessionOutcome NodeTwice)) × (after t (Session p p ca cb outcome) ≡ t)
unfolding first refusals refusal refusal_of reply after
itself t s p h ca cb outcome = go (ltb 3 outcome) refl
  where
    go : (b : Bool) → ltb 3 outcome ≡ b
        → (reply t (Session p p ca cb outcome) ≡ Err (cond (ltb 3 outcome) SessionOutcome NodeTwice)) × (after t (Session p p ca cb outcome) ≡ t)
    go true e = rw (facts_sound t s, e) (refl, refl)
    go false e = rw (facts_sound t s, e, lt-leb (count t) p h, eq-eqb p p refl) (refl, refl)
