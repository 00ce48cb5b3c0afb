-- One side of a session: what the functions of a side hand to one another, as facts about the table before and after it.
use mathlib.Core.Path.{◌≡◌, refl, sym, ap, ◌∙◌}
use mathlib.Core.Bool.{Bool, true, false, ◌&&◌}
use mathlib.Core.List.{List, [], ◌++◌, append-nil}
use Prim.Native.Nat.{ℕ, ◌+◌, ◌≤◌, ◌<◌}
use native.Mathlib.Omega.{arith}
use lib.ListN.{length, set, length-append}
use lib.Dec.{ltb}
use Rattle.meaning.specs.declared.Record.{Record}
use Rattle.meaning.specs.Rows.{newer}
use Rattle.meaning.specs.Table.{Form, Vectors, Columns, form_of, Node, log_most, held_at, row_pieces, lay, part, count, held, node, Sound}
use Rattle.meaning.specs.Node.{learnt, finished, ended}
use Rattle.meaning.specs.Steps.{overfull, carried}
use Rattle.meaning.proofs.TableLaws.{held_log_lem}
use Rattle.meaning.proofs.PutLaws.{grown_long, grown-part, put_grown}
use Rattle.openings.specs.declared.Party.{Party}
use Rattle.openings.specs.Begun.{begins, begins_whole, begins_shown, shown, crowds, Fits}
use Rattle.sides.specs.Ended.{came, comes, grown, sided, Merged}
use Rattle.sides.proofs.KeptLaws.{kept_form, kept_columns}

-- a side's room, in terms of its node
pub crowd :
    (t : List ℕ) (mine theirs : Party) → mine.held ≡ held t mine.start.node →
    crowds t mine theirs ≡ overfull mine.finishes (begins_whole t mine.start) (begins_shown t theirs)
unfolding finished
crowd t mine theirs e =
    let log : List Record = (node t mine.start.node).log in
    let new : List Record = newer mine.start.summary.now (shown t theirs) in
    let a = length-append log new in
    let b = held_log_lem t mine.start.node in
    let n : mine.held + length new ≡ length (log ++ new) = omega arith in
    ap (λ (i : ℕ). mine.finishes && ltb log_most i) n

pub came-carried : (f : Bool) (x y : Node) → length (came f x.summary y.log) ≡ carried f x y
came-carried true x y = refl
came-carried false x y = refl

-- the log of a side is what it had and what came
came_log : (f : Bool) (p : ℕ) (x y : Node) → (ended f p x y).log ≡ x.log ++ came f x.summary y.log
unfolding finished
came_log true p x y = refl
came_log false p x y = sym (append-nil x.log)

-- what a side puts for its rows is the same whatever the logs are
rows_alone :
    (g : Form) (f : Bool) (p : ℕ) (s k s' k' : List ℕ) (cs ds : List (List ℕ)) (l m : List Record) →
    row_pieces g p
    (ended f p (record { summary = s; acks = k; columns = cs; log = [] }) (record { summary = s'; acks = k'; columns = ds; log = [] })) ≡
    row_pieces g p
    (ended f p (record { summary = s; acks = k; columns = cs; log = l }) (record { summary = s'; acks = k'; columns = ds; log = m }))
unfolding finished learnt
rows_alone Vectors true p s k s' k' cs ds l m = refl
rows_alone Vectors false p s k s' k' cs ds l m = refl
rows_alone Columns true p s k s' k' cs ds l m = refl
rows_alone Columns false p s k s' k' cs ds l m = refl

-- A side that has taken its records: the table's length and rows are as they were
module _ (t : List ℕ) (sd : Sound t) (p : ℕ) (h : p < count t) (rs : List Record) (fits : held t p + length rs ≤ log_most) (u : List ℕ)
    (eu : u ≡ grown p rs t) where
  pub taken_long : length u ≡ length t
  taken_long = ap length eu ∙ grown_long t sd p h rs fits ∙ sym sd.long

  pub taken_rows : (at k : ℕ) → at + k ≤ held_at (form_of t) 0 → part at k u ≡ part at k t
  taken_rows at k inside = ap (part at k) eu ∙ grown-part t sd p h rs fits at k inside

-- a side done in two steps, records and then rows, is its node put
pub side_put :
    (t : List ℕ) (sd : Sound t) (mine theirs : Party) → Fits t mine.start → Fits t theirs.start → (u v : List ℕ) →
    held t mine.start.node + length (comes t mine theirs) ≤ log_most → u ≡ grown mine.start.node (comes t mine theirs) t →
    Merged mine.finishes u mine.start theirs.start v →
    v ≡ sided mine.finishes mine.start.node (begins_whole t mine.start) (begins_shown t theirs) t
side_put t sd mine theirs here there u v fits eu ev =
    let f = mine.finishes in
    let p = mine.start.node in
    let q = theirs.start.node in
    let s = mine.start.summary.now in
    let k = mine.start.acks.now in
    let s' = theirs.start.summary.now in
    let k' = theirs.start.acks.now in
    let new = comes t mine theirs in
    let long = taken_long t sd p here.here new fits u eu in
    let same = taken_rows t sd p here.here new fits u eu in
    let fm = kept_form t u long same in
    let cp = kept_columns t u long same p sd.high here.here in
    let cq = kept_columns t u long same q sd.high there.here in
    let x = begins_whole t mine.start in
    let y = begins_shown t theirs in
    let rows : row_pieces (form_of u) p (ended f p (begins u mine.start []) (begins u theirs.start [])) ≡ row_pieces (form_of t) p (ended f p x y) =
    (λ i.
    row_pieces (fm i) p
    (ended f p (record { summary = s; acks = k; columns = set (cp i) p s; log = [] })
    (record { summary = s'; acks = k'; columns = set (cq i) q s'; log = [] }))) ∙
    rows_alone (form_of t) f p s k s' k' (set (node t p).columns p s) (set (node t q).columns q s') (node t p).log (shown t theirs)
    in
    ev ∙ (λ i. lay (rows i) (eu i)) ∙ sym (put_grown t sd p here.here new fits (ended f p x y) (came_log f p x y))
