-- Steps on a table: the refusal number, the reply and the words at exit, for every list of words and every action.
-- Document 01, "The three actions" and "Refusal numbers and their order"; document 02, T-04 and T-06.
use Rattle.std.specs.Prelude.{Bool, true, false, not, ◌&&◌, ◌||◌, cond, List, [], ◌∷◌, ◌++◌, ℕ, ◌-◌, ◌*◌, length, leb, ltb, eqb, Result, Ok, Err}
use Rattle.meaning.specs.declared.Action.{Action}
use Rattle.meaning.specs.declared.Action.TheVariants.{Write, Session, Purge, Deliver}
use Rattle.meaning.specs.declared.Record.{Record}
use Rattle.meaning.specs.declared.Refusal.{Refusal}
use Rattle.meaning.specs.declared.Report.{Report}
use Rattle.meaning.specs.declared.Report.TheVariants.{Written, Carried, Purged, Delivered}
use Rattle.meaning.specs.Rows.{unless, least_at, words}
use Rattle.meaning.specs.Refusals.{number_of, answered, Test, test, first}
use Rattle.meaning.specs.Table.{
  Form,
  Vectors,
  Columns,
  form_of,
  Node,
  log_most,
  place,
  absent,
  mark,
  node,
  put_node,
  put_mark,
  sound,
}
use Rattle.meaning.specs.Node.{own, wrote, opened, sent, ended, purged, limit_of, leaves, lows, waiting, given, raised}

-- "outcome 0 finishes neither side, 1 only a, 2 only b, 3 both"
abbrev pub finishes_a : ℕ → Bool
finishes_a outcome = eqb outcome 1 || eqb outcome 3

abbrev pub finishes_b : ℕ → Bool
finishes_b outcome = eqb outcome 2 || eqb outcome 3

-- 2: "a session's outcome is above 3", as the writer of a step's frame asks it
unfoldable pub outcome_above : Action → Bool
outcome_above (Write p t b v) = false
outcome_above (Session a b ca cb o) = ltb 3 o
outcome_above (Purge p) = false
outcome_above (Deliver p) = false

-- a finishing side would hold more than 64; "Number 6 asks nothing of a side that doesn't finish."
abbrev pub overfull : Bool → Node → Node → Bool
overfull finishes mine theirs = finishes && ltb log_most (length (mine.log ++ sent mine theirs))

-- "a delivery on a column table": "T-04's order needs clocks that agree"
abbrev pub on_columns : Form → Bool
on_columns Vectors = false
on_columns Columns = true

-- "For a step, the first that applies is given": for each action the rows that it can meet, in document 01's order
unfoldable pub refusals : List ℕ → Action → List Test
refusals t (Write p c b v) =
    -- "the table is not sound"
    test 1 (not (sound t)) ∷
    -- "a node number is n or more"
    test 3 (absent t p) ∷
    -- "a write's timestamp is not greater than the writer's own summary entry"
    test 5 (leb c (own p (node t p))) ∷
    -- "a write finds 64 held"
    test 6 (leb log_most (length (node t p).log)) ∷
    []
refusals t (Session a b ca cb o) =
    -- "the table is not sound"
    test 1 (not (sound t)) ∷
    -- "a session's outcome is above 3"
    test 2 (ltb 3 o) ∷
    -- "a node number is n or more"
    test 3 (absent t a || absent t b) ∷
    -- "a session names one node twice"
    test 4 (eqb a b) ∷
    -- "a session reading is less than its node's own entry"
    test 5 (ltb ca (own a (node t a)) || ltb cb (own b (node t b))) ∷
    -- "a finishing side would hold more than 64"
    test 6
    (overfull (finishes_a o) (opened a ca (node t a)) (opened b cb (node t b)) ||
    overfull (finishes_b o) (opened b cb (node t b)) (opened a ca (node t a))) ∷
    []
refusals t (Purge p) =
    -- "the table is not sound"
    test 1 (not (sound t)) ∷
    -- "a node number is n or more"
    test 3 (absent t p) ∷
    []
-- of a list with room for all 64 records of a log, as the replay lends it
refusals t (Deliver p) =
    -- "the table is not sound"
    test 1 (not (sound t)) ∷
    -- "a node number is n or more"
    test 3 (absent t p) ∷
    -- "a delivery on a column table"
    test 26 (on_columns (form_of t)) ∷
    []

unfoldable pub refusal : List ℕ → Action → ℕ
refusal t x = first (refusals t x)

-- what a purge goes by on vectors
unfoldable pub limit : List ℕ → ℕ → ℕ
limit t p = limit_of (mark t p) (node t p)

-- the records that it lets go
unfoldable pub leaving : List ℕ → ℕ → Record → Bool
leaving t p = leaves (form_of t) (mark t p) (node t p)

-- who holds a purge up: "the node that has it (the lowest among equals)"; on columns "the first whose column has the smallest entry of all"
unfoldable pub lagging : List ℕ → ℕ → ℕ
lagging t p = least_at (lows (form_of t) (node t p))

-- The words that an accepted action leaves. Both sides of a session work from the starting values.
unfoldable pub acted : List ℕ → Action → List ℕ
acted t (Write p c b v) = put_node p (wrote p c b v (node t p)) t
acted t (Session a b ca cb o) =
    put_node b (ended (finishes_b o) b (opened b cb (node t b)) (opened a ca (node t a)))
    (put_node a (ended (finishes_a o) a (opened a ca (node t a)) (opened b cb (node t b))) t)
acted t (Purge p) = put_node p (purged (leaving t p) (node t p)) t
acted t (Deliver p) = put_mark p (raised (mark t p) (node t p)) t

-- "how many records it carried to each side (0 for a side that didn't finish)"
abbrev pub carried : Bool → Node → Node → ℕ
carried finishes mine theirs = cond finishes (length (sent mine theirs)) 0

unfoldable pub reported : List ℕ → Action → Report
reported t (Write p c b v) = Written
reported t (Session a b ca cb o) =
    Carried (carried (finishes_a o) (opened a ca (node t a)) (opened b cb (node t b)))
    (carried (finishes_b o) (opened b cb (node t b)) (opened a ca (node t a)))
reported t (Purge p) = Purged (length (node t p).log - length (purged (leaving t p) (node t p)).log) (lagging t p)
reported t (Deliver p) = Delivered (length (waiting (mark t p) (node t p)))

-- What a step answers. A refusal "reports zero counts and changes no word".
abbrev pub Reply : Type 0
Reply = Result Report Refusal

unfoldable pub reply : List ℕ → Action → Reply
reply t x = answered (refusal t x) (reported t x)

unfoldable pub after : List ℕ → Action → List ℕ
after t x = unless (refusal t x) (acted t x) t

-- The values of each reply: the number (0 for none), then the two counts; a purge's second is the node that lags, and "a refused one" has "node 0"
abbrev pub reply_values : Reply → List ℕ
reply_values (Ok Written) = 0 ∷ 0 ∷ 0 ∷ []
reply_values (Ok (Carried a b)) = 0 ∷ a ∷ b ∷ []
reply_values (Ok (Purged k q)) = 0 ∷ k ∷ q ∷ []
reply_values (Ok (Delivered k)) = 0 ∷ k ∷ 0 ∷ []
reply_values (Err r) = number_of r ∷ 0 ∷ 0 ∷ []

-- A delivery into a lent list of k words. What is due of an action
unfoldable pub due_of : List ℕ → Action → List Record
due_of t (Write p c b v) = []
due_of t (Session a b ca cb o) = []
due_of t (Purge p) = []
due_of t (Deliver p) = waiting (mark t p) (node t p)

-- "a list too short for what is due gives 7, after 6, mark and list unchanged"
unfoldable pub lent_refusals : List ℕ → ℕ → Action → List Test
lent_refusals t k x = refusals t x ++ (test 7 (ltb k (4 * length (due_of t x))) ∷ [])

unfoldable pub lent_refusal : List ℕ → ℕ → Action → ℕ
lent_refusal t k x = first (lent_refusals t k x)

unfoldable pub lent_reply : List ℕ → ℕ → Action → Reply
lent_reply t k x = answered (lent_refusal t k x) (reported t x)

unfoldable pub lent_after : List ℕ → ℕ → Action → List ℕ
lent_after t k x = unless (lent_refusal t k x) (acted t x) t

-- "a delivery writes into a lent list" what it gives, from place 0, four words a record; "the rest of the list stays"
unfoldable pub list_after : List ℕ → List ℕ → ℕ → List ℕ
list_after t out p = unless (lent_refusal t (length out) (Deliver p)) (place 0 (words (given (mark t p) (node t p))) out) out
