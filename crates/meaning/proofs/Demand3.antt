-- Demand 3: no finding is lost. One page; the invariant that proves it stands in AccountInvariant, what each action does to a node in AccountNodes,
-- the cluster in AccountSteps, the table in AccountTable; what follows from it in AccountCorollaries, AccountRises and AccountJournals.
--
-- The briefing: "Start from a fresh table of 2 to 16 nodes and take any list of steps, leaving out the refused ones. Beside it keep a plain
-- account that never drops a record: a node gains its own writes, and from each session it finishes all that the partner's account held at its
-- beginning and its own lacked. Then each node's account is exactly the written records its summary covers; its log is that account, in order of
-- arrival, less some records; and every record missing there is in every node's account."
--
-- How to read it. `run f n es` (specs/Account.antt) is what the list of events `es` makes of a fresh table of n nodes and of the form f, vectors or
-- columns (T-06), where an event is a step: `.table` is the table itself, 4,641 or 8,225 words, changed by `after`, the function that the code's
-- contracts cite; `.account` is the plain account beside it, which looks at no vector, no column and no acknowledgement. `node t p` is node p as it
-- stands in the table t. `has r l` says whether the list l has the record r, word for word. Any list of steps: also one whose steps are wrong, since
-- a refused step changes neither the table nor the account, and whatever numbers stand in their fields: soundness is a fact of each accepted step, by
-- refusal 1, and need not be carried along.
-- All three hold after every step, since the first steps of a list are a list themselves.
use mathlib.Core.Path.{◌≡◌, sym, ◌∙◌}
use mathlib.Core.Bool.{true, false, ◌&&◌}
use mathlib.Core.Logic.{◌↔◌}
use mathlib.Core.List.{List, Memᴰ, Nodup, Sublistᴰ}
use Prim.Native.Nat.{ℕ, ◌≤◌, ◌<◌}
use lib.ListN.{get_or}
use Rattle.meaning.specs.declared.Record.{Record}
use Rattle.meaning.specs.Rows.{covers}
use Rattle.meaning.specs.Table.{Form, node}
use Rattle.meaning.specs.Account.{has, Run, Event, run}
use Rattle.meaning.proofs.RowLaws.{and_left, and_both}
use Rattle.meaning.proofs.AccountLaws.{has_mem, mem_has, covers_le, le_covers}
use Rattle.meaning.proofs.AccountTable.{Sure, sure_run}

-- What demand 3 says of node p, one of n, in a run.
pub record NothingLost (n : ℕ) (x : Run) (p : ℕ) : Type 0 where
  -- (1) "each node's account is exactly the written records its summary covers": a record is in p's account if and only if it was written and
  -- p's summary covers it; and no record is there twice.
  pub exactly : (r : Record) → has r (x.account.of p) ≡ has r x.account.written && covers (node x.table p).summary r
  pub once : Nodup (x.account.of p)
  -- (2) "its log is that account, in order of arrival, less some records": strike some records from p's account, and what is left, in its order,
  -- is p's log.
  pub less : Sublistᴰ (node x.table p).log (x.account.of p)
  -- (3) "every record missing there is in every node's account": if p's account has a record and p's log does not, then the account of every
  -- node q has it.
  pub missing : (r : Record) → has r (x.account.of p) ≡ true → has r (node x.table p).log ≡ false → (q : ℕ) → q < n → has r (x.account.of q) ≡ true

-- of any run that has the invariant
pub nothing_lost : (n : ℕ) (x : Run) → Sure n x → (p : ℕ) → p < n → NothingLost n x p
nothing_lost n x u p h =
    let k = (u.whole.holds p h).kept in
    record {
      exactly = k.exact;
      once = k.once;
      less = k.less;
      missing = λ r a b q j.
          let w = and_left (has r x.account.written) (covers (node x.table p).summary r) (sym (k.exact r) ∙ a) in
          (u.whole.holds q j).kept.exact r ∙ and_both (has r x.account.written) (covers (node x.table q).summary r) w (k.known r a b q j);
    }

-- DEMAND 3. For both forms, every number of nodes from 2 to 16, every list of events, which are steps, and every node.
pub demand3 : (f : Form) (n : ℕ) → 2 ≤ n → n ≤ 16 → (es : List Event) → (p : ℕ) → p < n → NothingLost n (run f n es) p
demand3 f n least most es p h = nothing_lost n (run f n es) (sure_run f n least most es) p h

-- The two tests in it mean what they say. A list has a record, as tested, if and only if the record is a member of the list.
pub membership : (r : Record) (l : List Record) → (has r l ≡ true) ↔ Memᴰ r l
membership r l = (has_mem r l, mem_has r l)

-- "A summary covers a record when the record's timestamp is at most the entry for its origin."
pub covering : (summary : List ℕ) (r : Record) → (covers summary r ≡ true) ↔ (r.timestamp ≤ get_or summary r.origin 0)
covering summary r = (covers_le summary r, le_covers summary r)
