-- The plain account of demand 3: it knows no vector and no acknowledgement, and never drops a record. The briefing, demand 3.
use Rattle.std.specs.Prelude.{Bool, true, false, not, ◌&&◌, ◌||◌, cond, List, [], ◌∷◌, ◌++◌, map, ℕ, zero, suc, eqb}
use Rattle.meaning.specs.declared.Record.{Record}
use Rattle.meaning.specs.declared.Action.{Action}
use Rattle.meaning.specs.declared.Action.TheVariants.{Write, Session, Purge, Deliver}
use Rattle.meaning.specs.declared.Step.{Step}
use Rattle.meaning.specs.Rows.{keep}
use Rattle.meaning.specs.Table.{Form, fresh}
use Rattle.meaning.specs.Steps.{finishes_a, finishes_b, refusal, after}

-- one record is another, word for word; a list has a record
unfoldable pub same_record : Record → Record → Bool
same_record r s = eqb r.origin s.origin && (eqb r.timestamp s.timestamp && (eqb r.block s.block && eqb r.verdict s.verdict))

unfoldable pub has : Record → List Record → Bool
has r [] = false
has r (s ∷ ss) = same_record r s || has r ss

-- "all that the partner's account held at its beginning and its own lacked", "in the order of the partner's account"
unfoldable pub lacking : List Record → List Record → List Record
lacking mine theirs = keep (λ r. not (has r mine)) theirs

-- All accepted writes, oldest first, and each node's account
pub record Account : Type 0 where
  pub written : List Record
  pub of : ℕ → List Record

abbrev pub nothing : Account
nothing = record { written = []; of = λ p. [] }

-- node p's account gains these records
unfoldable pub gains : ℕ → List Record → (ℕ → List Record) → ℕ → List Record
gains p new of q = cond (eqb q p) (of q ++ new) (of q)

abbrev pub gains_if : Bool → ℕ → List Record → (ℕ → List Record) → ℕ → List Record
gains_if true p new of = gains p new of
gains_if false p new of = of

-- "a node gains its own writes, and from each session it finishes all that the partner's account held at its beginning and its own lacked"
unfoldable pub noted : Action → Account → Account
noted (Write p t b v) x =
    let r : Record = record { origin = p; timestamp = t; block = b; verdict = v } in
    record { written = x.written ++ (r ∷ []); of = gains p (r ∷ []) x.of }
noted (Session a b ca cb o) x =
    record {
      written = x.written;
      of = gains_if (finishes_b o) b (lacking (x.of b) (x.of a)) (gains_if (finishes_a o) a (lacking (x.of a) (x.of b)) x.of);
    }
noted (Purge p) x = x
noted (Deliver p) x = x

-- The table and the account beside it, "leaving out the refused" steps
pub record Run : Type 0 where
  pub table : List ℕ
  pub account : Account

abbrev pub note_if : ℕ → Action → Account → Account
note_if zero a x = noted a x
note_if (suc k) a x = x

unfoldable pub stepped : Run → Step → Run
stepped x s =
    record {
      table = after x.table s.action;
      account = note_if (refusal x.table s.action) s.action x.account;
    }

-- What befalls a run, one event after the other: a step is one
pub data Event : Type 0 where
  AStep : Step → Event

abbrev pub events : List Step → List Event
events ss = map AStep ss

unfoldable pub befell : Run → Event → Run
befell x (AStep s) = stepped x s

unfoldable pub ran : Run → List Event → Run
ran x [] = x
ran x (e ∷ es) = ran (befell x e) es

-- "Start from a fresh table of 2 to 16 nodes and take any list of steps", of either form
abbrev pub begun : Form → ℕ → Run
begun f n = record { table = fresh f n; account = nothing }

unfoldable pub run : Form → ℕ → List Event → Run
run f n es = ran (begun f n) es
