-- Two nodes that meet: what the functions of a session hand to one another, as facts about the table before and after the first side.
use mathlib.Core.Path.{◌≡◌, refl, sym, ap, ap₂, ◌∙◌}
use mathlib.Core.Bool.{Bool, true, false, ◌||◌, or-true, true≢false}
use mathlib.Core.List.{List}
use Prim.Native.Nat.{ℕ, ◌-◌, ◌≤◌}
use native.Mathlib.Omega.{arith}
use lib.ListN.{length, set, length-set, length-append}
use Rattle.meaning.specs.declared.Record.{Record}
use Rattle.std.specs.Prelude.{Ok, Err}
use Rattle.meaning.specs.declared.Refusal.TheVariants.{LogFull}
use Rattle.meaning.specs.declared.Report.TheVariants.{Carried}
use Rattle.meaning.specs.Rows.{raise_each}
use Rattle.meaning.specs.Table.{form_of, Node, log_most, count, held, node, put_node, Sound, Shaped}
use Rattle.meaning.specs.Node.{ended}
use Rattle.meaning.specs.Steps.{Reply, finishes_a, finishes_b, overfull, carried}
use Rattle.meaning.proofs.ColumnLaws.{set_columns_long, set_columns_own}
use Rattle.meaning.proofs.TableLaws.{held_log_lem, node_shaped, node_same, node_other, put_form, put_held}
use Rattle.meaning.proofs.StepLaws.{taken, ended_log, ended_shaped, once_sound, once_count, once_held, once_began}
use Rattle.openings.specs.declared.Start.{Start}
use Rattle.openings.specs.declared.Party.{Party}
use Rattle.openings.specs.Begun.{begins, begins_whole, begins_shown, crowds, shown, Fits, Opens, Shows}
use Rattle.openings.proofs.LogLaws.{whole_log}
use Rattle.openings.proofs.OwnLaws.{own_kept}
use Rattle.sides.proofs.SideLaws.{crowd}
use Rattle.sides.specs.Ended.{sided, Sided, Sides}
use Rattle.exchanges.specs.Met.{crowded, Exchanged, Meets, TradeDone, Traded, Trades}
use Rattle.exchanges.proofs.AgainLaws.{left_again, ended_again}

pub turned : {t : List ℕ} {a b : Start} → Meets t a b → Meets t b a
turned m =
    record {
      is_sound = m.is_sound;
      fits_a = m.fits_b;
      fits_b = m.fits_a;
      apart = λ e. m.apart (sym e);
      opens_a = m.opens_b;
      opens_b = m.opens_a;
    }

-- A session refused with 6, by either side
pub refused_a : (t : List ℕ) (o a b : ℕ) (x y : Node) → {f : Bool} → f ≡ finishes_a o → overfull f x y ≡ true → Traded t o a b x y (Err LogFull) t
refused_a t o a b x y e h =
    let g : overfull (finishes_a o) x y ≡ true = ap (λ (z : Bool). overfull z x y) (sym e) ∙ h in
    let full : crowded o x y ≡ true = rw g in
    record { full = λ _. (refl, refl); done = λ no. absurd (true≢false (sym full ∙ no)) }

pub refused_b : (t : List ℕ) (o a b : ℕ) (x y : Node) → {f : Bool} → f ≡ finishes_b o → overfull f y x ≡ true → Traded t o a b x y (Err LogFull) t
refused_b t o a b x y e h =
    let g : overfull (finishes_b o) y x ≡ true = ap (λ (z : Bool). overfull z y x) (sym e) ∙ h in
    let full : crowded o x y ≡ true = rw g (or-true (overfull (finishes_a o) x y)) in
    record { full = λ _. (refl, refl); done = λ no. absurd (true≢false (sym full ∙ no)) }

-- all of a side's records are shown
all_shown : (t : List ℕ) (b : Party) → b.held ≡ held t b.start.node → shown t b ≡ (node t b.start.node).log
all_shown t b e = whole_log t b.start.node b.held e

module _ (t : List ℕ) (a b : Party) (m : Meets t a.start b.start) (eb : b.held ≡ held t b.start.node) where
  -- what `overfills` asks for side a
  pub shows : a.held ≤ log_most → Shows t a b
  shows la =
      record { is_sound = m.is_sound; there = m.fits_b.here; long = m.fits_a.summary_long; mine_held = la; theirs_held = omega arith }

  -- what it answers, in terms of the two nodes
  pub room :
      a.held ≡ held t a.start.node → (r z : Bool) → r ≡ crowds t a b → r ≡ z →
      overfull a.finishes (begins_whole t a.start) (begins_whole t b.start) ≡ z
  room ea r z er h =
      ap (λ (l : List Record). overfull a.finishes (begins_whole t a.start) (begins t b.start l)) (sym (all_shown t b eb)) ∙
      sym (crowd t a b ea) ∙ sym er ∙ h

shaped : {t : List ℕ} {a b : Start} (m : Meets t a b) → Shaped (form_of t) (count t) a.node (begins_whole t a)
shaped {t} {a} m =
    let s = node_shaped t m.is_sound a.node m.fits_a.here in
    record {
      summary_long = m.fits_a.summary_long;
      acks_long = m.fits_a.acks_long;
      columns_long = length-set (node t a.node).columns a.node a.summary.now ∙ s.columns_long;
      column_long = set_columns_long (node t a.node).columns (count t) a.node a.summary.now m.fits_a.summary_long s.column_long;
      column_own = set_columns_own (node t a.node).columns a.node a.summary.now;
      log_short = s.log_short;
    }

module _ {t : List ℕ} {a b : Party} (s : Trades t a b) where
  abbrev m : Meets t a.start b.start
  m = s.meets

  abbrev xa : Node
  xa = begins_whole t a.start

  abbrev xb : Node
  xb = begins_whole t b.start

  abbrev f : Bool
  f = a.finishes

  -- side a, shown all of b's records
  pub first : Sides t a b
  first =
      record {
        is_sound = m.is_sound;
        fits = m.fits_a;
        theirs_fits = m.fits_b;
        apart = m.apart;
        opens = m.opens_a;
        mine_held = s.has_a;
        theirs_held = (let e = s.has_b in omega arith);
        room = ap (λ (l : List Record). overfull f xa (begins t b.start l)) (all_shown t b s.has_b) ∙ s.room_a;
      }

  leaves_a : Shaped (form_of t) (count t) a.start.node (ended f a.start.node xa xb)
  leaves_a = ended_shaped (form_of t) (count t) a.start.node xa (shaped m) b.start.node xb (shaped (turned m)) f s.room_a

  away : b.start.node ≡ a.start.node → ⊥
  away e = m.apart (sym e)

  -- after it, from a table v: all of b is as it was, and a's log begins with what it held
  module _ {na : ℕ} {v : List ℕ} (once : Sided t a b na v) where
    half : v ≡ sided f a.start.node xa xb t
    half = once.leaves ∙ ap (λ (l : List Record). sided f a.start.node xa (begins t b.start l) t) (all_shown t b s.has_b)

    pub came_a : na - a.held ≡ carried f xa xb
    came_a =
        let c = ap (λ (l : List Record). carried f xa (begins t b.start l)) (all_shown t b s.has_b) in
        let n = once.total in
        omega arith

    sound : Sound v
    sound =
        rw half
        (once_sound t m.is_sound a.start.node b.start.node m.fits_a.here m.fits_b.here away xa xb (shaped m) (shaped (turned m)) f s.room_a refl refl)

    nodes : count v ≡ count t
    nodes =
        rw half
        (once_count t m.is_sound a.start.node b.start.node m.fits_a.here m.fits_b.here away xa xb (shaped m) (shaped (turned m)) f s.room_a refl refl)

    form : form_of v ≡ form_of t
    form = rw half (put_form t m.is_sound a.start.node m.fits_a.here (ended f a.start.node xa xb) leaves_a)

    held_b : held v b.start.node ≡ held t b.start.node
    held_b =
        rw half
        (once_held t m.is_sound a.start.node b.start.node m.fits_a.here m.fits_b.here away xa xb (shaped m) (shaped (turned m)) f s.room_a refl refl)

    log_a : shown v a ≡ (node t a.start.node).log
    log_a =
        rw half
        (once_began t m.is_sound a.start.node b.start.node m.fits_a.here m.fits_b.here away xa xb (shaped m) (shaped (turned m)) f s.room_a refl refl
        a.held s.has_a)

    node_a : node v a.start.node ≡ ended f a.start.node xa xb
    node_a = rw half (node_same t m.is_sound a.start.node m.fits_a.here (ended f a.start.node xa xb) leaves_a)

    node_b : node v b.start.node ≡ node t b.start.node
    node_b = rw half (node_other t m.is_sound a.start.node m.fits_a.here (ended f a.start.node xa xb) leaves_a b.start.node m.fits_b.here away)

    log_b : (node v b.start.node).log ≡ (node t b.start.node).log
    log_b = ap (λ (z : Node). z.log) node_b

    -- rows that fitted the table fit it still
    fits : (x : Start) → Fits t x → Fits v x
    fits x h =
        record {
          here = rw nodes h.here;
          summary_long = h.summary_long ∙ sym nodes;
          acks_long = rw (form, nodes) h.acks_long;
        }

    -- its rows differ in the own entries alone, as before
    opens_b : Opens v b.start
    opens_b =
        own_kept t v b.start.node b.start.summary.now b.start.acks.now (m.fits_b.summary_long, m.fits_b.acks_long) form nodes node_b m.opens_b

    -- a holds what it began with, and what it took
    held_a : a.held ≤ held v a.start.node
    held_a =
        let p = put_held t m.is_sound a.start.node m.fits_a.here (ended f a.start.node xa xb) leaves_a in
        let l = ap length (ended_log f a.start.node xa xb) ∙ length-append (node t a.start.node).log (taken f xa xb) in
        let e = held_log_lem t a.start.node in
        let q = ap (λ (z : List ℕ). held z a.start.node) half in
        let h = s.has_a in
        omega arith

    -- side b, shown what a began with
    pub second : Sides v b a
    second =
        record {
          is_sound = sound;
          fits = fits b.start m.fits_b;
          theirs_fits = fits a.start m.fits_a;
          apart = away;
          opens = opens_b;
          mine_held = s.has_b ∙ sym held_b;
          theirs_held = held_a;
          room = ap₂ (λ (l l' : List Record). overfull b.finishes (begins v b.start l) (begins v a.start l')) log_b log_a ∙ s.room_b;
        }

    -- b begins as it would have before a ended; of a it finds the log that a began with, the rows it is lent, and columns that raise its own
    -- just as those that a began with
    start_b : begins_whole v b.start ≡ xb
    start_b =
        ap
        (λ (z : Node).
        record { summary = b.start.summary.now; acks = b.start.acks.now; columns = set z.columns b.start.node b.start.summary.now; log = z.log })
        node_b

    end_b : ended b.finishes b.start.node (begins_whole v b.start) (begins_shown v a) ≡ ended b.finishes b.start.node xb xa
    end_b =
        let p = a.start.node in
        let sa = a.start.summary.now in
        let ka = a.start.acks.now in
        ap₂ (λ (y : Node) (l : List Record). ended b.finishes b.start.node y (begins v a.start l)) start_b log_a ∙
        ended_again b.finishes b.start.node xb sa ka (set (node v p).columns p sa) (set (node t p).columns p sa) (node t p).log
        (ap (λ (z : Node). raise_each xb.columns (set z.columns p sa)) node_a ∙ left_again f p sa ka (node t p).columns (node t p).log xb)

    both :
        {nb : ℕ} {u : List ℕ} → Sided v b a nb u →
        (nb - b.held ≡ carried b.finishes xb xa) × (u ≡ sided b.finishes b.start.node xb xa (sided f a.start.node xa xb t))
    both {nb} w =
        let c = ap₂ (λ (l l' : List Record). carried b.finishes (begins v b.start l) (begins v a.start l')) log_b log_a in
        let n = w.total in
        let d : nb - b.held ≡ carried b.finishes xb xa = omega arith in
        (d, w.leaves ∙ ap₂ (λ (y : Node) (z : List ℕ). put_node b.start.node y z) end_b half)

    -- the whole session
    pub traded : {nb : ℕ} {u : List ℕ} → Sided v b a nb u → TradeDone t a b (Ok (Carried (na - a.held) (nb - b.held))) u
    traded w = (ap₂ (λ (i j : ℕ). Ok (Carried i j)) came_a (both w).0, (both w).1)

-- What both sides ask for, once neither would hold too many
pub trades :
    {t : List ℕ} {a b : Party} (m : Meets t a.start b.start) → a.held ≡ held t a.start.node → b.held ≡ held t b.start.node → {ra rb : Bool} →
    ra ≡ crowds t a b → ra ≡ false → rb ≡ crowds t b a → rb ≡ false → Trades t a b
trades {t} {a} {b} m ea eb {ra} {rb} ca na cb nb =
    record {
      meets = m;
      has_a = ea;
      has_b = eb;
      room_a = room t a b m eb ea ra false ca na;
      room_b = room t b a (turned m) ea eb rb false cb nb;
    }

-- and of the outcome o that the sides finish by
pub exchanged :
    {t : List ℕ} {a b : Party} → Trades t a b → (o : ℕ) → a.finishes ≡ finishes_a o → b.finishes ≡ finishes_b o → {r : Reply} {u : List ℕ} →
    TradeDone t a b r u → Exchanged t o a.start b.start r u
exchanged {t} {a} {b} s o ef eg {r} {u} d =
    let xa = begins_whole t a.start in
    let xb = begins_whole t b.start in
    let not_full : crowded o xa xb ≡ false =
    ap₂ (λ (p q : Bool). overfull p xa xb || overfull q xb xa) (sym ef) (sym eg) ∙ ap₂ ◌||◌ s.room_a s.room_b
    in
    record {
      full = λ e. absurd (true≢false (sym e ∙ not_full));
      done = λ _. (
        d.0 ∙ ap₂ (λ (p q : Bool). Ok (Carried (carried p xa xb) (carried q xb xa))) ef eg,
        d.1 ∙ ap₂ (λ (p q : Bool). sided q b.start.node xb xa (sided p a.start.node xa xb t)) ef eg,
      );
    }
