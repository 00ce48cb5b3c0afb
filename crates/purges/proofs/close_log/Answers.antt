-- `purges::close_log` meets its contract: the rows that were lent come back closed up, and those before them are what they were.
use mathlib.Core.Path.{◌≡◌, refl, sym, ap, ap₂, ◌∙◌}
use mathlib.Core.Bool.{Bool, not}
use Prim.Native.Nat.{ℕ, ◌+◌, ◌*◌, ◌-◌, ◌<◌, ◌≤◌}
use native.Mathlib.Omega.{arith}
use native.Mathlib.Nat.{add-zero}
use mathlib.Core.List.{List, ◌++◌}
use lib.ListN.{length, get_or, take, drop, length-append}
use Rattle.meaning.specs.declared.Record.{Record}
use Rattle.meaning.specs.Rows.{record_at, records, words}
use Rattle.meaning.specs.Table.{held, node, part, place, log_most}
use Rattle.meaning.specs.Steps.{leaving}
use Rattle.meaning.proofs.PlaceLaws.{mid_place, place_inner, place-append, place-part, length-place, length_part, get_d_part}
use Rattle.meaning.proofs.PutLaws.{words-records, part-part}
use Rattle.meaning.proofs.RowLaws.{length-keep, length-words, length-records, words_append, record_at_agree}
use Rattle.logs.specs.Carry.{Puts, stay, FirstLeaving, Closes, AskableIn, FollowsIn}
use Rattle.logs.proofs.MoveLaws.{records_from, stay_from}
use Rattle.purges.specs.Dropped.{log_from, log_of, held_rows, Drops, Closed}
use Rattle.purges.proofs.PurgeLaws.{log_inside, held_record, held_rows_are}
use Rattle.purges.proofs.close_log.Goals as goal

-- the rows lent, of a log at `at`: from row f to row k
abbrev lent : List ℕ → ℕ → ℕ → ℕ → List ℕ
lent t at f k = take ((at + 4 * k) - (at + 4 * f)) (drop (at + 4 * f) t)

module _
    (t : List ℕ) (p k : ℕ) (pre : Record → Type 0) (post : Record → Bool → Type 0) (d : Drops t p k pre post) (at f : ℕ) (ea : at ≡ log_from p t) (b : f < k)
    (found : FirstLeaving (leaving t p) k (log_of p t) f)
  where
    abbrev leaves : Record → Bool
    leaves = leaving t p

    inside : (log_from p t + 4 * log_most ≤ length t) × (k ≤ log_most)
    inside = (log_inside t d.is_sound p k d.there d.room, d.room)

    lent_is : lent t at f k ≡ part (log_from p t + 4 * f) (4 * (k - f)) t
    unfolding part
    lent_is =
        let e : (at + 4 * k) - (at + 4 * f) ≡ 4 * (k - f) = omega arith in
        ap₂ (λ (m a : ℕ). take m (drop (a + 4 * f) t)) e ea

    lent_long : length (lent t at f k) ≡ 4 * (k - f)
    lent_long =
        let i = inside in
        ap length lent_is ∙ length_part (log_from p t + 4 * f) (4 * (k - f)) t (omega arith)

    same : (j : ℕ) → j < 4 * (k - f) → get_or (lent t at f k) j 0 ≡ get_or (log_of p t) (4 * f + j) 0
    same j l =
        let i = inside in
        ap (λ (x : List ℕ). get_or x j 0) lent_is ∙
        get_d_part (log_from p t + 4 * f) (4 * (k - f)) t j (log_from p t + 4 * f + j) refl l ∙
        sym (get_d_part (log_from p t) (4 * log_most) t (4 * f + j) (log_from p t + 4 * f + j) (omega arith) (omega arith))

    -- the whole log is the rows before and the rows lent
    whole : (node t p).log ≡ records f (log_of p t) ++ records (k - f) (lent t at f k)
    unfolding node
    whole =
        let q = d.many in
        let e : held t p ≡ f + (k - f) = omega arith in
        ap (λ (m : ℕ). records m (log_of p t)) e ∙ records_from f (k - f) (log_of p t) (lent t at f k) same

    -- each row lent is one of those that hold records
    row : (i : ℕ) → i < k - f → record_at (lent t at f k) i ≡ record_at (held_rows p k t) (f + i)
    row i h =
        record_at_agree (lent t at f k) (log_of p t) i (f + i)
        (λ j g. same (4 * i + j) (omega arith) ∙ ap (λ (m : ℕ). get_or (log_of p t) m 0) (omega arith)) ∙
        sym (held_record t d.is_sound p k d.there d.room (f + i) (omega arith))

    askable : AskableIn (k - f) pre (lent t at f k)
    askable i h =
        let r = held_rows_are t d.is_sound p k d.there d.room in
        rw (row i (omega arith)) (d.askable (f + i) (omega arith))

    follows : FollowsIn (k - f) post leaves (lent t at f k)
    follows i b h said =
        let r = held_rows_are t d.is_sound p k d.there d.room in
        let e = row i (omega arith) in
        rw e (d.follows (f + i) b (omega arith) (rw (← e) said))

    closes : Closes leaves (k - f) (lent t at f k)
    closes =
        let e : record_at (lent t at f k) 0 ≡ record_at (log_of p t) f =
        record_at_agree (lent t at f k) (log_of p t) 0 f (λ j g. ap (λ (m : ℕ). get_or (lent t at f k) m 0) (omega arith) ∙ same j (omega arith))
        in
        record { some = omega arith; first = ap leaves e ∙ found.first b }

    -- what stays of the whole log
    split : stay leaves (node t p).log ≡ records f (log_of p t) ++ stay leaves (records (k - f) (lent t at f k))
    unfolding node
    split =
        let q = d.many in
        let e : held t p ≡ f + (k - f) = omega arith in
        ap (λ (m : ℕ). stay leaves (records m (log_of p t))) e ∙
        stay_from leaves f (k - f) (log_of p t) (lent t at f k) found.before same

    many :
        (n : ℕ) → n ≡ length (stay leaves (records (k - f) (lent t at f k))) → (f + n ≡ length (stay leaves (node t p).log)) × (f + n ≤ k)
    many n e =
        let l = ap length split ∙ length-append (records f (log_of p t)) (stay leaves (records (k - f) (lent t at f k))) in
        let m = length-records f (log_of p t) in
        let g = length-keep (λ (r : Record). not (leaves r)) (records (k - f) (lent t at f k)) in
        let o = length-records (k - f) (lent t at f k) in
        (omega arith, omega arith)

    -- the rows before are put where they are
    before : place (log_from p t) (words (records f (log_of p t))) t ≡ t
    before =
        let i = inside in
        let l = length_part (log_from p t) (4 * log_most) t i.0 in
        ap (λ (x : List ℕ). place (log_from p t) x t)
        (words-records f (log_of p t) (omega arith) ∙ part-part (log_from p t) (4 * log_most) (4 * f) t (omega arith)) ∙
        place-part (log_from p t) (4 * f) t (omega arith)

    -- the table when the rows have come back closed up
    closed :
        (w : List ℕ) → w ≡ place 0 (words (stay leaves (records (k - f) (lent t at f k)))) (lent t at f k) →
        take (at + 4 * f) t ++ (w ++ drop ((at + 4 * k) - (at + 4 * f)) (drop (at + 4 * f) t)) ≡ place (log_from p t) (words (stay leaves (node t p).log)) t
    closed w e =
        let i = inside in
        let rs : List Record = stay leaves (records (k - f) (lent t at f k)) in
        let lw = length-words rs in
        let la = length-keep (λ (r : Record). not (leaves r)) (records (k - f) (lent t at f k)) in
        let lr = length-records (k - f) (lent t at f k) in
        let ll = lent_long in
        let lx = length-words (records f (log_of p t)) in
        let ly = length-records f (log_of p t) in
        let lp = length-place 0 (words rs) (lent t at f k) (omega arith) in
        let lq : length w ≡ (at + 4 * k) - (at + 4 * f) = ap length e ∙ omega arith in
        mid_place (at + 4 * f) ((at + 4 * k) - (at + 4 * f)) t w lq ∙
        ap₂ (λ (a : ℕ) (x : List ℕ). place (a + 4 * f) x t) ea (e ∙ ap (place 0 (words rs)) lent_is) ∙
        place_inner (log_from p t + 4 * f) (4 * (k - f)) 0 (log_from p t + 4 * f) (words rs) t (sym (add-zero (log_from p t + 4 * f))) (omega arith)
        (omega arith) ∙
        ap (place (log_from p t + 4 * f) (words rs)) (sym before) ∙
        place-append (log_from p t) (log_from p t + 4 * f) (words (records f (log_of p t))) (words rs) t (omega arith) (omega arith) ∙
        ap (λ (x : List ℕ). place (log_from p t) x t) (sym (words_append (records f (log_of p t)) rs)) ∙
        ap (λ (x : List Record). place (log_from p t) (words x) t) (sym split)

    done : (n : ℕ) (w : List ℕ) → n ≤ k - f → Puts 0 (stay leaves (records (k - f) (lent t at f k))) (lent t at f k) n w →
        Closed t p leaves (f + n) (take (at + 4 * f) t ++ (w ++ drop ((at + 4 * k) - (at + 4 * f)) (drop (at + 4 * f) t))) × (f + n ≤ k)
    done n w few put = (record { many = (many n put.many).0; leaves = closed w put.leaves }, omega arith)

pub close_up-requires : goal.close_up-requires
close_up-requires g c =
    let drops = c.requires.drops in
    let found = c.requires.first_leaving in
    let e = c.log_at-at.ensures in
    record {
      askable = askable c.args.t.now c.args.p c.args.held _ _ drops.0 c.log_at-at.result c.args.first e drops.1 found;
      inside = let l = lent_long c.args.t.now c.args.p c.args.held _ _ drops.0 c.log_at-at.result c.args.first e drops.1 found in omega arith;
    }

pub overflow_add-result : goal.overflow_add-result
overflow_add-result g c =
    let drops = c.requires.drops in
    let few = c.close_up.ensures.few in
    omega arith

pub returns : goal.returns
returns g c =
    let t = c.args.t.now in
    let p = c.args.p in
    let k = c.args.held in
    let at = c.log_at-at.result in
    let f = c.args.first in
    let drops = c.requires.drops in
    let found = c.requires.first_leaving in
    let e = c.log_at-at.ensures in
    done t p k _ _ drops.0 at f e drops.1 found c.close_up.result c.close_up.new.tail c.close_up.ensures.few
    (c.close_up.ensures.closed (leaving t p) (follows t p k _ _ drops.0 at f e drops.1 found) (closes t p k _ _ drops.0 at f e drops.1 found))
