-- `openings::overfills` meets its contract: the held number and the newer records counted.
use mathlib.Core.Path.{◌≡◌, refl, ap, sym, ◌∙◌}
use mathlib.Core.Bool.{Bool, true, false, not, ◌&&◌}
use mathlib.Core.List.{List}
use Prim.Native.Nat.{ℕ, ◌+◌, ◌*◌, ◌-◌, ◌≤◌}
use native.Mathlib.Omega.{arith}
use borrow.Author.Tests.{not-false, le-ltb}
use lib.ListN.{length, take, drop}
use lib.Dec.{ltb}
use Rattle.meaning.specs.Rows.{newer, records, all}
use Rattle.meaning.specs.Table.{form_of, log_most, part, log_at, record_sound}
use Rattle.meaning.proofs.PlaceLaws.{length_part, part_lent}
use Rattle.meaning.proofs.RowLaws.{length-newer, length-records}
use Rattle.openings.specs.declared.Party.{Party}
use Rattle.openings.specs.Begun.{shown, Shows}
use Rattle.openings.proofs.LogLaws.{right_log}
use Rattle.openings.proofs.overfills.Goals as goal

module _ {t : List ℕ} {mine theirs : Party} (s : Shows t mine theirs) where
  abbrev log : List ℕ
  log = part (log_at (form_of t) theirs.start.node) (4 * log_most) t

  abbrev coming : ℕ
  coming = length (newer mine.start.summary.now (shown t theirs))

  few : coming ≤ theirs.held
  few =
      let c = length-newer mine.start.summary.now (shown t theirs) in
      let k = length-records theirs.held log in
      omega arith

  roomy : (f : Bool) → mine.held + theirs.held ≤ log_most → false ≡ (f && ltb log_most (mine.held + coming))
  roomy true h = let c = few in sym (le-ltb log_most (mine.held + coming) (omega arith))
  roomy false h = refl

  module _ (at : ℕ) (ea : at ≡ log_at (form_of t) theirs.start.node) where
    abbrev read : List ℕ
    read = take ((at + 256) - at) (drop at t)

    lent : read ≡ log
    lent = part_lent at 256 t ∙ ap (λ (a : ℕ). part a 256 t) ea

    ready : (4 * theirs.held ≤ length read) × (all (record_sound (length mine.start.summary.now)) (records theirs.held read) ≡ true)
    ready =
        let l = s.is_sound.long in
        let h = s.is_sound.high in
        let r = s.is_sound.room theirs.start.node s.there in
        let e = s.theirs_held in
        let lp = length_part (log_at (form_of t) theirs.start.node) (4 * log_most) t (omega arith) in
        rw (lent, s.long) (omega arith, right_log t s.is_sound theirs.start.node theirs.held s.there s.theirs_held)

    counted : (c : ℕ) → c ≡ length (newer mine.start.summary.now (records theirs.held read)) → c ≡ coming
    counted c e = e ∙ ap (λ (w : List ℕ). length (newer mine.start.summary.now (records theirs.held w))) lent

pub returns-then-mine-theirs-le-LOG_MOST : goal.returns-then-mine-theirs-le-LOG_MOST
returns-then-mine-theirs-le-LOG_MOST c =
    roomy c.requires c.args.mine.now.finishes c.if-mine-theirs-le-LOG_MOST.true

pub newer_count-requires : goal.newer_count-requires
newer_count-requires c =
    ready c.requires c.log_at-at.result c.log_at-at.ensures

pub overflow_add-result : goal.overflow_add-result
overflow_add-result c =
    let a = counted c.requires c.log_at-at.result c.log_at-at.ensures c.newer_count.result c.newer_count.ensures in
    let b = few c.requires in
    let k = c.requires.mine_held in
    let r = c.requires.is_sound.room c.args.theirs.now.start.node c.requires.there in
    let e = c.requires.theirs_held in
    omega arith

pub returns : goal.returns
returns c =
    let a = counted c.requires c.log_at-at.result c.log_at-at.ensures c.newer_count.result c.newer_count.ensures in
    rw (not-false c.args.mine.now.finishes (ap not c.if-not-mine.false)) (ap (λ (k : ℕ). ltb log_most (c.args.mine.now.held + k)) a)
