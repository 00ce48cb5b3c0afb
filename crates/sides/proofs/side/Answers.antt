-- `sides::side` meets its contract: the records taken and the rows merged are the node put.
use mathlib.Core.Path.{sym, ap, ap₂, ◌∙◌}
use mathlib.Core.List.{List}
use Prim.Native.Nat.{ℕ, ◌+◌, ◌≤◌}
use native.Mathlib.Omega.{arith}
use lib.ListN.{length}
use Rattle.meaning.specs.Table.{Form, Vectors, Columns, form_of, form_words, log_most, acks_wide, count, held}
use Rattle.openings.specs.declared.Party.{Party}
use Rattle.openings.specs.Begun.{begins_whole, begins_shown}
use Rattle.sides.specs.Ended.{comes, Merged, Merges, Sided, Sides, Takes, Took}
use Rattle.sides.proofs.KeptLaws.{kept_form, kept_count, kept_own}
use Rattle.sides.proofs.SideLaws.{crowd, came-carried, taken_long, taken_rows, side_put}
use Rattle.sides.proofs.side.Goals as goal

acks_few : (f : Form) (n : ℕ) → acks_wide f n ≤ n
acks_few Vectors n = omega arith
acks_few Columns n = omega arith

module _ {t : List ℕ} {mine theirs : Party} (s : Sides t mine theirs) where
  takes : Takes t mine theirs
  takes =
      record {
        is_sound = s.is_sound;
        here = s.fits.here;
        there = s.theirs_fits.here;
        apart = s.apart;
        long = s.fits.summary_long;
        mine_held = s.mine_held;
        theirs_held = s.theirs_held;
        room = crowd t mine theirs s.mine_held ∙ s.room;
      }

  few : {r : ℕ} {u : List ℕ} → Took t mine theirs r u → held t mine.start.node + length (comes t mine theirs) ≤ log_most
  few took =
      let e = took.total in
      let m = took.most in
      let d = s.mine_held in
      omega arith

  merges : {r : ℕ} (u : List ℕ) → Took t mine theirs r u → Merges u mine.start theirs.start
  merges u took =
      let p = mine.start.node in
      let new = comes t mine theirs in
      let long = taken_long t s.is_sound p s.fits.here new (few took) u took.leaves in
      let same = taken_rows t s.is_sound p s.fits.here new (few took) u took.leaves in
      let form = kept_form t u long same in
      let many = kept_count t u long same in
      let hi = s.is_sound.high in
      let wide = ap₂ acks_wide form many in
      let w = acks_few (form_of t) (count t) in
      let lk = s.fits.acks_long in
      record {
        settles =
            record {
              long = long ∙ s.is_sound.long ∙ ap form_words (sym form);
              high = rw many hi;
              fits = record { here = rw many s.fits.here; summary_long = s.fits.summary_long ∙ sym many; acks_long = lk ∙ sym wide };
              opens = kept_own t u long same p mine.start.summary.now mine.start.acks.now hi s.fits.here s.fits.summary_long (omega arith) s.opens;
            };
        fits =
            record {
              here = rw many s.theirs_fits.here;
              summary_long = s.theirs_fits.summary_long ∙ sym many;
              acks_long = s.theirs_fits.acks_long ∙ sym wide;
            };
        apart = s.apart;
      }

  done :
      {r : ℕ} {u : List ℕ} → Took t mine theirs r u → (v : List ℕ) → Merged mine.finishes u mine.start theirs.start v → Sided t mine theirs r v
  done {u = u} took v ev =
      record {
        total =
            took.total ∙
            ap (λ (i : ℕ). mine.held + i) (came-carried mine.finishes (begins_whole t mine.start) (begins_shown t theirs));
        most = took.most;
        leaves = side_put t s.is_sound mine theirs s.fits s.theirs_fits u v (few took) took.leaves ev;
      }

pub take-has-requires : goal.take-has-requires
take-has-requires c = takes c.requires

pub merge-requires : goal.merge-requires
merge-requires c =
    merges c.requires c.take-has.new.t c.take-has.ensures

-- The words at exit are those that the merge of the rows left,
-- and it began with those that the records left.
pub returns : goal.returns
returns c =
    done c.requires c.take-has.ensures c.merge.new.t c.merge.ensures
