-- `purges::drop_rows` meets its contract: nothing is written where no record leaves, which is what the purged node's words then are;
-- else three writes together put it.
use mathlib.Core.Path.{◌≡◌, refl, sym, ap, ap₂, ◌∙◌}
use mathlib.Core.Bool.{Bool}
use Prim.Native.Nat.{ℕ, ◌+◌, ◌*◌, ◌-◌}
use native.Mathlib.Omega.{arith}
use mathlib.Core.List.{List, [], ◌∷◌}
use lib.ListN.{length, get_or, replicate}
use Rattle.meaning.specs.declared.Record.{Record}
use Rattle.meaning.specs.Rows.{words}
use Rattle.meaning.specs.Table.{Form, form_of, form_words, held, node, place, log_at, held_at}
use Rattle.meaning.specs.Node.{purged}
use Rattle.meaning.specs.Steps.{leaving}
use Rattle.meaning.proofs.PlaceLaws.{place_none, place-part}
use Rattle.meaning.proofs.PutLaws.{purge_put, log_words_lem, put_held_same}
use Rattle.meaning.proofs.TableLaws.{form_same, log_length}
use Rattle.logs.specs.Carry.{stay, FirstLeaving}
use Rattle.purges.specs.Dropped.{log_from, log_of, Drops, Closed, Dropped}
use Rattle.purges.proofs.drop_rows.Goals as goal

whole :
    (t : List ℕ) (p k : ℕ) (pre : Record → Type 0) (post : Record → Bool → Type 0) (d : Drops t p k pre post)
    (leaves : Record → Bool) (n at : ℕ) (u v w : List ℕ) →
    length u ≡ length t → length v ≡ length t → at ≡ held_at (form_of v) p → Closed t p leaves n u →
    v ≡ place (log_from p u + 4 * n) (replicate (4 * (k - n)) 0) u → w ≡ place at (n ∷ []) v → Dropped t p leaves n w
unfolding purged
whole t p k pre post d leaves n at u v w lu lv ea put ev ew =
    let fu = form_same u t lu in
    let fv = form_same v t lv in
    record {
      many = put.many;
      puts =
          ew ∙
          ap₂ (λ (a : ℕ) (x : List ℕ). place a (n ∷ []) x) (ea ∙ ap (λ (f : Form). held_at f p) fv)
          (ev ∙ ap (λ (f : Form). place (log_at f p + 4 * n) (replicate (4 * (k - n)) 0) u) fu ∙
          ap₂ (λ (m : ℕ) (x : List ℕ). place (log_from p t + 4 * n) (replicate (4 * (m - n)) 0) x) d.many put.leaves) ∙
          purge_put t d.is_sound p d.there leaves n put.many;
    }

-- a table as long as one of a right length has that form's length, and the words that are written in it lie inside
long_same : (t u : List ℕ) → length u ≡ length t → length t ≡ form_words (form_of t) → length u ≡ form_words (form_of u)
long_same t u e l = e ∙ l ∙ ap form_words (sym (form_same u t e))

held_word : (t : List ℕ) (p : ℕ) → get_or t (held_at (form_of t) p) 0 ≡ held t p
unfolding held
held_word t p = refl

-- no record leaves: the table is the one with the purged node put
module _
    (t : List ℕ) (p k : ℕ) (pre : Record → Type 0) (post : Record → Bool → Type 0) (d : Drops t p k pre post) (leaves : Record → Bool)
    (found : FirstLeaving leaves k (log_of p t) k)
  where
    stays : stay leaves (node t p).log ≡ (node t p).log
    unfolding node
    stays =
        rw d.many at found.before

    nothing : Dropped t p leaves k t
    unfolding purged
    nothing =
        let s = d.is_sound in
        let h = d.there in
        let l = s.long in
        let g = s.high in
        let ek = d.many in
        let r = d.room in
        let many : k ≡ length (stay leaves (node t p).log) = ek ∙ sym (ap length stays ∙ log_length t p) in
        let z : 4 * (held t p - k) ≡ 0 = omega arith in
        let log : place (log_from p t) (words (stay leaves (node t p).log)) t ≡ t =
        ap (λ (x : List Record). place (log_from p t) (words x) t) stays ∙
        ap (λ (x : List ℕ). place (log_from p t) x t) (log_words_lem t s p h) ∙ place-part (log_from p t) (4 * held t p) t (omega arith)
        in
        let rows : place (log_from p t + 4 * k) (replicate (4 * (held t p - k)) 0) (place (log_from p t) (words (stay leaves (node t p).log)) t) ≡ t =
        ap₂ (λ (m : ℕ) (x : List ℕ). place (log_from p t + 4 * k) (replicate m 0) x) z log ∙ place_none (log_from p t + 4 * k) t
        in
        record {
          many = many;
          puts =
              sym
              (sym (purge_put t s p h leaves k many) ∙ ap (place (held_at (form_of t) p) (k ∷ [])) rows ∙
              put_held_same t s p h t k l (held_word t p ∙ sym ek));
        }

pub returns-in_default : goal.returns-in_default
returns-in_default g c =
    (nothing c.args.t.now c.args.p c.args.held _ _ c.requires (leaving c.args.t.now c.args.p) c.in_default.ensures, omega arith)

pub clear_rows-requires : goal.clear_rows-requires
clear_rows-requires g c =
    let d = c.requires in
    let high = d.is_sound.high in
    let here = d.there in (
      long_same c.args.t.now c.close_log-left.new.t c.close_log-left.auto.t d.is_sound.long,
      omega arith,
      c.close_log-left.ensures.1,
      d.room,
    )

pub held_at-at-requires : goal.held_at-at-requires
held_at-at-requires g c =
    let d = c.requires in
    let high = d.is_sound.high in
    let here = d.there in (
      long_same c.args.t.now c.clear_rows.new.t (c.clear_rows.auto.t ∙ c.close_log-left.auto.t) d.is_sound.long,
      omega arith,
    )

pub returns : goal.returns
returns g c =
    let lu = c.close_log-left.auto.t in
    let t = c.args.t.now in (
      whole t c.args.p c.args.held _ _ c.requires (leaving t c.args.p) c.close_log-left.result c.held_at-at.result
          c.close_log-left.new.t c.clear_rows.new.t c.put_word.new.t lu
          (c.clear_rows.auto.t ∙ lu) c.held_at-at.ensures c.close_log-left.ensures.0
          c.clear_rows.ensures c.put_word.ensures,
      c.close_log-left.ensures.1,
    )
