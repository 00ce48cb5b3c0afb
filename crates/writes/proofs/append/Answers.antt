-- `writes::append` meets its contract: three writes that together put the node.
use mathlib.Core.Path.{◌≡◌, ap, ap₂, ◌∙◌}
use Prim.Native.Nat.{ℕ, ◌+◌, ◌*◌, ◌<◌}
use mathlib.Core.List.{List, [], ◌∷◌}
use Rattle.meaning.specs.declared.Record.{Record}
use Rattle.meaning.specs.Rows.{words}
use Rattle.meaning.specs.Table.{form_of, count, held, node, place, put_node, summary_at, held_at, log_at, log_most, Sound}
use Rattle.meaning.specs.Node.{wrote}
use Rattle.meaning.proofs.PutLaws.{write_put}
use Rattle.writes.proofs.append.Goals as goal

whole :
    (t : List ℕ) (s : Sound t) (r : Record) (h : r.origin < count t) (k : ℕ) (at₁ at₂ at₃ : ℕ) (u v w : List ℕ) →
    held t r.origin < log_most → k ≡ held t r.origin → at₁ ≡ log_at (form_of t) r.origin → at₂ ≡ held_at (form_of t) r.origin →
    at₃ ≡ summary_at (form_of t) r.origin →
    u ≡ place (at₁ + 4 * k) (words (r ∷ [])) t → v ≡ place at₂ ((k + 1) ∷ []) u → w ≡ place (at₃ + r.origin) (r.timestamp ∷ []) v →
    w ≡ put_node r.origin (wrote r.origin r.timestamp r.block r.verdict (node t r.origin)) t
whole t s r h k at₁ at₂ at₃ u v w below ek e₁ e₂ e₃ eu ev ew =
    let p = r.origin in
    let f : w ≡ place (summary_at (form_of t) p + p) (r.timestamp ∷ [])
    (place (held_at (form_of t) p) ((held t p + 1) ∷ []) (place (log_at (form_of t) p + 4 * held t p) (words (r ∷ [])) t)) =
    ew ∙ ap₂ (λ (a : ℕ) (x : List ℕ). place (a + p) (r.timestamp ∷ []) x) e₃
    (ev ∙ ap₂ (λ (a m : ℕ). place a ((m + 1) ∷ []) u) e₂ ek ∙
    ap (place (held_at (form_of t) p) ((held t p + 1) ∷ []))
    (eu ∙ ap₂ (λ (a m : ℕ). place (a + 4 * m) (words (r ∷ [])) t) e₁ ek))
    in
    f ∙ write_put t s p h r.timestamp r.block r.verdict below

pub returns : goal.returns
returns c =
    whole c.args.t.now c.requires.0 c.args.r c.requires.1 c.held_of-held.result c.log_at.result c.held_at-number.result c.summary_at.result
    c.put_record.new.t c.put_word.new.t c.put_word-2.new.t c.requires.2 c.held_of-held.ensures c.log_at.ensures c.held_at-number.ensures
    c.summary_at.ensures.0 c.put_record.ensures c.put_word.ensures c.put_word-2.ensures
