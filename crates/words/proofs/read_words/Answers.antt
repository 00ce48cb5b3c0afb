-- `read_words` meets its contract: too few words, an accepted line, or a refused one.
use mathlib.Core.Path.{refl, sym, ◌∙◌, ap}
use Prim.Native.Nat.{◌-◌}
use native.Mathlib.Omega.{arith}
use lib.ListN.{length}
use Rattle.meaning.specs.Frames.{line_fault}
use Rattle.heads.proofs.HeadLaws.{whole_part}
use Rattle.words.proofs.WordLaws.{full_words, kept_words}
use Rattle.words.proofs.read_words.Goals as goal

pub returns-then-put_sure : goal.returns-then-put_sure
returns-then-put_sure c =
    let put = c.put_sure in
    full_words c.args.s.now c.args.words.now put.new.words _ (omega arith) (sym c.if-put_sure.true ∙ put.ensures.0, put.ensures.1)
    refl

pub returns : goal.returns
returns c =
    let s = c.args.s.now in
    let put = c.put_sure in
    kept_words s c.args.words.now put.new.words _ c.refusal.result (sym c.if-put_sure.false ∙ put.ensures.0, put.ensures.1) refl
    (c.refusal.ensures ∙ ap line_fault (whole_part s (length s - 0) (omega arith)))
