-- `deliveries::look` meets its contract: each refusal by its test, and else what is read of the node.
use mathlib.Core.Path.{refl}
use native.Mathlib.Omega.{arith}
use Rattle.meaning.specs.Table.{form_of}
use Rattle.meaning.proofs.TableLaws.{sound_facts}
use Rattle.meaning.proofs.StepLaws.{deliver_is_3, deliver_is_26, deliver_is_0}
use Rattle.layout.proofs.FormLaws.{has_columns, has_vectors}
use Rattle.deliveries.proofs.look.Goals as goal

pub returns-then-n-p : goal.returns-then-n-p
returns-then-n-p c =
    let t = c.args.t.now.words.now in
    deliver_is_3 t (sound_facts t c.args.t.now.is_sound) c.args.node (omega (arith, c.nodes-n.ensures.0))

pub returns-then-has_columns : goal.returns-then-has_columns
returns-then-has_columns c =
    let t = c.args.t.now.words.now in
    deliver_is_26 t (sound_facts t c.args.t.now.is_sound) c.args.node (omega (arith, c.nodes-n.ensures.0))
    (has_columns (form_of t) c.has_columns.result c.has_columns.ensures c.if-has_columns.true)

pub returns : goal.returns
returns c =
    let t = c.args.t.now.words.now in (
      refl,
      record {
        passed =
            deliver_is_0 t (sound_facts t c.args.t.now.is_sound) c.args.node (omega (arith, c.nodes-n.ensures.0))
            (has_vectors (form_of t) c.has_columns.result c.has_columns.ensures c.if-has_columns.false);
        many = c.held-held.ensures.0;
        from = c.mark-mark.ensures;
        upto = c.low_of-limit.ensures;
      },
    )
