-- `deliver` meets its contract: its frame is one of one byte.
use Rattle.std.proofs.Common.{refl}
use Rattle.meaning.specs.declared.Action.TheVariants.{Deliver}
use Rattle.meaning.specs.Steps.{outcome_above}
use Rattle.meaning.specs.Frames.{journal_kinds, widths_in, frame}
use Rattle.writing.proofs.WriteLaws.{filled_wrote}
use Rattle.writing.proofs.write.deliver.Goals as goal

pub short-requires : goal.short-requires
unfolding widths_in journal_kinds
short-requires c = refl

pub returns : goal.returns
unfolding outcome_above frame
returns c = filled_wrote c.args.out.now c.short.new.out (Deliver c.args.node) c.short.result refl c.short.ensures
