-- `start` meets its contract: its frame is one of one byte.
use Rattle.std.proofs.Common.{refl}
use Rattle.meaning.specs.Frames.{journal_kinds, widths_in, start_frame}
use Rattle.writing.proofs.WriteLaws.{filled_began}
use Rattle.writing.proofs.write.start.Goals as goal

pub short-requires : goal.short-requires
unfolding widths_in journal_kinds
short-requires c = refl

pub returns : goal.returns
unfolding start_frame
returns c = filled_began c.args.out.now c.short.new.out c.args.n c.short.result c.requires c.short.ensures
