-- Two answers that a contract of this crate allows are equal: the place after what is printed and every lent byte at exit.
use mathlib.Core.List.{◌∷◌}
use Rattle.meaning.proofs.OneReply.{OneReply}
use Rattle.printing.proofs.Printing.{one_printed}
use Rattle.wording.proofs.said_one.Kinds as said_one_kinds
use Rattle.wording.proofs.said_one.Reads as said_one
use Rattle.wording.proofs.said_row.Kinds as said_row_kinds
use Rattle.wording.proofs.said_row.Reads as said_row

pub one_said_one : OneReply 3 said_one_kinds.ps said_one_kinds.r said_one.Post (λ κs x s. s.0.now.at ∷ s.0.now.out.now)
one_said_one κs a x y s s' p q = one_printed p q

pub one_said_row : OneReply 4 said_row_kinds.ps said_row_kinds.r said_row.Post (λ κs x s. s.0.now.at ∷ s.0.now.out.now)
one_said_row κs a x y s s' p q = one_printed p q
