-- Two answers that a contract of this crate allows are equal: the place after what is printed and every lent byte at exit.
use mathlib.Core.List.{◌∷◌}
use Rattle.meaning.proofs.OneReply.{OneReply}
use Rattle.printing.proofs.Printing.{one_printed}
use Rattle.printing.proofs.Printer.put.Kinds as put_kinds
use Rattle.printing.proofs.Printer.put.Reads as put
use Rattle.printing.proofs.Printer.number.Kinds as number_kinds
use Rattle.printing.proofs.Printer.number.Reads as number
use Rattle.printing.proofs.Printer.entry.Kinds as entry_kinds
use Rattle.printing.proofs.Printer.entry.Reads as entry

pub one_put : OneReply 2 put_kinds.ps put_kinds.r put.Post (λ κs x s. s.0.now.at ∷ s.0.now.out.now)
one_put κs a x y s s' p q = one_printed p q

pub one_number : OneReply 2 number_kinds.ps number_kinds.r number.Post (λ κs x s. s.0.now.at ∷ s.0.now.out.now)
one_number κs a x y s s' p q = one_printed p q

pub one_entry : OneReply 2 entry_kinds.ps entry_kinds.r entry.Post (λ κs x s. s.0.now.at ∷ s.0.now.out.now)
one_entry κs a x y s s' p q = one_printed p q
