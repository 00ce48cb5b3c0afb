-- Two replies that a contract of applies.rt allows are equal: the number returned, each count and place stored and every word of the table at exit.
use mathlib.Core.List.{[], ◌∷◌, ◌++◌}
use Rattle.meaning.proofs.OneReply.{OneReply}
use Rattle.answers.proofs.ValueLaws.{both}
use Rattle.pollencart.proofs.applies.pollencart_apply_line.Kinds as line_kinds
use Rattle.pollencart.proofs.applies.pollencart_apply_line.Reads as line
use Rattle.pollencart.proofs.applies.pollencart_apply_lines.Kinds as lines_kinds
use Rattle.pollencart.proofs.applies.pollencart_apply_lines.Reads as lines

pub one_line :
    OneReply 5 line_kinds.ps line_kinds.r line.Post
    (λ κs x s. (x ∷ s.1.1.0.now ∷ s.1.1.1.0.now ∷ s.1.1.1.1.0.now ∷ []) ++ s.0.now)
one_line κs a x y s s' p q = both p.0 q.0 p.1 q.1

pub one_lines :
    OneReply 6 lines_kinds.ps lines_kinds.r lines.Post
    (λ κs x s. (x ∷ s.1.1.0.now ∷ s.1.1.1.0.now ∷ s.1.1.1.1.0.now ∷ s.1.1.1.1.1.0.now ∷ []) ++ s.0.now)
one_lines κs a x y s s' p q = both p.0 q.0 p.1 q.1
