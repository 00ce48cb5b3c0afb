-- `digits` follows the definition's clauses: no digit, one digit, or the digits of a tenth and one more. It ends because the digits left fall.
use Rattle.printing.proofs.+digits.Given as goal

abbrev pub decreases-digits : goal.decreases-digits
decreases-digits l = l.most
