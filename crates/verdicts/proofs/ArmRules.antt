-- The laws that `class_of` and `count` need at their arms: a verdict's class between the arm's two ends, and the two refusals by a list's length.
use Rattle.meaning.proofs.VerdictLaws.{class_1, class_2, class_3, class_4, class_5, class_6, count_uneven, count_long}

pub ruleset classes = (class_1, class_2, class_3, class_4, class_5, class_6)

pub ruleset lengths = (count_uneven, count_long)
