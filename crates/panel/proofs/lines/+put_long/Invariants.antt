-- The digits of a number: the measure is the number.
use Rattle.panel.proofs.lines.+put_long.Given as goal

abbrev pub decreases-put_long : goal.decreases-put_long
decreases-put_long l = l.k
