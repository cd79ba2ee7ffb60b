-- The labels of the names of a pair in an image.
use mathlib.Core.Path.{◌∙◌}
use native.Mathlib.Omega.{arith}
use Rattle.merge.proofs.label.LabelRows.{rows_start, rows_next, row_set}
use Rattle.merge.proofs.label.used_labels.Goals as goal

pub loop-init : goal.loop-init
loop-init c = rows_start _ _

pub loop-preserved : goal.loop-preserved
loop-preserved c = let i = c.loop.invariant in rows_next i (omega (arith, c.loop-test.true)) (c.row_labels-set.ensures ∙ row_set _ _ _ _ _ _ i.stands)
