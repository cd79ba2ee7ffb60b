-- The labels of the names of a pair in an image.
use Rattle.std.proofs.Common.{◌+◌}
use Rattle.image.specs.Encode.{table_of}
use Rattle.merge.specs.Label.{row_has}
use Rattle.merge.proofs.label.LabelRows.{Rows}
use Rattle.merge.proofs.label.used_labels.Given as goal

abbrev pub invariant-loop : goal.invariant-loop
invariant-loop l = Rows l.n l.row (l.counter + 1) l.set (row_has l.p l.q (table_of l.x.bytes.now l.n))
