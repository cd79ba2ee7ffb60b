-- The row that starts at a place, as records.
use Rattle.image.specs.Row.{entry_at}
use Rattle.image.proofs.Fill.{Filled}
use Rattle.image.proofs.rows.row_at.Given as goal

abbrev pub invariant-loop-c : goal.invariant-loop-c
invariant-loop-c l = Filled l.entry-items l.c l.n (entry_at l.image l.n l.at)
