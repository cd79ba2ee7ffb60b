-- The rows of n stalls.
use Rattle.std.proofs.Common.{◌≡◌, ◌+◌, ◌*◌, length}
use Rattle.image.proofs.Blocks.{blocks}
use Rattle.merge.specs.Body.{row_in}
use Rattle.merge.proofs.write.write_rows.Given as goal

abbrev pub invariant-loop-row : goal.invariant-loop-row
invariant-loop-row l =
    (l.at ≡ 4 + l.row-index * (l.n + l.n)) × (l.image ≡ blocks l.initial.image 4 (l.n + l.n) (row_in l.fn.rows l.n) l.row-index)
    × (length l.image ≡ length l.initial.image)
