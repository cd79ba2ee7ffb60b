-- The pairs of n stalls.
use Rattle.std.proofs.Common.{◌≡◌, length}
use Rattle.image.specs.Layout.{longest_row}
use Rattle.image.specs.Stalls.{each, has}
use Rattle.merge.specs.Body.{padded, mixed_pair}
use Rattle.merge.proofs.pairs.mixed.Given as goal

abbrev pub invariant-loop-c : goal.invariant-loop-c
invariant-loop-c l =
    (length l.row ≡ longest_row) × (l.row ≡ padded l.c (each l.c (mixed_pair l.x.first.bytes.now l.a l.x.second.bytes.now l.b (has l.two))))
