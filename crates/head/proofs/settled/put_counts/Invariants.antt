-- The numbers of an accepted image.
use Rattle.std.proofs.Common.{◌≡◌, ◌+◌, ◌≤◌, length}
use Rattle.image.specs.Layout.{order_place}
use Rattle.image.proofs.Blocks.{blocks}
use Rattle.head.proofs.SettledCounts.{count_at}
use Rattle.head.proofs.settled.put_counts.Given as goal

abbrev pub invariant-loop-count : goal.invariant-loop-count
invariant-loop-count l =
    (l.count-index ≤ l.n) × (l.at ≡ order_place l.n (l.count-index + 1)) × (l.counts ≡ blocks l.initial.counts 0 1 (count_at l.x.bytes.now l.n) l.count-index) × (length l.counts ≡ length l.initial.counts)
