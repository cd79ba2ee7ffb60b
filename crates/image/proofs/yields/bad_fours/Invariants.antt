-- Some of the numbers from a place on, four at a time.
use Rattle.std.proofs.Common.{◌≡◌, ◌+◌, ◌-◌, ◌*◌, ◌%◌, ◌<◌}
use Rattle.image.proofs.YieldLanes.{bad_from}
use Rattle.image.proofs.yields.bad_fours.Given as goal

abbrev pub invariant-loop-seen : goal.invariant-loop-seen
invariant-loop-seen l =
    (l.seen < l.count + 4) × (l.seen % 4 ≡ 0) × (l.place ≡ l.fn.at + l.seen * 2) × (l.bad ≡ bad_from l.image l.fn.at l.seen)

abbrev pub decreases-loop-seen : goal.decreases-loop-seen
decreases-loop-seen l = l.count + 4 - l.seen
