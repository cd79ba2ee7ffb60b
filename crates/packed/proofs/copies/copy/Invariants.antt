-- What stands in a run from a place on, copied.
use Rattle.std.proofs.Common.{◌≡◌, ◌≤◌, length, drop}
use lib.Seq.{paste}
use Rattle.packed.proofs.copies.copy.Given as goal

abbrev pub invariant-loop-i : goal.invariant-loop-i
invariant-loop-i l = (l.i ≤ l.count) × (l.to ≡ paste l.initial.to l.at (drop l.start l.from) l.i) × (length l.to ≡ length l.initial.to)
