-- What another image holds behind its first four bytes.
use Rattle.std.proofs.Common.{◌≡◌, ◌≤◌, drop}
use lib.Seq.{paste}
use Rattle.merge.proofs.write.copy_body.Given as goal

abbrev pub invariant-loop-i : goal.invariant-loop-i
invariant-loop-i l = (l.i ≤ l.rest) × (l.image ≡ paste l.initial.image 4 (drop 4 l.from) l.i)
