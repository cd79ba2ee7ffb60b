-- The records of the heard stalls, by stall number.
use Rattle.std.proofs.Common.{length}
use Rattle.image.specs.Layout.{yields_from}
use Rattle.head.proofs.Gathering.{Gathering}
use Rattle.head.proofs.heard.gather.Given as goal

abbrev pub invariant-loop-r : goal.invariant-loop-r
invariant-loop-r l = Gathering l.x.bytes.now (yields_from (length l.x.bytes.now) l.n) l.row l.n l.records l.count l.at l.r
