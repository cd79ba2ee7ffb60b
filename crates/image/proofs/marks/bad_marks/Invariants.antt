-- Check 6, by the set of heard stalls: the entries before some stall have been looked at, whose entry stands at a place and whose bit is at hand.
use Rattle.std.proofs.Common.{◌+◌, not, eqb}
use Rattle.image.specs.Layout.{order_width, orders_place}
use Rattle.image.specs.Check.{bad_order}
use Rattle.image.proofs.Search.{Looked}
use Rattle.image.proofs.Gather.{Bit}
use Rattle.image.proofs.marks.bad_marks.Given as goal

abbrev pub invariant-loop : goal.invariant-loop
invariant-loop l =
    Looked l.x.n (order_width l.x.n) (orders_place l.x.n) l.at (l.counter + 1) (not (eqb l.bad 0)) (bad_order l.x.bytes.now l.x.n l.x.own) × Bit l.one (l.counter + 1)
