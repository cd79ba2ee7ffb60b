-- The order marks of all stalls.
use Rattle.std.proofs.Common.{◌≡◌, ◌+◌, ◌%◌}
use Rattle.image.specs.Layout.{order_place, order_at}
use Rattle.merge.specs.ByStall.{ByStall}
use Rattle.merge.specs.Orders.{order_of}
use Rattle.merge.proofs.orders.merged_orders.Given as goal

abbrev pub invariant-loop-r : goal.invariant-loop-r
invariant-loop-r l =
    (l.at ≡ order_place l.x.first.n (l.r + 1))
    × ByStall 0 l.n l.r (λ r. order_of l.sets r (order_at l.x.first.bytes.now l.x.first.n r) (order_at l.x.second.bytes.now l.x.first.n r) % 65536) l.order-items
