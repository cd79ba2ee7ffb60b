-- The order entries of n stalls.
use Rattle.std.proofs.Common.{◌≡◌, ◌+◌, length}
use Rattle.image.specs.Layout.{order_width, orders_place, order_place}
use Rattle.image.proofs.Blocks.{blocks}
use Rattle.merge.specs.Body.{order_in}
use Rattle.merge.proofs.write.write_orders.Given as goal

abbrev pub invariant-loop-order : goal.invariant-loop-order
invariant-loop-order l =
    (l.at ≡ order_place l.n (l.order-index + 1)) × (l.image ≡ blocks l.initial.image (orders_place l.n) (order_width l.n) (order_in l.fn.orders l.n) l.order-index)
    × (length l.image ≡ length l.initial.image)
