-- The order entries of n stalls.
use Prim.Native.Nat.{◌<◌}
use mathlib.Core.Path.{refl, ◌∙◌}
use native.Mathlib.Omega.{arith}
use borrow.Author.Rules.{rules}
use Rattle.std.proofs.lemmas.List.{get_or-take}
use Rattle.image.proofs.OrderEntry.{order_put, entry_within, entry_next}
use Rattle.image.proofs.Places.{orders_from_lem}
use Rattle.image.proofs.Blocks.{blocks_start}
use Rattle.merge.proofs.write.Written.{order_small, orders_next, orders_end}
use Rattle.merge.proofs.write.write_orders.Goals as goal

pub loop-order-init : goal.loop-order-init
loop-order-init c = (omega (arith, orders_from_lem c.requires.0.long refl c.orders_place-at.ensures), blocks_start _ _ _ _, refl)

pub loop-order-preserved : goal.loop-order-preserved
loop-order-preserved c =
    let a = c.args in
    let l = c.loop-order in
    let i = l.invariant in
    let s = c.requires.0 in
    let on : l.order-index < a.n = search rules in
    let within = entry_within a.n _ l.order-index s.long refl i.0 on in
    let put = order_put l.image a.n l.at _ (omega (arith, i.2, within)) s.n_to (order_small a.n a.orders l.order-index c.requires.1 on) in
    let written = rw (get_or-take a.n a.orders l.order-index 0 on) at c.put_order.ensures in
    let w = orders_next a.image.now a.n a.orders s l.order-index l.at on i.0 l.image c.put_order.new.image i.1 i.2 (written ∙ put) in
    (entry_next a.n _ l.order-index refl c.order_width-width.ensures i.0, w.0, w.1)

pub returns : goal.returns
returns c = orders_end c.args.image.now c.loop-order.image c.args.n c.args.orders c.loop-order.order-index c.requires.0 (search rules) (search rules) c.loop-order.invariant.1
