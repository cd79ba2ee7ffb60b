-- The stalls with an order mark to one of a set.
use Prim.Native.Nat.{◌+◌}
use mathlib.Core.Path.{refl, ap, ◌∙◌}
use mathlib.Core.Bool.{not}
use native.Mathlib.Omega.{arith}
use lib.Bits.{bit_and}
use lib.Dec.{eqb}
use Rattle.image.specs.Layout.{largest, order_from}
use Rattle.image.proofs.Gather.{bit_start, bit_next, bit_le, gather_start, gather_next, gathered_lt}
use Rattle.image.proofs.OrderEntry.{order_next}
use Rattle.image.proofs.Places.{orders_from_lem}
use Rattle.merge.proofs.Frames.{framed_sized}
use Rattle.merge.proofs.known.marked.Goals as goal

pub loop-init : goal.loop-init
loop-init c = (omega (arith, orders_from_lem (framed_sized c.args.x.now.framed c.from-n.ensures).long refl c.orders_place-at.ensures), bit_start, gather_start _)

pub overflow_add-out : goal.overflow_add-out
overflow_add-out c = let i = c.loop.invariant in omega (arith, c.from-n.ensures, c.args.x.now.framed.n_to, gathered_lt i.2 i.1, bit_le largest i.1 (omega (arith, c.from-n.ensures, c.args.x.now.framed.n_to)), c.pick-out.ensures)

pub loop-preserved : goal.loop-preserved
loop-preserved c =
    let a = c.args in
    let l = c.loop in
    let n = c.from-n.result in
    let i = l.invariant in (
      omega (arith, order_next n (l.counter + 1) i.1.from, i.0, c.order_width-width.ensures),
      bit_next i.1,
      gather_next i.2 i.1 (not (eqb (bit_and c.order_at.result a.set) 0)) c.pick-out.ensures.0
          (ap (λ b. not (eqb (bit_and b a.set) 0)) (c.order_at.ensures.0 ∙ ap (order_from a.x.now.bytes.now n) i.0)),
    )
