-- The order marks after a meeting.
use Rattle.merge.proofs.orders.Marks.{sorted_is}
use Rattle.merge.proofs.orders.OrderEntries.{ordered}
use Rattle.merge.proofs.orders.orders_after.Goals as goal

pub returns : goal.returns
returns c =
    let a = c.args in
    let x = a.x.now in
    ordered x.first.bytes.now x.second.bytes.now x.first.n x.first.own x.second.own c.sorted.result _ x.first.framed.n_to
    (sorted_is x.first.n x.first.own _ x.second.own _ a.d _ c.requires c.sorted.ensures) c.merged_orders.ensures
