-- The numbers of an accepted image.
use mathlib.Core.Path.{refl, ap, sym, ◌∙◌}
use native.Mathlib.Omega.{arith}
use Rattle.image.specs.Layout.{image_length}
use Rattle.image.specs.Stalls.{count_stalls, has}
use Rattle.image.proofs.Blocks.{blocks_start}
use Rattle.image.proofs.OrderEntry.{entry_next}
use Rattle.image.proofs.Places.{orders_from_lem}
use Rattle.head.specs.Settled.{settled_counts}
use Rattle.head.proofs.SettledCounts.{counts_next, counts_end}
use Rattle.head.proofs.settled.put_counts.Goals as goal

pub loop-count-init : goal.loop-count-init
loop-count-init c = (omega arith, omega (arith, orders_from_lem (c.args.x.now.framed.long ∙ ap image_length (sym c.from-n.ensures)) refl c.orders_place-at.ensures), blocks_start _ _ _ _, refl)

pub loop-count-preserved : goal.loop-count-preserved
loop-count-preserved c =
    let a = c.args in
    let l = c.loop-count in
    let n = c.from-n in
    let w = counts_next a.x.now.bytes.now a.counts.now l.counts n.result l.count-index l.at c.order_at.result c.set_size.result (omega arith) (c.requires ∙ sym n.ensures) l.invariant.1 c.order_at.ensures.0 (c.set_size.ensures.0 ∙ ap (λ k. count_stalls k (has c.order_at.result)) (sym n.ensures)) l.invariant.2 l.invariant.3 in
    (omega arith, entry_next n.result _ l.count-index refl c.order_width-width.ensures l.invariant.1, w.0, w.1)

pub returns : goal.returns
returns c =
    let a = c.args in
    let l = c.loop-count in
    let n = c.from-n in
    counts_end a.x.now.bytes.now a.counts.now l.counts n.result l.count-index l.invariant.0 (omega arith) (c.requires ∙ sym n.ensures) l.invariant.2 ∙ ap (settled_counts a.x.now.bytes.now) n.ensures
