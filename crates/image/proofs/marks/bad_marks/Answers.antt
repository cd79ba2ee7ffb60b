-- Check 6, by the set of heard stalls.
use Rattle.std.proofs.Common.{ℕ, ◌≡◌, ◌+◌, ◌-◌, ◌*◌, ◌%◌, ◌^◌, ◌<◌, ◌≤◌, List, Bool, not, eqb, ap, ◌∙◌, arith}
use mathlib.Core.Path.{ap₂}
use lib.Pow.{shl_exact}
use Rattle.image.specs.Stalls.{some}
use Rattle.image.specs.Layout.{order_from, order_width}
use Rattle.image.specs.Check.{bad_order, bad_marks}
use Rattle.image.proofs.Search.{Looked, looked_start, looked_more, looked_as, looked_on, looked_end}
use Rattle.image.proofs.Places.{orders_from_lem}
use Rattle.image.proofs.Lanes.{or_test}
use Rattle.image.proofs.Gather.{bit_start, bit_next}
use Rattle.image.proofs.OrderTest.{order_test}
use Rattle.image.proofs.marks.bad_marks.Goals as goal

-- the first entry, as the code comes to it
looked_at : {n width place at s : ℕ} {found : Bool} {f : ℕ → Bool} → at ≡ place → Looked n width place place s found f → Looked n width place at s found f
looked_at e w = record { from = w.from; to = w.to; stands = e ∙ w.stands; so_far = w.so_far }

marks_end : (s : List ℕ) (n own : ℕ) {found : Bool} → found ≡ some n (bad_order s n own) → found ≡ bad_marks s n own
unfolding bad_marks
marks_end s n own e = e

one_shifted : (k : ℕ) → k < 64 → (1 * 2 ^ k) % 2 ^ 64 ≡ 2 ^ k
one_shifted k l = shl_exact {a = 1} 1 k 64 (omega arith) (omega arith) ∙ omega arith

pub loop-init : goal.loop-init
loop-init c = (looked_at (orders_from_lem c.args.x.now.framed.long c.from-n.ensures c.orders_place-at.ensures) (looked_start _), bit_start)

pub loop-preserved : goal.loop-preserved
loop-preserved c =
    let a = c.args in
    let f = a.x.now.framed in
    let l = c.loop in
    let i = l.invariant in
    let left : l.counter + 1 ≤ a.x.now.n = omega (arith, c.loop-test.true, c.from-n.ensures) in (
      looked_as (or_test l.bad c.bad_order-bad.result)
          (looked_on l.at (c.order_width-width.ensures ∙ ap order_width c.from-n.ensures)
          (looked_more i.0 left (not (eqb c.bad_order-bad.result 0))
          (c.bad_order-bad.ensures
          ∙ order_test a.x.now.bytes.now a.x.now.n a.x.now.own (l.counter + 1) c.whole_order.result l.one _ a.set i.0.from left f.own_from
          c.whole_order.ensures.1 (c.whole_order.ensures.0 ∙ ap₂ (order_from a.x.now.bytes.now) c.from-n.ensures i.0.stands) c.requires i.1.is
          (one_shifted (a.x.now.own - 1) (omega (arith, f.own_to, f.n_to)))))),
      bit_next i.1,
    )

pub returns : goal.returns
returns c =
    let a = c.args in
    let l = c.loop in
    marks_end a.x.now.bytes.now a.x.now.n a.x.now.own (looked_end l.invariant.0 (omega (arith, c.loop-test.false, c.from-n.ensures)))
