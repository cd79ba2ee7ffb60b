-- The meeting of two accepted images.
use native.Mathlib.Omega.{arith}
use borrow.Author.Rules.{rules}
use Rattle.image.specs.Stalls.{has}
use Rattle.image.proofs.Accepted.{accepted}
use Rattle.merge.proofs.meeting.MeetingWritten.{may_write, was_written, copied}
use Rattle.merge.proofs.meeting.Together.{met_nine, met_done}
use Rattle.merge.proofs.meeting.meet.Goals as goal

pub both_of-both-requires : goal.both_of-both-requires
both_of-both-requires c =
    let a = c.args in
    let r = c.requires.accepted in
    ((accepted a.first.now a.h r.0).frame, (accepted a.second.now a.g r.1).frame, r.2)

pub returns-then-d-ne0 : goal.returns-then-d-ne0
returns-then-d-ne0 c =
    let a = c.args in
    let (s, u, n, p, q) = c.both_of-both.ensures in
    let d = rw (s, u, n, p, q) at c.verdicts-d.ensures in
    rw c.answer.ensures (met_nine a.first.now a.second.now a.buffer.now a.h.n a.h.stall a.g.stall c.verdicts-d.result d c.if-d-ne0.true)

pub write_body-requires : goal.write_body-requires
write_body-requires c =
    let a = c.args in
    let (s, u, n, p, q) = c.both_of-both.ensures in
    let orders = rw (s, u, n, p, q) at c.orders_after-orders.ensures in
    may_write a.first.now a.second.now a.h.n a.h.stall a.g.stall c.orders_after-orders.result orders c.from.result c.from.ensures a.first.now a.h.stall (accepted a.first.now a.h c.requires.accepted.0).frame

pub returns : goal.returns
returns c =
    let a = c.args in
    let h = a.h in
    let r = c.requires.accepted in
    let first = accepted a.first.now h r.0 in
    let other = accepted a.second.now a.g r.1 in
    let second = rw (← r.2) at other in
    let (s, u, n, p, q) = c.both_of-both.ensures in
    let d = rw (s, u, n, p, q) at c.verdicts-d.ensures in
    let k = c.new_label-k.result in
    let label = rw (s, u, n, p, q) at c.new_label-k.ensures in
    let rows = rw (s, u, n, p, q) at c.merged_rows-rows.ensures in
    let yields = rw (s, u, n, p, q) at c.merged_yields-yields.ensures in
    let orders = rw (s, u, n, p, q) at c.orders_after-orders.ensures in
    let two = has c.verdicts-d.result.two in
    let written = was_written a.first.now a.second.now h.n h.stall a.g.stall k two first.frame second.frame c.merged_rows-rows.result c.merged_yields-yields.result rows yields c.orders_after-orders.result orders c.from.result c.from.ensures a.first.now c.write_body.new.image c.write_body.ensures in
    let same = copied a.first.now a.second.now a.first.now a.second.now h.n h.stall a.g.stall k two c.write_body.new.image c.copy_body.new.image (omega (arith, first.frame.long)) written c.copy_body.ensures in
    rw c.from-2.ensures
    (met_done a.first.now a.second.now a.buffer.now h.n h.stall a.g.stall c.verdicts-d.result d c.if-d-ne0.false first second (λ k. search rules) (λ k. search rules) c.requires.buffer_len
    k c.write_body.new.image c.copy_body.new.image c.write_verdicts.new.buffer label written same c.write_verdicts.ensures)
