-- The rows of all stalls after a meeting.
use Prim.Native.Nat.{◌<◌}
use native.Mathlib.Omega.{arith}
use borrow.Author.Rules.{rules}
use Rattle.image.specs.Stalls.{has}
use Rattle.merge.proofs.ByStalls.{by_stall_next}
use Rattle.merge.proofs.rows.BodyRows.{row_is}
use Rattle.merge.proofs.rows.merged_rows.Goals as goal

pub loop-c-preserved : goal.loop-c-preserved
loop-c-preserved c =
    let a = c.args in
    let x = a.x.now in
    let l = c.loop-c in
    let row = rw (c.from-p.ensures, c.from-q.ensures) at c.row_after.ensures in
    let on : l.c < c.from-n.result = search (rules, x.first.framed.n_to, c.from-n.ensures) in (
      omega (arith, l.invariant.0),
      by_stall_next l.invariant.1 on c.row_after.result
          (row_is x.first.bytes.now x.second.bytes.now _ _ (has a.two) _ x.first.n x.first.own x.second.own a.k l.at l.c c.has_stall.ensures (rw c.from-n.ensures at l.invariant.0) c.latest_row-latest.ensures row),
    )
