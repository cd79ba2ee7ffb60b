-- The verdicts of a meeting.
use Rattle.merge.proofs.known.Judging.{verdict_sets}
use Rattle.merge.proofs.known.verdicts.Goals as goal

pub returns : goal.returns
returns c =
    let a = c.args in
    let x = a.x.now in
    let d = c.decided.ensures in
    verdict_sets x.first.bytes.now x.second.bytes.now x.first.n x.first.own x.second.own c.view-a.result c.view-b.result
    c.view-a.ensures (rw (← x.one_size) at c.view-b.ensures)
    c.all_stalls-all.result _ _ _ _ c.all_stalls-all.ensures c.without.ensures c.marked.ensures c.without-2.ensures (rw (← x.one_size) at c.marked-2.ensures)
    c.decided.result d.0 d.1 d.2 d.3
