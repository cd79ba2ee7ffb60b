-- The records of the heard stalls, by stall number.
use native.Mathlib.Omega.{arith}
use Rattle.head.proofs.Gathering.{gathering_start, gathering_next}
use Rattle.head.proofs.heard.gather.Goals as goal

pub loop-r-init : goal.loop-r-init
loop-r-init c = gathering_start _ _ _ _ _ c.yields_place-at.ensures

pub loop-r-preserved : goal.loop-r-preserved
loop-r-preserved c = gathering_next c.loop-r.invariant c.loop-r-test.true (omega (arith, c.args.x.now.framed.n_to, c.from-n.ensures)) _ c.record_at.ensures _ c.is_heard.ensures _ c.one_more-count.ensures
