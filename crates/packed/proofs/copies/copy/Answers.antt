-- What stands in a run from a place on, copied.
use native.Mathlib.Omega.{arith}
use lib.ListN.{length-set}
use Rattle.merge.proofs.write.Copies.{copied_next}
use Rattle.packed.proofs.copies.copy.Goals as goal

pub loop-i-preserved : goal.loop-i-preserved
loop-i-preserved c =
    let a = c.args in
    let l = c.loop-i in
    (omega arith, copied_next a.to.now a.from.now l.to a.at a.start l.i (omega arith) (omega arith) l.invariant.1, simp length-set l.invariant.2)
