-- What another image holds behind its first four bytes.
use native.Mathlib.Omega.{arith}
use Rattle.merge.proofs.write.Copies.{copied_next}
use Rattle.merge.proofs.write.copy_body.Goals as goal

pub loop-i-preserved : goal.loop-i-preserved
loop-i-preserved c =
    let l = c.loop-i in
    (omega arith, copied_next c.args.image.now c.args.from.now l.image 4 4 l.i (omega arith) (omega arith) l.invariant.1)
