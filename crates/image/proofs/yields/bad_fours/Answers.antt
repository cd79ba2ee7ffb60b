-- Four numbers more.
use Rattle.std.proofs.Common.{refl, ◌∙◌, arith}
use Rattle.std.proofs.Math.Bool.{or_comm}
use Rattle.image.specs.Stalls.{some}
use Rattle.image.proofs.YieldLanes.{fours_next}
use Rattle.image.proofs.yields.bad_fours.Goals as goal

pub loop-seen-init : goal.loop-seen-init
unfolding some
loop-seen-init c = (omega arith, omega arith, omega arith, refl)

pub loop-seen-preserved : goal.loop-seen-preserved
loop-seen-preserved c =
    let a = c.args in
    let l = c.loop-seen in (
      omega arith,
      omega arith,
      omega arith,
      or_comm l.bad c.bad_four-bad.result ∙ fours_next a.image.now (λ k. omega (arith, c.type_inv.image k)) a.at l.seen l.place l.invariant.2
          c.four_numbers.ensures c.bad_four-bad.ensures l.invariant.3,
    )
