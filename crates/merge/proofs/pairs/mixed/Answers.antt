-- The pairs of n stalls.
use mathlib.Core.Path.{refl}
use native.Mathlib.Omega.{arith}
use lib.ListN.{length-set}
use Rattle.image.specs.Stalls.{each, has}
use Rattle.merge.specs.Body.{mixed_pair}
use Rattle.merge.proofs.pairs.PairRows.{pairs_next, mixed_wide, mixed_at}
use Rattle.merge.proofs.pairs.mixed.Goals as goal

pub loop-c-init : goal.loop-c-init
unfolding each
loop-c-init c = (refl, refl)

pub loop-c-preserved : goal.loop-c-preserved
unfolding each
loop-c-preserved c =
    let a = c.args in
    let l = c.loop-c in
    let s = a.x.now.first.bytes.now in
    let u = a.x.now.second.bytes.now in
    let pair = mixed_pair s a.a u a.b (has a.two) in (
      simp length-set l.invariant.0,
      pairs_next pair (mixed_wide s a.a u a.b (has a.two)) l.row l.c c.chosen-pair.result.high c.chosen-pair.result.low (omega (arith, a.x.now.first.framed.n_to, c.from-c-end.ensures)) l.invariant.1
          (mixed_at s a.a u a.b (has a.two) l.c _ c.chosen-pair.result c.has_stall.ensures c.chosen-pair.ensures),
    )
