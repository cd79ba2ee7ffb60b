-- One name further.
use Rattle.std.proofs.Common.{◌≡◌, ◌+◌, ◌-◌, ◌*◌, not, eqb, get_or, refl, ap, arith}
use Rattle.image.specs.Stalls.{some}
use Rattle.image.proofs.Search.{some_next}
use Rattle.image.proofs.names.some_in_row.Goals as goal

pub loop-c-init : goal.loop-c-init
unfolding some
loop-c-init c = refl

pub loop-c-preserved : goal.loop-c-preserved
loop-c-preserved c =
    let a = c.args in
    let e : a.at + 2 * c.loop-c.c ≡ a.at + (c.loop-c.c + 1 - 1) * 2 = omega arith in
    some_next _ _ (ap (λ k. not (eqb (get_or a.image.now k 0) 0)) e) c.loop-c.invariant
