-- Some of n numbers is none that a yield may be: of the last four, or of those before.
use Rattle.std.proofs.Common.{ℕ, ◌<◌, get_or, arith}
use Rattle.image.proofs.YieldLanes.{last_found, both_found}
use Rattle.image.proofs.yields.some_bad_yield.Goals as goal

pub returns-then-n-le4 : goal.returns-then-n-le4
returns-then-n-le4 c =
    let t = c.args in
    last_found t.image.now (λ k. omega (arith, c.type_inv.image k)) t.n t.end (omega arith) t.n (omega arith) c.four_numbers.ensures c.first_lanes.ensures c.bad_four-last.ensures

pub returns : goal.returns
returns c =
    let t = c.args in
    let bytes : (k : ℕ) → get_or t.image.now k 0 < 256 = λ k. omega (arith, c.type_inv.image k) in
    both_found t.image.now bytes t.n t.end (omega arith) (omega arith) (omega arith) c.bad_fours.ensures
    (last_found t.image.now bytes t.n t.end (omega arith) 4 (omega arith) c.four_numbers.ensures c.first_lanes.ensures c.bad_four-last.ensures)
