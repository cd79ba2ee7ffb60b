-- The row that starts at a place has a name.
use Rattle.std.proofs.Common.{◌≡◌, ◌+◌, ◌-◌, ◌*◌, not, eqb, get_or}
use Rattle.image.specs.Stalls.{some}
use Rattle.image.proofs.names.some_in_row.Given as goal

abbrev pub invariant-loop-c : goal.invariant-loop-c
invariant-loop-c l = l.found ≡ some l.c (λ c. not (eqb (get_or l.image (l.at + (c - 1) * 2) 0) 0))
