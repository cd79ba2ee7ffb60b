-- No row so far has a bad name in the eight columns behind column C.
use Rattle.std.proofs.Common.{false, ◌≡◌, ◌+◌, ◌-◌, ◌*◌, min}
use Rattle.image.specs.Stalls.{some}
use Rattle.image.specs.Columns.{bad_at}
use Rattle.image.proofs.names.bad_columns.Given as goal

abbrev pub invariant-loop : goal.invariant-loop
invariant-loop g l =
    (l.bad ≡ 0) × (l.at ≡ 4 + l.counter * (l.x.n + l.x.n)) × (some l.counter (λ r. some (min (l.x.n - g.row.C) 8) (λ j. bad_at l.x.bytes.now l.x.n r (g.row.C + j))) ≡ false)
