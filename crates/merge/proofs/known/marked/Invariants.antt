-- The stalls with an order mark to one of a set.
use Rattle.std.proofs.Common.{◌≡◌, ◌+◌, not, eqb}
use Rattle.std.specs.Int.Bits.{bit_and}
use Rattle.image.specs.Layout.{order_place, order_at}
use Rattle.image.proofs.Gather.{Bit, Gathered}
use Rattle.merge.proofs.known.marked.Given as goal

abbrev pub invariant-loop : goal.invariant-loop
invariant-loop l =
    (l.at ≡ order_place l.n (l.counter + 1)) × Bit l.one (l.counter + 1) × Gathered (l.counter + 1) l.out (λ r. not (eqb (bit_and (order_at l.x.bytes.now l.n r) l.set) 0))
