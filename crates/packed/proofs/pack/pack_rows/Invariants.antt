-- The names of all rows, packed.
use Rattle.std.proofs.Common.{◌≡◌, ◌+◌, ◌*◌, ◌≤◌, length}
use Rattle.image.proofs.Blocks.{blocks}
use Rattle.packed.specs.Bytes.{packed_row}
use Rattle.packed.proofs.pack.pack_rows.Given as goal

abbrev pub invariant-loop : goal.invariant-loop
invariant-loop l =
    (l.counter ≤ l.n) × (l.from ≡ 4 + l.counter * (l.n + l.n)) × (l.to ≡ 4 + l.counter * l.n) × (l.packed ≡ blocks l.initial.packed 4 l.n (packed_row l.image l.n) l.counter)
    × (length l.packed ≡ length l.initial.packed)
