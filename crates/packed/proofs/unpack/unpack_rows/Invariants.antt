-- The names of all rows, unpacked.
use Rattle.std.proofs.Common.{◌≡◌, ◌+◌, ◌*◌, ◌≤◌, length}
use Rattle.image.proofs.Blocks.{blocks}
use Rattle.packed.specs.Form.{unpacked_row}
use Rattle.packed.proofs.unpack.unpack_rows.Given as goal

abbrev pub invariant-loop : goal.invariant-loop
invariant-loop l =
    (l.counter ≤ l.n) × (l.from ≡ 4 + l.counter * l.n) × (l.to ≡ 4 + l.counter * (l.n + l.n)) × (l.image ≡ blocks l.initial.image 4 (l.n + l.n) (unpacked_row l.packed l.n) l.counter)
    × (length l.image ≡ length l.initial.image)
