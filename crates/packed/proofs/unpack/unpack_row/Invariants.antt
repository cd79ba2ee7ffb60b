-- The names of a row, unpacked.
use Rattle.std.proofs.Common.{ℕ, ◌≡◌, ◌+◌, ◌-◌, ◌*◌, ◌≤◌, List, length, get_or}
use Rattle.image.specs.Encode.{name_bytes}
use Rattle.image.proofs.Blocks.{blocks}
use Rattle.packed.specs.Form.{name_of}
use Rattle.packed.proofs.unpack.unpack_row.Given as goal

-- the two bytes of column c of the row that starts at a place
abbrev pub column : List ℕ → ℕ → ℕ → List ℕ
column s from c = name_bytes (name_of c (get_or s (from + (c - 1)) 0))

abbrev pub invariant-loop-c : goal.invariant-loop-c
invariant-loop-c l =
    (l.c ≤ l.n) × (l.place ≡ l.fn.to + l.c * 2) × (l.image ≡ blocks l.initial.image l.fn.to 2 (column l.packed l.from) l.c)
    × (length l.image ≡ length l.initial.image)
