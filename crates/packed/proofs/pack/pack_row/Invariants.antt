-- The names of a row, packed.
use Rattle.std.proofs.Common.{ℕ, ◌≡◌, ◌+◌, ◌-◌, ◌*◌, ◌%◌, ◌≤◌, List, [], ◌∷◌, length, get_or}
use Rattle.image.specs.Layout.{name_from}
use Rattle.image.proofs.Blocks.{blocks}
use Rattle.packed.specs.Form.{name_byte}
use Rattle.packed.proofs.pack.pack_row.Given as goal

-- the byte of column c of the row that starts at a place
abbrev pub column : List ℕ → ℕ → ℕ → List ℕ
column s from c = name_byte c (name_from (get_or s (from + (c - 1) * 2) 0) (get_or s (from + (c - 1) * 2 + 1) 0)) % 256 ∷ []

abbrev pub invariant-loop-c : goal.invariant-loop-c
invariant-loop-c l =
    (l.c ≤ l.n) × (l.place ≡ l.fn.from + l.c * 2) × (l.packed ≡ blocks l.initial.packed l.to 1 (column l.image l.fn.from) l.c)
    × (length l.packed ≡ length l.initial.packed)
