-- The table of lengths follows its rule, by one test of the whole table.
use Prim.Native.Nat.{ℕ, suc, ◌<◌}
use mathlib.Core.Path.{◌≡◌, refl}
use mathlib.Core.List.{List, [], ◌∷◌}
use lib.ListN.{get_or}
use Rattle.image.specs.Stalls.{some}
use Rattle.image.proofs.Tables.{table_rule}
use Rattle.packed.specs.Form.{largest_packed, packed_length}

abbrev pub lengths : List ℕ
lengths = 0 ∷ 0 ∷ 14 ∷ 22 ∷ 32 ∷ 44 ∷ 58 ∷ 74 ∷ 92 ∷ []

pub rule : (k : ℕ) → k < suc largest_packed → get_or lengths k 0 ≡ packed_length k
unfolding some
rule = table_rule (suc largest_packed) (λ k. get_or lengths k 0) packed_length refl
