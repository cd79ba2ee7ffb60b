-- The table of lengths follows its rule, by one test of the whole table.
use Prim.Native.Nat.{ℕ, suc, ◌<◌}
use mathlib.Core.Path.{◌≡◌, refl}
use mathlib.Core.List.{List, [], ◌∷◌}
use lib.ListN.{get_or}
use Rattle.image.specs.Stalls.{some}
use Rattle.image.specs.Layout.{length_of, largest, order_width}
use Rattle.image.proofs.Tables.{table_rule}

abbrev pub lengths : List ℕ
lengths = 0 ∷ 0 ∷ 18 ∷ 31 ∷ 48 ∷ 69 ∷ 94 ∷ 123 ∷ 156 ∷ 202 ∷ 244 ∷ 290 ∷ 340 ∷ 394 ∷ 452 ∷ 514 ∷ 580 ∷ []

pub rule : (k : ℕ) → k < suc largest → get_or lengths k 0 ≡ length_of k
unfolding some order_width
rule = table_rule (suc largest) (λ k. get_or lengths k 0) length_of refl
