-- The labels of the names of a pair in a row.
use Prim.Native.Nat.{ℕ}
use mathlib.Core.Path.{◌≡◌, ap, ap₂, ◌∙◌}
use mathlib.Core.Bool.{◌||◌}
use mathlib.Core.List.{List}
use lib.Bits.{bit_or}
use Rattle.merge.specs.LabelSet.{label_set, name_has}
use Rattle.merge.proofs.label.LabelSets.{set_or}
use Rattle.merge.proofs.label.row_labels.Goals as goal

both : (s : List ℕ) (row p q a b x y : ℕ) → a ≡ p → b ≡ q → x ≡ label_set (name_has s row a q) → y ≡ label_set (name_has s row b p)
    → bit_or x y ≡ label_set (λ k. name_has s row p q k || name_has s row q p k)
both s row p q a b x y i j d e =
    ap₂ bit_or (d ∙ ap (λ c. label_set (name_has s row c q)) i) (e ∙ ap (λ c. label_set (name_has s row c p)) j) ∙ set_or (name_has s row p q) (name_has s row q p)

pub returns : goal.returns
returns c = both c.args.image.now c.args.row _ _ _ _ _ _ c.from.ensures c.from-2.ensures c.label_of.ensures c.label_of-2.ensures
