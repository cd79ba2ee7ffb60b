-- The label of a meeting.
use Prim.Native.Nat.{ℕ}
use mathlib.Core.Path.{◌≡◌, ap₂, ◌∙◌}
use mathlib.Core.List.{List}
use native.Mathlib.Omega.{arith}
use lib.Bits.{bit_or}
use Rattle.image.specs.Stalls.{some}
use Rattle.image.specs.Encode.{table_of}
use Rattle.image.specs.Frame.{Framed}
use Rattle.merge.specs.Label.{row_has, lowest_from, new_label}
use Rattle.merge.specs.LabelSet.{label_set, has_label}
use Rattle.merge.proofs.label.Lowest.{lowest_to}
use Rattle.merge.proofs.label.NewLabel.{label_chosen}
use Rattle.merge.proofs.label.new_label.Goals as goal

chosen : (s t : List ℕ) (n m p q : ℕ) {r x y : ℕ} → Framed s n p → n ≡ m
    → x ≡ label_set (λ k. some n (row_has p q (table_of s n) k)) → y ≡ label_set (λ k. some m (row_has p q (table_of t m) k))
    → r ≡ lowest_from 64 0 (has_label (bit_or x y)) → r ≡ new_label n p (table_of s n) q (table_of t n)
chosen s t n m p q f i d e g =
    g ∙ ap₂ (λ x y. lowest_from 64 0 (has_label (bit_or x y))) d (rw (← i) at e)
    ∙ label_chosen n p (table_of s n) q (table_of t n) (omega (arith, f.n_to))

pub overflow_cast-result : goal.overflow_cast-result
overflow_cast-result c = omega (arith, c.lowest_free.ensures, lowest_to 64 0 (has_label (bit_or c.used_labels.result c.used_labels-2.result)))

pub returns : goal.returns
returns c =
    let x = c.args.x.now in
    chosen x.first.bytes.now x.second.bytes.now _ _ _ _ x.first.framed x.one_size c.used_labels.ensures c.used_labels-2.ensures c.lowest_free.ensures
