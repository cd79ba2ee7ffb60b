-- The label of a name as a set.
use Prim.Native.Nat.{ℕ, ◌+◌, ◌-◌, ◌^◌, ◌≤◌, ◌<◌}
use mathlib.Core.Path.{◌≡◌, refl, sym, ap, ◌∙◌}
use mathlib.Core.Bool.{Bool, true, false, cond}
use native.Mathlib.Omega.{arith}
use borrow.Author.Tests.{lt-ltb, le-ltb}
use lib.Dec.{eqb, ltb}
use Rattle.image.specs.Stalls.{bit_of}
use Rattle.image.specs.Layout.{name_from}
use Rattle.image.proofs.Bits.{bit_of_is}
use Rattle.merge.specs.Label.{is_meeting}
use Rattle.merge.specs.LabelSet.{label_set}
use Rattle.merge.proofs.label.LabelSets.{set_meeting}
use Rattle.merge.proofs.label.label_of.Goals as goal

nothing : (b : Bool) → ◌≡◌ {A = ℕ} (cond b 0 0) 0
nothing true = refl
nothing false = refl

module _ (partner label stall : ℕ) (l : 1 ≤ stall) where
  over : 63 < label → 0 ≡ label_set (λ k. is_meeting stall k (name_from partner label))
  over m = sym (set_meeting stall partner label l ∙ ap (λ b. cond (eqb partner stall) (cond b (2 ^ label) 0) 0) (le-ltb label 64 (omega arith)) ∙ nothing (eqb partner stall))

  within : label ≤ 63 → {r x : ℕ} → r ≡ cond (eqb partner stall) x 0 → x ≡ bit_of (label + 1) → r ≡ label_set (λ k. is_meeting stall k (name_from partner label))
  within m {r} {x} e d =
      let i : label + 1 - 1 ≡ label = omega arith in
      let b : x ≡ cond (ltb label 64) (2 ^ label) 0 = rw (lt-ltb label 64 (omega arith)) (d ∙ bit_of_is (omega arith) (omega arith) ∙ ap (λ k. 2 ^ k) i) in
      e ∙ ap (λ y. cond (eqb partner stall) y 0) b ∙ sym (set_meeting stall partner label l)

pub returns-then-label-gt63 : goal.returns-then-label-gt63
returns-then-label-gt63 c = over _ _ _ c.requires c.if-label-gt63.true

pub returns-else-label-gt63 : goal.returns-else-label-gt63
returns-else-label-gt63 c = within _ _ _ c.requires c.if-label-gt63.false c.pick.ensures.0 c.bit_of.ensures
