-- Sets of labels as numbers.
use Prim.Native.Nat.{ℕ, ◌+◌, ◌-◌, ◌^◌, ◌≤◌, ◌<◌}
use mathlib.Core.Path.{◌≡◌, refl, sym, ap, ap₂, ◌∙◌}
use mathlib.Core.Bool.{Bool, true, false, ◌&&◌, ◌||◌, cond}
use native.Mathlib.Omega.{arith}
use native.Mathlib.Decide.{ℕ_discrete, dec_lt}
use borrow.Author.Tests.{eq-eqb, ne_eqb, eqb-true, lt-ltb, le-ltb, le-leb, lt-leb}
use lib.Dec.{eqb, leb, ltb}
use lib.Bits.{bit_or}
use Rattle.image.specs.Layout.{name_from}
use Rattle.image.specs.declared.Name.TheVariants.{Never, With}
use Rattle.image.proofs.Bits.{has_bits, bits_agree, bits_none}
use Rattle.image.proofs.StallSets.{or_bits, single_bits}
use Rattle.merge.specs.Label.{is_meeting}
use Rattle.merge.specs.LabelSet.{label_set, has_label}

-- two tests that agree make the same set
pub set_agree : {f g : ℕ → Bool} → ((k : ℕ) → f k ≡ g k) → label_set f ≡ label_set g
unfolding label_set
set_agree {f} {g} e = bits_agree 64 (λ s. f (s - 1)) (λ s. g (s - 1)) (λ s i j. e (s - 1))

-- which labels a set has
pub has_label_lem : (f : ℕ → Bool) (k : ℕ) → k < 64 → has_label (label_set f) k ≡ f k
unfolding label_set
has_label_lem f k l =
    let e : k + 1 - 1 ≡ k = omega arith in
    has_bits 64 (λ s. f (s - 1)) (k + 1) (omega arith) ∙ ap₂ (λ b j. b && f j) (le-leb (k + 1) 64 (omega arith)) e

-- the labels of one or the other
pub set_or : (f g : ℕ → Bool) → bit_or (label_set f) (label_set g) ≡ label_set (λ k. f k || g k)
unfolding label_set
set_or f g = or_bits 64 (λ s. f (s - 1)) (λ s. g (s - 1))

-- none
pub set_none : 0 ≡ label_set (λ k. false)
unfolding label_set
set_none = sym (bits_none 64)

-- one label
pub set_one : (l : ℕ) → label_set (eqb l) ≡ cond (ltb l 64) (2 ^ l) 0
unfolding label_set
set_one l =
    bits_agree 64 (λ s. eqb l (s - 1)) (λ s. eqb s (l + 1)) label_stall ∙ single_bits 64 (l + 1) (omega arith) ∙ ap₂ (λ t k. cond t (2 ^ k) 0) within (omega arith)
  where
    label_stall : (s : ℕ) → 1 ≤ s → s ≤ 64 → eqb l (s - 1) ≡ eqb s (l + 1)
    label_stall s a b =
        elim (ℕ_discrete s (l + 1)) [
          | yes i ↦ eq-eqb l (s - 1) (omega arith) ∙ sym (eq-eqb s (l + 1) i)
          | no i ↦ ne_eqb l (s - 1) (λ j. i (omega arith)) ∙ sym (ne_eqb s (l + 1) i)
        ]

    within : leb (l + 1) 64 ≡ ltb l 64
    within =
        elim (dec_lt l 64) [
          | yes i ↦ le-leb (l + 1) 64 (omega arith) ∙ sym (lt-ltb l 64 i)
          | no i ↦ lt-leb (l + 1) 64 (omega arith) ∙ sym (le-ltb l 64 (omega arith))
        ]

-- the label of a name, if the name is the meeting with a stall
meeting_test : (stall partner label k : ℕ) → 1 ≤ stall → is_meeting stall k (name_from partner label) ≡ (eqb partner stall && eqb label k)
unfolding name_from
meeting_test stall partner label k l = go (eqb partner 0) refl
  where
    go : (b : Bool) → eqb partner 0 ≡ b → is_meeting stall k (cond b Never (With (record { partner = partner; label = label }))) ≡ (eqb partner stall && eqb label k)
    go true e = sym (ap (λ b. b && eqb label k) (ne_eqb partner stall (λ i. omega (arith, eqb-true partner 0 e))))
    go false e = refl

pub set_meeting : (stall partner label : ℕ) → 1 ≤ stall
    → label_set (λ k. is_meeting stall k (name_from partner label)) ≡ cond (eqb partner stall) (cond (ltb label 64) (2 ^ label) 0) 0
set_meeting stall partner label l = set_agree (λ k. meeting_test stall partner label k l) ∙ go (eqb partner stall)
  where
    go : (b : Bool) → label_set (λ k. b && eqb label k) ≡ cond b (cond (ltb label 64) (2 ^ label) 0) 0
    go true = set_one label
    go false = sym set_none
