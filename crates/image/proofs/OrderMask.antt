-- The test of an order entry by masks.
use Prim.Native.Nat.{ℕ, ◌≤◌}
use mathlib.Core.Path.{◌≡◌, refl, sym, ◌∙◌}
use mathlib.Core.Bool.{not, ◌||◌}
use native.Mathlib.Omega.{arith}
use native.Mathlib.Decide.{ℕ_discrete}
use borrow.Author.Tests.{eq-eqb, ne_eqb}
use lib.Bits.{bit_and, bit_or, bit_xor, and_le_l, and_le_r, or_add_and}
use lib.Dec.{eqb}
use Rattle.image.proofs.Lanes.{xor_differ}

-- with more bits a number is no smaller, and the same only where it had them
or_more : (b x : ℕ) → b ≤ bit_or b x
or_more b x = omega (arith, or_add_and b x, and_le_r b x)

or_same : (b x : ℕ) → bit_and b x ≡ x → bit_or b x ≡ b
or_same b x e = omega (arith, or_add_and b x)

or_other : (b x : ℕ) → (bit_and b x ≡ x → ⊥) → bit_or b x ≡ b → ⊥
or_other b x f e = f (omega (arith, or_add_and b x))

-- a part of a number is the number with more bits just where it is the whole, and the bits were there
part_differs : (b set one mine : ℕ) → not (eqb (bit_and b set) (bit_or (bit_or b one) mine)) ≡ (not (eqb (bit_and b set) b) || (not (eqb (bit_and b one) one) || not (eqb (bit_and b mine) mine)))
part_differs b set one mine =
    elim (ℕ_discrete (bit_and b set) b) [
      | no f ↦ rw (ne_eqb (bit_and b set) b f, ne_eqb (bit_and b set) (bit_or (bit_or b one) mine) (λ e. f (omega (arith, and_le_l b set, or_more b one, or_more (bit_or b one) mine)))) refl
      | yes e ↦
          elim (ℕ_discrete (bit_and b one) one) [
            | no f ↦ rw (eq-eqb (bit_and b set) b e, ne_eqb (bit_and b one) one f, ne_eqb (bit_and b set) (bit_or (bit_or b one) mine) (λ i. or_other b one f (omega (arith, or_more b one, or_more (bit_or b one) mine)))) refl
            | yes i ↦
                rw (eq-eqb (bit_and b set) b e, eq-eqb (bit_and b one) one i, or_same b one i)
                (elim (ℕ_discrete (bit_and b mine) mine) [
                  | no f ↦ rw (ne_eqb (bit_and b mine) mine f, ne_eqb (bit_and b set) (bit_or b mine) (λ j. or_other b mine f (sym j ∙ e))) refl
                  | yes j ↦ rw (eq-eqb (bit_and b mine) mine j, eq-eqb (bit_and b set) (bit_or b mine) (e ∙ sym (or_same b mine j))) refl
                ])
          ]
    ]

pub differs : (b set one mine : ℕ) → not (eqb (bit_xor (bit_and b set) (bit_or (bit_or b one) mine)) 0) ≡ (not (eqb (bit_and b set) b) || (not (eqb (bit_and b one) one) || not (eqb (bit_and b mine) mine)))
differs b set one mine = xor_differ (bit_and b set) (bit_or (bit_or b one) mine) ∙ part_differs b set one mine
