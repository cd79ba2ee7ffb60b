-- Two bytes as a name: what the tests of them say of it.
use Prim.Native.Nat.{ℕ, zero, suc, ◌^◌, ◌≤◌, ◌<◌}
use mathlib.Core.Path.{◌≡◌, refl, sym, ap, ◌∙◌}
use mathlib.Core.Logic.{◌↔◌}
use mathlib.Core.List.{[], ◌∷◌}
use native.Mathlib.Omega.{arith}
use borrow.Author.Tests.{ne_eqb}
use Rattle.image.specs.Layout.{largest, label_limit, name_from}
use Rattle.image.specs.Encode.{name_bytes}
use Rattle.image.specs.Made.{NameIn}
use Rattle.image.specs.declared.Meet.{Meet}
use Rattle.image.specs.declared.Name.TheVariants.{Never, With}
use Rattle.image.proofs.Encoding.{bytes_back}

with_not_never : {m : Meet} → With m ≡ Never → ⊥
with_not_never e = let z : ◌≡◌ {A = ℕ} 0 1 = cc in omega arith

-- it is no name exactly when there is no partner
pub never : (p l : ℕ) → (name_from p l ≡ Never) ↔ (p ≡ 0)
unfolding name_from
never zero l = (λ e. refl, λ e. refl)
never (suc p) l = rw (ne_eqb (suc p) 0 (λ e. omega arith)) (λ e. absurd (with_not_never e), λ e. absurd (omega arith))

-- the test of two bytes as a name in column c, as `passing` reads it
abbrev pub BytesIn : ℕ → ℕ → ℕ → ℕ → Type 0
BytesIn n c p l = (((p ≡ 0 → l ≡ 0) × (p ≤ n)) × (p ≡ c → ⊥)) × (l ≤ label_limit n)

pub name_in : (n c p l : ℕ) → 1 ≤ c → BytesIn n c p l ↔ ((p ≡ 0 → l ≡ 0) × NameIn n c (name_from p l))
unfolding name_from
name_in n c zero l k =
    (λ h. (h.0.0.0, tt), λ h. (((h.0, omega arith), λ e. omega arith), omega (arith, h.0 refl)))
name_in n c (suc p) l k =
    rw (ne_eqb (suc p) 0 (λ e. omega arith))
    (λ h. (h.0.0.0, (omega arith, h.0.0.1, h.0.1, h.1)), λ h. (((h.0, h.1.1), h.1.2), h.1.3))

-- two pairs of bytes that are one name
pub same_bytes : (p l q k : ℕ) → (p ≡ 0 → l ≡ 0) → (q ≡ 0 → k ≡ 0) → name_from p l ≡ name_from q k → (p ≡ q) × (l ≡ k)
same_bytes p l q k d e i =
    let b : p ∷ l ∷ [] ≡ q ∷ k ∷ [] = sym (bytes_back p l d) ∙ ap name_bytes i ∙ bytes_back q k e in
    (cc, cc)

-- the limit of labels: in six bits, and of eight heads in five
pub limit_bits : (n : ℕ) → n ≤ largest → label_limit n < 2 ^ 6
unfolding label_limit
limit_bits n l = omega arith

pub limit_five : (n : ℕ) → n ≤ 8 → label_limit n < 2 ^ 5
unfolding label_limit
limit_five n l = omega arith
