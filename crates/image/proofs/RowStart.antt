-- Where a row starts, by the bits of how many rows stand before it.
use Prim.Native.Nat.{ℕ, ◌+◌, ◌*◌, ◌<◌}
use mathlib.Core.Path.{◌≡◌, refl, ap}
use mathlib.Core.Bool.{Bool, true, false, cond}
use native.Mathlib.Omega.{arith}
use native.Mathlib.Nat.{add-mul}
use lib.Bits.{bit_and}
use lib.Dec.{eqb}
use Rattle.image.specs.Stalls.{some}
use Rattle.image.specs.Layout.{largest}
use Rattle.image.proofs.Tables.{table_rule}

-- a bit of k is not set
abbrev pub no_bit : ℕ → ℕ → Bool
no_bit k bit = eqb (bit_and k bit) 0

-- a number below the largest parlour is the sum of its four bits, by one test of all
four_bits : (k : ℕ) → k < largest → cond (no_bit k 1) 0 1 + cond (no_bit k 2) 0 2 + cond (no_bit k 4) 0 4 + cond (no_bit k 8) 0 8 ≡ k
unfolding some
four_bits = table_rule largest (λ k. cond (no_bit k 1) 0 1 + cond (no_bit k 2) 0 2 + cond (no_bit k 4) 0 4 + cond (no_bit k 8) 0 8) (λ k. k) refl

-- so many times m where a bit is set
taken : (b : Bool) (x m y : ℕ) → y ≡ x * m → cond b 0 y ≡ cond b 0 x * m
taken true x m y e = omega arith
taken false x m y e = e

pub by_bits : (k m : ℕ) → k < largest → cond (no_bit k 1) 0 m + cond (no_bit k 2) 0 (m + m) + cond (no_bit k 4) 0 (m + m + (m + m)) + cond (no_bit k 8) 0 (m + m + (m + m) + (m + m + (m + m))) ≡ k * m
by_bits k m l =
    let a : ℕ = cond (no_bit k 1) 0 1 in
    let b : ℕ = cond (no_bit k 2) 0 2 in
    let c : ℕ = cond (no_bit k 4) 0 4 in
    let d : ℕ = cond (no_bit k 8) 0 8 in
    omega (
      arith,
      taken (no_bit k 1) 1 m m (omega arith),
      taken (no_bit k 2) 2 m (m + m) (omega arith),
      taken (no_bit k 4) 4 m (m + m + (m + m)) (omega arith),
      taken (no_bit k 8) 8 m (m + m + (m + m) + (m + m + (m + m))) (omega arith),
      add-mul a b m,
      add-mul (a + b) c m,
      add-mul (a + b + c) d m,
      ap (λ x. x * m) (four_bits k l),
    )
