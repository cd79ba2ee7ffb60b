-- Where things stand in an image, and that they lie within it.
use Prim.Native.Nat.{ℕ, ◌+◌, ◌≤◌}
use mathlib.Core.Path.{◌≡◌, ap, ◌∙◌}
use native.Mathlib.Omega.{arith}
use native.Mathlib.Nat.{mul-le-mul_right}
use Rattle.image.specs.Layout.{row_place, yields_place, orders_place, image_length, orders_from, yields_from}
use Rattle.image.proofs.Search.{times_step}

-- a row ends before the yields
pub row_within : {n r : ℕ} → 1 ≤ r → r ≤ n → row_place n r + (n + n) ≤ yields_place n
row_within {n} {r} a b = omega (arith, times_step r (n + n) a, mul-le-mul_right (n + n) b)

-- where the order entries and the yields of an image start, counted from its end
module _ {long n m at : ℕ} (is : long ≡ image_length n) (e : m ≡ n) where
  pub orders_from_lem : at ≡ orders_from long m → at ≡ orders_place n
  orders_from_lem i = i ∙ ap (orders_from long) e ∙ omega (arith, is)

  pub yields_from_lem : at ≡ yields_from long m → at ≡ yields_place n
  yields_from_lem i = i ∙ ap (yields_from long) e ∙ omega (arith, is)

pub ruleset from_end = (orders_from_lem, yields_from_lem)
