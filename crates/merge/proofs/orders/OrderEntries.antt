-- The order entries that the code puts together from sets are those of the tables.
use Prim.Native.Nat.{ℕ, ◌%◌, ◌≤◌, ◌<◌}
use mathlib.Core.Path.{◌≡◌, refl, ap, ◌∙◌}
use mathlib.Core.Bool.{Bool}
use mathlib.Core.List.{List}
use native.Mathlib.Omega.{arith}
use lib.Pow.{pow_mono}
use Rattle.image.specs.Stalls.{bits}
use Rattle.image.specs.Layout.{largest, order_at, mark_at}
use Rattle.image.specs.Encode.{table_of}
use Rattle.image.proofs.Bits.{bits_lt}
use Rattle.merge.specs.declared.Sets.{Sets}
use Rattle.merge.specs.ByStall.{ByStall}
use Rattle.merge.specs.Orders.{Sorted, order_of, Ordered}
use Rattle.merge.proofs.orders.Marks.{order_is}

-- a set of 1 to n fits an order entry by value
fits : (n : ℕ) (f : ℕ → Bool) → n ≤ largest → bits n f % 65536 ≡ bits n f
fits n f l =
    let a : bits n f < 65536 = omega (arith, bits_lt n f, pow_mono {i = n} {j = largest} l) in
    omega arith

pub ordered : (s u : List ℕ) (n p q : ℕ) (x : Sets) (out : List ℕ) → n ≤ largest → Sorted n p (table_of s n) q (table_of u n) x
    → ByStall 0 largest n (λ r. order_of x r (order_at s n r) (order_at u n r) % 65536) out → Ordered s u n p q out
unfolding table_of mark_at
ordered s u n p q x out l w o =
    record {
      long = o.long;
      right = λ r i j.
          o.right r i j
          ∙ ap (λ k. k % 65536) (order_is n p (table_of s n) q (table_of u n) x w r i j (order_at s n r) (order_at u n r) (λ t c d. refl) (λ t c d. refl))
          ∙ fits n _ l;
    }
