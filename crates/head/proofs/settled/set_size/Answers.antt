-- How many stalls of 1 to n a set has: the digits set below the bit behind those of n stalls.
use Prim.Native.Nat.{ℕ, suc, ◌+◌, ◌-◌, ◌≤◌, ◌<◌}
use mathlib.Core.Path.{◌≡◌, ap, ◌∙◌}
use native.Mathlib.Omega.{arith}
use lib.Bits.{bit_and, and_mask}
use lib.Count.{ones}
use lib.Pow.{pow_pos}
use Rattle.image.specs.Stalls.{count_stalls, has, bit_of}
use Rattle.image.proofs.Bits.{ones_count}
use Rattle.image.proofs.Counts.{count_le}
use Rattle.image.proofs.StallSets.{next_bit}
use Rattle.head.proofs.settled.set_size.Goals as goal

counted : (set n : ℕ) {bit : ℕ} → n < 64 → bit ≡ bit_of (n + 1)
    → (ones (bit_and set (bit - 1)) ≡ count_stalls n (has set)) × (ones (bit_and set (bit - 1)) ≤ n)
counted set n l e =
    let is = ap (λ b. ones (bit_and set (b - 1))) (e ∙ next_bit n l) ∙ ap ones (and_mask set n) ∙ ones_count n set in
    (is, omega (arith, is, count_le n (λ k. has set (suc k))))

pub overflow_sub-result : goal.overflow_sub-result
overflow_sub-result c = omega (arith, c.bit_of.ensures, next_bit c.args.n (omega arith), pow_pos c.args.n)

pub returns : goal.returns
returns c = counted c.args.set c.args.n (omega arith) c.bit_of.ensures
