-- Loops that gather the stalls of 1 to n that pass a test into a set.
use Prim.Native.Nat.{ℕ, zero, suc, ◌+◌, ◌-◌, ◌^◌, ◌≤◌, ◌<◌}
use mathlib.Core.Path.{◌≡◌, refl, sym, ap₂, ◌∙◌}
use mathlib.Core.Bool.{Bool, cond}
use native.Mathlib.Omega.{arith}
use native.Mathlib.Nat.{pow-succ'}
use lib.Pow.{pow_mono}
use Rattle.image.specs.Stalls.{bits}
use Rattle.image.proofs.Bits.{bits_lt}

-- the bit of stall s, doubling as s goes up
pub record Bit (one s : ℕ) : Type 0 where
  pub from : 1 ≤ s
  pub is : one ≡ 2 ^ (s - 1)

pub bit_start : Bit 1 1
bit_start = record { from = omega arith; is = refl }

power_next : (s : ℕ) → 1 ≤ s → 2 ^ (s + 1 - 1) ≡ 2 ^ (s - 1) + 2 ^ (s - 1)
power_next zero l = absurd (omega arith)
power_next (suc s) l =
    let a : suc s + 1 - 1 ≡ suc s = omega arith in
    let b : suc s - 1 ≡ s = omega arith in
    rw (a, b) (omega (arith, pow-succ' 2 s))

pub bit_next : {one s : ℕ} → Bit one s → Bit (one + one) (s + 1)
bit_next {s = s} w = record { from = omega arith; is = omega (arith, power_next s w.from, w.is) }

-- the bit of a stall of 1 to m is at most the m-th
pub bit_le : {one s : ℕ} (m : ℕ) → Bit one s → s ≤ m + 1 → one ≤ 2 ^ m
bit_le {s = s} m w l = omega (arith, pow_mono {i = s - 1} {j = m} (omega arith), w.is)

-- the stalls below s are gathered
pub record Gathered (s set : ℕ) (f : ℕ → Bool) : Type 0 where
  pub so_far : set ≡ bits (s - 1) f

pub gather_start : (f : ℕ → Bool) → Gathered 1 0 f
unfolding bits
gather_start f = record { so_far = refl }

bits_suc : (s : ℕ) (f : ℕ → Bool) → 1 ≤ s → bits (s + 1 - 1) f ≡ bits (s - 1) f + cond (f s) (2 ^ (s - 1)) 0
unfolding bits
bits_suc zero f l = absurd (omega arith)
bits_suc (suc s) f l =
    let a : suc s + 1 - 1 ≡ suc s = omega arith in
    let b : suc s - 1 ≡ s = omega arith in
    rw (a, b) refl

pub gather_next : {s one set : ℕ} {f : ℕ → Bool} → Gathered s set f → Bit one s → (t : Bool) {x : ℕ} → x ≡ cond t one 0 → t ≡ f s → Gathered (s + 1) (set + x) f
gather_next {s} {f = f} w b t e d =
    record { so_far = ap₂ ◌+◌ w.so_far (e ∙ ap₂ (λ t o. cond t o 0) d b.is) ∙ sym (bits_suc s f b.from) }

-- what is gathered lies below the next bit
pub gathered_lt : {s one set : ℕ} {f : ℕ → Bool} → Gathered s set f → Bit one s → set < one
gathered_lt {s} {f = f} w b = omega (arith, bits_lt (s - 1) f, w.so_far, b.is)
