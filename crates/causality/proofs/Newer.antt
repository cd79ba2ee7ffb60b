-- Whose news is newer, by the order of two places.
use Prim.Native.Nat.{ℕ, ◌≤◌, ◌<◌}
use mathlib.Core.Path.{◌≡◌}
use native.Mathlib.Omega.{arith}
use native.Mathlib.Decide.{dec_lt}
use borrow.Author.Tests.{lt-ltb, le-ltb}
use Rattle.causality.specs.Best.{newer}

pub newer_first : {a b : ℕ} → b < a → newer a b ≡ 1
unfolding newer
newer_first {a} {b} l = rw (lt-ltb b a l)

pub newer_second : {a b : ℕ} → a < b → newer a b ≡ 2
unfolding newer
newer_second {a} {b} l = rw (le-ltb b a (omega arith), lt-ltb a b l)

pub newer_equal : {a b : ℕ} → a ≡ b → newer a b ≡ 0
unfolding newer
newer_equal {a} {b} e = rw (le-ltb b a (omega arith), le-ltb a b (omega arith))

-- there are three verdicts, and which it is says how the two places stand
pub data Newer (a b : ℕ) : ℕ → Type 0 where
  by_first : b < a → Newer a b 1
  by_second : a < b → Newer a b 2
  by_neither : a ≡ b → Newer a b 0

pub newer_is : (a b : ℕ) → Newer a b (newer a b)
newer_is a b =
    elim (dec_lt b a) [
      | yes l ↦ rw (newer_first l) (by_first l)
      | no f ↦ elim (dec_lt a b) [
        | yes l ↦ rw (newer_second l) (by_second l)
        | no g ↦ let e : a ≡ b = omega arith in rw (newer_equal e) (by_neither e)
      ]
    ]

pub newer_in : (a b : ℕ) → newer a b ≤ 2
newer_in a b = go (newer_is a b)
  where
    go : {k : ℕ} → Newer a b k → k ≤ 2
    go (by_first l) = omega arith
    go (by_second l) = omega arith
    go (by_neither e) = omega arith
