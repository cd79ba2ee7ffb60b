-- The stalls 1 to n: some of them, each of them in turn, how many of them, and a set of them as a number.
use Rattle.std.specs.Prelude.{ℕ, zero, suc, ◌+◌, ◌-◌, ◌/◌, ◌%◌, ◌^◌, Bool, false, ◌&&◌, ◌||◌, cond, List, [], ◌++◌, leb, eqb}
use Rattle.std.specs.Int.Bits.{bit_and}

-- some of 1 to n passes the test
unfoldable pub some : ℕ → (ℕ → Bool) → Bool
some zero f = false
some (suc n) f = f (suc n) || some n f

-- f 1, f 2, .., f n, one after the other
unfoldable pub each : ℕ → (ℕ → List ℕ) → List ℕ
each zero f = []
each (suc n) f = each n f ++ f (suc n)

-- how many of 0 to t - 1 pass a test, and how many stalls of 1 to n
unfoldable pub count : ℕ → (ℕ → Bool) → ℕ
count zero u = 0
count (suc t) u = count t u + cond (u t) 1 0

abbrev pub count_stalls : ℕ → (ℕ → Bool) → ℕ
count_stalls n f = count n (λ k. f (suc k))

-- the stalls that pass the test, as a number: the bit of value 2 to the power s - 1 for stall s
unfoldable pub bits : ℕ → (ℕ → Bool) → ℕ
bits zero f = 0
bits (suc n) f = bits n f + cond (f (suc n)) (2 ^ n) 0

-- the number has the bit of stall s
unfoldable pub has : ℕ → ℕ → Bool
has b s = eqb (b / 2 ^ (s - 1) % 2) 1

-- what a set has and another has not
abbrev pub without : ℕ → ℕ → ℕ
without a b = a - bit_and a b

-- the bit of stall s by itself; nothing where there is no such bit in 64
unfoldable pub bit_of : ℕ → ℕ
bit_of s = cond (leb 1 s && leb s 64) (2 ^ (s - 1)) 0
