-- A number as lanes of so many bits, the first the lowest: what a word of 64 bits holds of names, yields or order entries. Contracts inside the crate alone
-- speak of it.
use Rattle.std.specs.Prelude.{ℕ, zero, suc, ◌+◌, ◌*◌, ◌/◌, ◌%◌, ◌^◌, cond, eqb}

-- the number with these k lanes
unfoldable pub lanes : ℕ → ℕ → (ℕ → ℕ) → ℕ
lanes width zero f = 0
lanes width (suc k) f = lanes width k (λ i. f (suc i)) * 2 ^ width + f 0

-- a lane of a number
unfoldable pub lane : ℕ → ℕ → ℕ → ℕ
lane width x i = x / 2 ^ (width * i) % 2 ^ width

-- a number, or the next one that four divides
abbrev pub fours : ℕ → ℕ
fours m = (m + 3) / 4 * 4

-- four pairs of bytes in a word, such as four names
unfoldable pub pairs : (ℕ → ℕ) → (ℕ → ℕ) → ℕ
pairs f g = lanes 8 8 (λ i. cond (eqb (i % 2) 0) (f (i / 2)) (g (i / 2)))
