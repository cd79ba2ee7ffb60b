-- Decimal numbers in ASCII, the highest digit first, written and read.
-- Request 2026-08: "numbers without leading zeros".
use Rattle.std.specs.Prelude.{ℕ, zero, suc, ◌+◌, ◌-◌, ◌*◌, ◌/◌, ◌%◌, cond, List, [], ◌∷◌, ◌++◌, ltb}

-- the digit of 0 to 9
abbrev pub digit : ℕ → ℕ
digit d = 48 + d

-- the digits of k, where it has no more than so many places: those of its tens, then its last one
unfoldable pub digits_in : ℕ → ℕ → List ℕ
digits_in zero k = []
digits_in (suc places) k = cond (ltb k 10) (digit k ∷ []) (digits_in places (k / 10) ++ (digit (k % 10) ∷ []))

-- the digits of k: k + 1 places are enough
unfoldable pub decimal : ℕ → List ℕ
decimal k = digits_in (suc k) k

-- the number that digits stand for, behind those that stand for k
unfoldable pub read_behind : ℕ → List ℕ → ℕ
read_behind k [] = k
read_behind k (c ∷ l) = read_behind (k * 10 + (c - 48)) l

abbrev pub read_number : List ℕ → ℕ
read_number = read_behind 0
