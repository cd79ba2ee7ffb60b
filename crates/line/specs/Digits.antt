-- Lines as bytes, and bytes as lines.
-- Document 01: "one frame of hexadecimal digits a line"; a line has "whole pairs of digits 0-9, a-f".
use Rattle.std.specs.Prelude.{ℕ, ◌+◌, ◌-◌, ◌*◌, ◌/◌, ◌%◌, Bool, true, ◌&&◌, ◌||◌, cond, leb, ltb, eqb, length}
use mathlib.Core.List.{List, [], ◌∷◌, flat_map}

-- one of the digits 0-9 (48 to 57) and a-f (97 to 102), in ASCII
unfoldable pub is_digit : ℕ → Bool
is_digit c = (leb 48 c && leb c 57) || (leb 97 c && leb c 102)

-- what a digit stands for
unfoldable pub digit_value : ℕ → ℕ
digit_value c = cond (leb c 57) (c - 48) (c - 87)

unfoldable pub all_digits : List ℕ → Bool
all_digits [] = true
all_digits (c ∷ l) = is_digit c && all_digits l

-- "whole pairs of digits"
unfoldable pub whole_pairs : List ℕ → Bool
whole_pairs line = all_digits line && eqb (length line % 2) 0

-- the byte of two digits
unfoldable pub pair_value : ℕ → ℕ → ℕ
pair_value a b = digit_value a * 16 + digit_value b

-- the bytes of a line of whole pairs
unfoldable pub bytes_of : List ℕ → List ℕ
bytes_of [] = []
bytes_of (a ∷ []) = []
bytes_of (a ∷ b ∷ l) = pair_value a b ∷ bytes_of l

-- the digit of a value below 16, and the two digits of a byte
unfoldable pub digit_of : ℕ → ℕ
digit_of v = cond (ltb v 10) (48 + v) (87 + v)

abbrev pub pair_of : ℕ → List ℕ
pair_of b = digit_of (b / 16) ∷ digit_of (b % 16) ∷ []

-- the digits of some bytes
unfoldable pub digits_of : List ℕ → List ℕ
digits_of = flat_map pair_of
