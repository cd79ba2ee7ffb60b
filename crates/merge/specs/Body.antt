-- What both images hold after a meeting from byte 4 on, said of bytes: for the functions that build and write it. `Merged` says what it means.
-- s and u are the images of the heads at stalls p and q, t tells which stalls come from the second, and k is the label.
use Rattle.std.specs.Prelude.{ℕ, ◌+◌, ◌-◌, ◌*◌, Bool, ◌||◌, cond, List, [], ◌∷◌, ◌++◌, eqb, get_or, take, drop, replicate}
use Rattle.image.specs.Stalls.{each, bits}
use Rattle.image.specs.Encode.{order_bytes, table_of}
use Rattle.image.specs.Layout.{row_place, yield_place, longest_row}
use Rattle.merge.specs.Merged.{merged_order}
use Rattle.merge.specs.declared.pairs.Pair.{Pair}
use Rattle.merge.specs.declared.pairs.Side.{Side}

-- the image that stall r comes from, and the stall of its head
abbrev pub source_of : List ℕ → List ℕ → (ℕ → Bool) → ℕ → List ℕ
source_of s u t r = cond (t r) u s

abbrev pub source_stall : ℕ → ℕ → (ℕ → Bool) → ℕ → ℕ
source_stall p q t r = cond (t r) q p

-- the two bytes at a place
abbrev pub pair_at : List ℕ → ℕ → List ℕ
pair_at s at = get_or s at 0 ∷ get_or s (at + 1) 0 ∷ []

-- the new list of latests, column by column
unfoldable pub latest_pair : List ℕ → List ℕ → ℕ → ℕ → ℕ → ℕ → (ℕ → Bool) → ℕ → List ℕ
latest_pair s u n p q k t c =
    cond (eqb c p) (q ∷ k ∷ [])
    (cond (eqb c q) (p ∷ k ∷ [])
    (pair_at (source_of s u t c) (row_place n (source_stall p q t c) + (c - 1) * 2)))

-- row r: the new list for the two that met, the row of the supplier for any other
unfoldable pub body_row : List ℕ → List ℕ → ℕ → ℕ → ℕ → ℕ → (ℕ → Bool) → ℕ → List ℕ
body_row s u n p q k t r =
    cond (eqb r p || eqb r q) (each n (latest_pair s u n p q k t)) (take (n * 2) (drop (row_place n r) (source_of s u t r)))

-- the yield of stall r: the current one for the two that met
unfoldable pub body_yield : List ℕ → List ℕ → ℕ → ℕ → ℕ → (ℕ → Bool) → ℕ → List ℕ
body_yield s u n p q t r =
    cond (eqb r p) (pair_at s 2) (cond (eqb r q) (pair_at u 2) (pair_at (source_of s u t r) (yield_place n r)))

-- two bytes a stall for n stalls, with zeros behind them to the longest row
abbrev pub padded : ℕ → List ℕ → List ℕ
padded n l = l ++ replicate (longest_row - n * 2) 0

-- the bytes of row r in an array of rows by value
abbrev pub row_in : List (List ℕ) → ℕ → ℕ → List ℕ
row_in rows n r = take (n * 2) (get_or rows (r - 1) [])

-- the bytes of the order entry of stall r in an array of them by value
abbrev pub order_in : List ℕ → ℕ → ℕ → List ℕ
order_in orders n r = order_bytes n (get_or orders (r - 1) 0)

abbrev pub pair_bytes : Pair → List ℕ
pair_bytes x = x.high ∷ x.low ∷ []

-- column c of two bytes a stall: a head's own pair in its own column, in any other the pair that stands there in the image that the stall comes from
unfoldable pub mixed_pair : List ℕ → Side → List ℕ → Side → (ℕ → Bool) → ℕ → List ℕ
mixed_pair s a u b t c =
    cond (eqb c a.stall) (pair_bytes a.own)
    (cond (eqb c b.stall) (pair_bytes b.own)
    (cond (t c) (pair_at u (b.at + (c - 1) * 2)) (pair_at s (a.at + (c - 1) * 2))))

-- d, the image of a head that met, with rows, yields and order entries as the meeting leaves them
abbrev pub image_after : List ℕ → List ℕ → List ℕ → ℕ → ℕ → ℕ → ℕ → (ℕ → Bool) → List ℕ
image_after d s u n p q k t =
    take 4 d
    ++ each n (body_row s u n p q k t)
    ++ each n (body_yield s u n p q t)
    ++ each n (λ r. order_bytes n (bits n (merged_order n p (table_of s n) q (table_of u n) r)))
