-- A table in its packed form, and the unpacked form of a packed image.
-- Request 2026-04: "Each name becomes one byte: partner minus 1 in the upper three bits, label in the lower five; a stall's own number as partner, with label 0, means
-- none. Header, yields and marks keep their order, so the length is N × N + 3 × N + 4."
use Rattle.std.specs.Prelude.{ℕ, ◌+◌, ◌-◌, ◌*◌, ◌/◌, ◌%◌, Bool, ◌&&◌, cond, List, [], ◌∷◌, ◌++◌, leb, eqb, get_or, take, drop}
use Rattle.image.specs.Stalls.{each, bits}
use Rattle.image.specs.Layout.{order_width}
use Rattle.image.specs.Encode.{Table, name_bytes, word_bytes, order_bytes, table_of}
use Rattle.image.specs.declared.Name.{Name}
use Rattle.image.specs.declared.Name.TheVariants.{Never, With}

-- the most heads of a parlour whose tables can be packed: three bits of a name tell its partner. Request 2026-09: "a packed table over 8 is still number 1"
abbrev pub largest_packed : ℕ
largest_packed = 8

abbrev pub is_packed_count : ℕ → Bool
is_packed_count n = leb 2 n && leb n largest_packed

-- the bytes of the longest image that is packed
abbrev pub longest_unpacked : ℕ
longest_unpacked = 156

-- "N × N + 3 × N + 4", for 2 to 8 heads; 0 for any other number
abbrev pub packed_length : ℕ → ℕ
packed_length n = cond (is_packed_count n) (n * n + 3 * n + 4) 0

-- "partner minus 1 in the upper three bits, label in the lower five": so many labels
abbrev pub labels : ℕ
labels = 32

-- a name in column c as one byte: "a stall's own number as partner, with label 0, means none"
unfoldable pub name_byte : ℕ → Name → ℕ
name_byte c Never = (c - 1) * labels
name_byte c (With m) = (m.partner - 1) * labels + m.label

-- the packed image of a table of n stalls, of the head at stall own: the blocks of `encode`, with one byte a name
unfoldable pub packed_image : ℕ → ℕ → Table → List ℕ
packed_image n own t =
    (n ∷ own ∷ word_bytes t.current)
    ++ each n (λ r. each n (λ c. name_byte c (t.names r c) ∷ []))
    ++ each n (λ r. word_bytes (t.yields r))
    ++ each n (λ r. order_bytes n (bits n (t.order r)))

-- a plain image packed: the packed image of what it says
unfoldable pub packed : List ℕ → List ℕ
packed s = packed_image (get_or s 0 0) (get_or s 1 0) (table_of s (get_or s 0 0))

-- where the yields of a packed image start, where it ends, and where a name of it stands
abbrev pub packed_yields_place : ℕ → ℕ
packed_yields_place n = 4 + n * n

abbrev pub packed_image_length : ℕ → ℕ
packed_image_length n = packed_yields_place n + n * 2 + n * order_width n

abbrev pub packed_place : ℕ → ℕ → ℕ → ℕ
packed_place n r c = 4 + (r - 1) * n + (c - 1)

-- one byte as a name in column c
unfoldable pub name_of : ℕ → ℕ → Name
name_of c b = cond (eqb b (name_byte c Never)) Never (With (record { partner = b / labels + 1; label = b % labels }))

-- "the unpacked form": two bytes for each name, everything else as it stands
unfoldable pub unpacked_row : List ℕ → ℕ → ℕ → List ℕ
unpacked_row s n r = each n (λ c. name_bytes (name_of c (get_or s (packed_place n r c) 0)))

unfoldable pub unpacked_of : ℕ → List ℕ → List ℕ
unpacked_of n s = take 4 s ++ each n (unpacked_row s n) ++ drop (packed_yields_place n) s

-- of a run with N over that of packed tables there is none: the empty run, which 1 refuses too
unfoldable pub unpacked : List ℕ → List ℕ
unpacked s = cond (leb (get_or s 0 0) largest_packed) (unpacked_of (get_or s 0 0) s) []
