-- What the functions behind the calls say to each other. Of this callers see `plain_of` alone, which the form `Packed` has for the image of a table.
use Rattle.std.specs.Prelude.{ℕ, ◌%◌, cond, List, [], ◌∷◌, ◌++◌, get_or, take, drop}
use Rattle.image.specs.Stalls.{each}
use Rattle.image.specs.Layout.{name_at, yields_place}
use Rattle.packed.specs.Form.{name_byte, unpacked}
use Rattle.packed.specs.Check.{bad_packed_count, bad_packed_length}

-- an image packed, byte by byte: `packed`, for an accepted image
unfoldable pub packed_row : List ℕ → ℕ → ℕ → List ℕ
packed_row s n r = each n (λ c. name_byte c (name_at s n r c) % 256 ∷ [])

unfoldable pub packed_of : ℕ → List ℕ → List ℕ
packed_of n s = take 4 s ++ each n (packed_row s n) ++ drop (yields_place n) s

-- what is handed to the plain calls: the unpacked form; and of what 1 or 2 refuses, a run that is refused with the same number
unfoldable pub plain_of : List ℕ → List ℕ
plain_of s = cond (bad_packed_count s) [] (cond (bad_packed_length s) (get_or s 0 0 ∷ []) (unpacked s))
