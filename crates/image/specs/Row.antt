-- A row as records, each of which holds a name.
use Rattle.std.specs.Prelude.{ℕ, zero, suc, ◌+◌, ◌-◌, ◌*◌, Bool, true, false, ◌&&◌, cond, List, [], ◌∷◌, ◌++◌, leb, length, get_or}
use Rattle.image.specs.Layout.{largest, row_place, name_from}
use Rattle.image.specs.declared.Name.{Name}
use Rattle.image.specs.declared.Name.TheVariants.{Never, With}
use Rattle.image.specs.declared.Entry.{Entry}

-- a name is none
abbrev pub is_never : Name → Bool
is_never Never = true
is_never (With m) = false

-- f 1, f 2, .., f m
unfoldable pub tabulate : ℕ → (ℕ → Entry) → List Entry
tabulate zero f = []
tabulate (suc m) f = tabulate m f ++ (f (suc m) ∷ [])

-- the record of column c of the row that starts at a place; past n there is none
unfoldable pub entry_at : List ℕ → ℕ → ℕ → ℕ → Entry
entry_at s n at c =
    record { name = cond (leb c n) (name_from (get_or s (at + (c - 1) * 2) 0) (get_or s (at + (c - 1) * 2 + 1) 0)) Never }

abbrev pub never_at : ℕ → Entry
never_at c = record { name = Never }

-- the own row of an image that is long enough for it, with room for the most stalls
unfoldable pub own_row : List ℕ → ℕ → ℕ → List Entry
own_row s n own =
    cond (leb n largest && leb (row_place n own + n * 2) (length s)) (tabulate largest (entry_at s n (row_place n own))) (tabulate largest never_at)
