-- The check of a packed image: the first number that applies.
-- Request 2026-04: "unpacking refuses what 01's checks refuse of the unpacked form, and own number with another label is 5. Check 2 takes the new length for a packed
-- table". A partner of 0 does not occur; own number with another label is a partner equal to the column, which is 5 of the unpacked form.
use Rattle.std.specs.Prelude.{Bool, ◌||◌, not, cond, ℕ, List, eqb, length, get_or}
use Rattle.image.specs.Check.{check_body, checked}
use Rattle.image.specs.declared.Checked.{Checked}
use Rattle.image.specs.declared.Checked.TheVariants.{Refused}
use Rattle.packed.specs.Form.{is_packed_count, packed_length, unpacked}

-- 1: image empty, or N that of no packed table. Request 2026-09: "a packed table over 8 is still number 1"
unfoldable pub bad_packed_count : List ℕ → Bool
bad_packed_count s = eqb (length s) 0 || not (is_packed_count (get_or s 0 0))

-- 2: "the new length for a packed table"
unfoldable pub bad_packed_length : List ℕ → Bool
bad_packed_length s = not (eqb (length s) (packed_length (get_or s 0 0)))

-- 1 and 2 of the packed image; then 3, 4, 5 and 6 of its unpacked form
unfoldable pub packed_checked : List ℕ → Checked
packed_checked s =
    cond (bad_packed_count s) (Refused 1)
    (cond (bad_packed_length s) (Refused 2)
    (check_body (unpacked s) (get_or s 0 0) (get_or s 1 0)))

-- the check of a plain image that is to be packed: over 8 it is number 1 too, before the other tests of number 1 to 6
unfoldable pub packable_checked : List ℕ → Checked
packable_checked s = cond (bad_packed_count s) (Refused 1) (checked s)
