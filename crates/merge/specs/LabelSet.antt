-- A set of labels as a number, and the labels that a row of an image has.
use Rattle.std.specs.Prelude.{ℕ, ◌+◌, ◌-◌, ◌*◌, ◌≤◌, Bool, List, length, get_or}
use Rattle.image.specs.Stalls.{bits, has}
use Rattle.image.specs.Layout.{name_from}
use Rattle.merge.specs.Label.{is_meeting}

-- the labels of 0 to 63 that pass the test: the bit of value 2 to the power k for label k
unfoldable pub label_set : (ℕ → Bool) → ℕ
label_set f = bits 64 (λ s. f (s - 1))

-- the set has label k
abbrev pub has_label : ℕ → ℕ → Bool
has_label set k = has set (k + 1)

-- in the row that starts at a place, the name in column c is the meeting with this partner that has label k
abbrev pub name_has : List ℕ → ℕ → ℕ → ℕ → ℕ → Bool
name_has s row c partner k =
    is_meeting partner k (name_from (get_or s (row + (c - 1) * 2) 0) (get_or s (row + (c - 1) * 2 + 1) 0))

-- the column c of a row that starts at a place lies within the image
pub record Column (s : List ℕ) (row c : ℕ) : Type 0 where
  pub from : 1 ≤ c
  pub within : row + c * 2 ≤ length s
