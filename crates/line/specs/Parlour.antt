-- The state between lines: a parlour, or none yet.
-- Document 01: "A parlour has N heads .. one at each stall 1 to N."; request 2026-09: "N may be 2 to 16."
-- Byte 0 is N; a slot for each stall of the largest parlour follows, as long as its image, and begins with the image of its head.
use Rattle.std.specs.Prelude.{ℕ, ◌+◌, ◌-◌, ◌*◌, Bool, cond, List, ◌∷◌, ◌++◌, leb, length, get_or, take, drop, replicate}
use Rattle.image.specs.Stalls.{each}
use Rattle.image.specs.Layout.{largest, longest, is_count, length_of}
use Rattle.image.specs.Fresh.{fresh_in}

abbrev pub state_length : ℕ
state_length = 1 + largest * longest

-- N, and whether it is that of a parlour: no line has opened one where it is not
abbrev pub heads_of : List ℕ → ℕ
heads_of state = get_or state 0 0

abbrev pub is_open : List ℕ → Bool
is_open state = is_count (heads_of state)

-- where the slot of stall r starts
abbrev pub slot_place : ℕ → ℕ
slot_place r = 1 + (r - 1) * longest

-- the image of the head at stall r
unfoldable pub image_of : List ℕ → ℕ → List ℕ
image_of state r = take (length_of (heads_of state)) (drop (slot_place r) state)

-- the state with another image there, every other byte as it was
unfoldable pub with_image : List ℕ → ℕ → List ℕ → List ℕ
with_image state r image = take (slot_place r) state ++ image ++ drop (slot_place r + length image) state

-- a slot of a parlour of n heads just opened: a fresh table, or zeros where no head has it
unfoldable pub fresh_slot : ℕ → ℕ → List ℕ
fresh_slot n r = cond (leb r n) (fresh_in longest n r) (replicate longest 0)

-- every byte of the state then
unfoldable pub fresh_state : ℕ → List ℕ
fresh_state n = n ∷ each largest (fresh_slot n)
