-- The packed forms of the listing's image and of fresh images, the numbers of request 2026-05, and what packed images are refused with, by evaluation.
use Rattle.std.specs.Prelude.{ℕ, ◌≡◌, refl, List, [], ◌∷◌, ◌++◌, map, replicate}
use Rattle.image.specs.Stalls.{count}
use Rattle.image.specs.Encode.{nothing}
use Rattle.image.specs.Fresh.{fresh_image}
use Rattle.image.specs.Check.{number_of}
use Rattle.image.specs.Examples as Plain
use Rattle.image.specs.Examples.{listing, not_milked, with_label}
use Rattle.head.specs.Settled.{settled_counts, settled_from}
use Rattle.packed.specs.Form.{packed_length, name_byte, packed_image, packed, name_of, unpacked_row, unpacked_of, unpacked}
use Rattle.packed.specs.Check.{bad_packed_count, bad_packed_length, packed_checked, packable_checked}
use Rattle.packed.specs.Calls.{packed_settled_call}

-- whoever unfolds this unfolds all that a packed image is made, read and checked with
unfoldable pub evaluated : Unit {0}
unfolding Plain.evaluated name_byte packed_image packed name_of unpacked_row unpacked_of unpacked bad_packed_count bad_packed_length packed_checked packable_checked
evaluated = tt

-- "The heads' memory is to hold 92 bytes, not 156."
lengths : map packed_length (0 ∷ 1 ∷ 2 ∷ 3 ∷ 4 ∷ 5 ∷ 6 ∷ 7 ∷ 8 ∷ 9 ∷ []) ≡ 0 ∷ 0 ∷ 14 ∷ 22 ∷ 32 ∷ 44 ∷ 58 ∷ 74 ∷ 92 ∷ 0 ∷ []
lengths = refl

-- the listing's image: 0x20 is partner 2, 0x00 partner 1 and 0x40 partner 3, all with label 0; but in column 3 of row 1 the last is none
abbrev pub packed_listing : List ℕ
packed_listing =
    3 ∷ 3 ∷ 0xff ∷ 0xff
    ∷ 0x20 ∷ 0x00 ∷ 0x40
    ∷ 0x20 ∷ 0x40 ∷ 0x20
    ∷ 0x20 ∷ 0x40 ∷ 0x20
    ∷ 0 ∷ 0x12 ∷ 0xff ∷ 0xff ∷ 0xff ∷ 0xff
    ∷ 7 ∷ 6 ∷ 6 ∷ []

listing_examples : (packed listing ≡ packed_listing) × (unpacked packed_listing ≡ listing)
unfolding evaluated
listing_examples = (refl, refl)

-- the numbers of its order bytes, 7, 6 and 6; a buffer of 2 bytes is 8, and stays as it was
settled_examples : (packed_settled_call packed_listing (9 ∷ 9 ∷ 9 ∷ []) ≡ record { answer = 0; counts = 3 ∷ 2 ∷ 2 ∷ [] })
    × (packed_settled_call packed_listing (9 ∷ 9 ∷ []) ≡ record { answer = 8; counts = 9 ∷ 9 ∷ [] })
unfolding evaluated count settled_counts settled_from
settled_examples = (refl, refl)

-- a fresh head: no name in any column
fresh_examples : (packed_image 2 1 nothing ≡ (2 ∷ 1 ∷ not_milked 1) ++ (0x00 ∷ 0x20 ∷ 0x00 ∷ 0x20 ∷ []) ++ not_milked 2 ++ replicate 2 0)
    × (unpacked (packed_image 3 2 nothing) ≡ fresh_image 3 2)
unfolding evaluated
fresh_examples = (refl, refl)

number : List ℕ → ℕ
number s = number_of (packed_checked s)

-- Request 2026-09: "a packed table over 8 is still number 1, and so is a plain one over 8 that is to be packed", whatever else is wrong with it
over_examples : (map number (packed_image 8 1 nothing ∷ packed_image 9 1 nothing ∷ packed_image 16 1 nothing ∷ (9 ∷ []) ∷ []) ≡ 0 ∷ 1 ∷ 1 ∷ 1 ∷ [])
    × (map (λ s. number_of (packable_checked s)) (fresh_image 8 1 ∷ fresh_image 9 1 ∷ fresh_image 16 17 ∷ (9 ∷ []) ∷ (8 ∷ []) ∷ []) ≡ 0 ∷ 1 ∷ 1 ∷ 1 ∷ 2 ∷ [])
    × (unpacked (packed_image 9 1 nothing) ≡ [])
unfolding evaluated number
over_examples = (refl, refl, refl)

-- head 1 of 2 that was not milked: the name in row 1, column 1, and the order byte of stall 1
abbrev pub with_name : ℕ → ℕ → List ℕ
with_name name order = (2 ∷ 1 ∷ not_milked 1) ++ (name ∷ 0x20 ∷ 0x00 ∷ 0x20 ∷ []) ++ not_milked 2 ++ (order ∷ 0 ∷ [])

-- 1 twice; 2, also for the length of a plain image; 3; 4; 6, and 0 for the same without the mark
refused_examples : map number
    ([]
    ∷ (9 ∷ [])
    ∷ (2 ∷ 1 ∷ [])
    ∷ fresh_image 2 1
    ∷ (2 ∷ 3 ∷ replicate 12 0)
    ∷ (2 ∷ 1 ∷ 0x03 ∷ 0xe8 ∷ replicate 10 0)
    ∷ with_name 0x00 1
    ∷ with_name 0x00 0
    ∷ [])
    ≡ 1 ∷ 1 ∷ 2 ∷ 2 ∷ 3 ∷ 4 ∷ 6 ∷ 0 ∷ []
unfolding evaluated number
refused_examples = refl

-- 5: "own number with another label", partner 1 in column 1 with labels 1 and 31; partner 3 of 2 stalls; and before 6
name_examples : map number (with_name 0x01 0 ∷ with_name 0x1f 0 ∷ with_name 0x40 0 ∷ with_name 0x01 1 ∷ []) ≡ 5 ∷ 5 ∷ 5 ∷ 5 ∷ []
unfolding evaluated number
name_examples = refl

-- labels in their five bits: the highest of 3 stalls, and the first above it
label_examples : map (λ k. number (packed (with_label k))) (0 ∷ 10 ∷ 11 ∷ 31 ∷ []) ≡ 0 ∷ 0 ∷ 5 ∷ 5 ∷ []
unfolding evaluated number
label_examples = refl
