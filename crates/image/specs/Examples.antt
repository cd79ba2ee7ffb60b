-- Document 01's examples for the numbers 1 to 6, as request 2026-01 changes them, the yields that it names, the labels that request 2026-02 names, the listing's
-- image, the sizes of request 2026-09, and lanes of words, by evaluation.
use Rattle.std.specs.Prelude.{ℕ, suc, ◌+◌, ◌-◌, ◌*◌, ◌≡◌, refl, List, [], ◌∷◌, ◌++◌, map, replicate}
use Rattle.image.specs.Stalls.{some, each, bits, has}
use Rattle.image.specs.Lanes.{lanes, lane, pairs}
use Rattle.image.specs.Layout.{length_of, no_yield, is_yield, label_limit, order_width, number_at, order_from, mark_at, name_from, name_at, heard_at}
use Rattle.image.specs.Check.{bad_count, bad_length, bad_yields, bad_diagonal, bad_unheard, bad_row, bad_names, bad_order, bad_marks, check_body, checked, number_of}
use Rattle.image.specs.Encode.{nothing, word_bytes, number_bytes, order_bytes, encode, table_of}
use Rattle.image.specs.Fresh.{fresh_image, fresh_in}

-- whoever unfolds this unfolds all that an image is made, read and checked with
unfoldable pub evaluated : Unit {0}
unfolding some each bits has no_yield is_yield label_limit order_width number_at number_bytes order_from order_bytes mark_at name_from name_at heard_at nothing encode table_of fresh_image fresh_in bad_count bad_length bad_yields bad_diagonal bad_unheard bad_row bad_names bad_order bad_marks check_body checked
evaluated = tt

-- not milked, and the bytes of so many such yields
not_milked_is : no_yield ≡ 0xffff
unfolding evaluated
not_milked_is = refl

abbrev pub not_milked : ℕ → List ℕ
not_milked count = replicate (count * 2) 0xff

-- Request 2026-01: ffff "is the current yield of a fresh head, and the stall yield of a stall never heard"; "its names and marks are still zeros"
fresh_examples : (fresh_image 2 1 ≡ (2 ∷ 1 ∷ not_milked 1) ++ replicate 8 0 ++ not_milked 2 ++ replicate 2 0)
    × (fresh_image 3 2 ≡ (3 ∷ 2 ∷ not_milked 1) ++ replicate 18 0 ++ not_milked 3 ++ replicate 3 0)
    × (fresh_in 160 8 5 ≡ fresh_image 8 5 ++ replicate 4 0)
    × (fresh_in 155 8 5 ≡ replicate 155 0)
    × (fresh_in 160 17 5 ≡ replicate 160 0)
unfolding evaluated
fresh_examples = (refl, refl, refl, refl, refl)

number : List ℕ → ℕ
number s = number_of (checked s)

-- the examples of the numbers 1 to 6, in their order. "The examples of 6 and 7 have ffff in all their yields." Those of 3 to 5 have 0 for stalls
-- never heard, a second fault that by itself is 5; the last has the bad name of the example of 5 and no other fault.
refused_examples : map number
    ((1 ∷ [])
    ∷ (2 ∷ 1 ∷ [])
    ∷ (2 ∷ 3 ∷ replicate 16 0)
    ∷ (2 ∷ 1 ∷ 3 ∷ 0xe8 ∷ replicate 14 0)
    ∷ (2 ∷ 1 ∷ 0 ∷ 0 ∷ 1 ∷ 0 ∷ replicate 12 0)
    ∷ ((2 ∷ 1 ∷ not_milked 1) ++ replicate 8 0 ++ not_milked 2 ++ (0 ∷ 1 ∷ []))
    ∷ ((2 ∷ 1 ∷ not_milked 1) ++ (1 ∷ 0 ∷ replicate 6 0) ++ not_milked 2 ++ (1 ∷ 0 ∷ []))
    ∷ [])
    ≡ 1 ∷ 2 ∷ 3 ∷ 4 ∷ 5 ∷ 6 ∷ 5 ∷ []
unfolding evaluated number
refused_examples = refl

-- head 1 of 3, which has met head 2 with a label: its current yield, that of stall 2, and that of stall 3, which it has not heard
abbrev pub met_once : ℕ → ℕ → ℕ → ℕ → List ℕ
met_once k current heard unheard =
    (3 ∷ 1 ∷ word_bytes current)
    ++ (2 ∷ k ∷ 1 ∷ k ∷ 0 ∷ 0 ∷ [])
    ++ (2 ∷ k ∷ 1 ∷ k ∷ 0 ∷ 0 ∷ [])
    ++ replicate 6 0
    ++ word_bytes 0
    ++ word_bytes heard
    ++ word_bytes unheard
    ++ (3 ∷ 3 ∷ 0 ∷ [])

abbrev pub with_label : ℕ → List ℕ
with_label k = met_once k 0 0 0xffff

-- "Check 4 admits it in images", as a current yield and for a heard stall; "check 5 wants it for stalls never heard", after 4
yield_examples :
    (map (λ y. number (met_once 0 y 0 0xffff)) (0 ∷ 999 ∷ 1000 ∷ 0xfe00 ∷ 0xfffe ∷ 0xffff ∷ []) ≡ 0 ∷ 0 ∷ 4 ∷ 4 ∷ 4 ∷ 0 ∷ [])
    × (map (λ y. number (met_once 0 0 y 0xffff)) (0 ∷ 999 ∷ 1000 ∷ 0xfe00 ∷ 0xfffe ∷ 0xffff ∷ []) ≡ 0 ∷ 0 ∷ 4 ∷ 4 ∷ 4 ∷ 0 ∷ [])
    × (map (λ y. number (met_once 0 0 0 y)) (0 ∷ 999 ∷ 1000 ∷ 0xfe00 ∷ 0xfffe ∷ 0xffff ∷ []) ≡ 5 ∷ 5 ∷ 4 ∷ 4 ∷ 4 ∷ 0 ∷ [])
unfolding evaluated number
yield_examples = (refl, refl, refl)

-- the images of number 9's example
abbrev pub nine_first : List ℕ
nine_first = 2 ∷ 1 ∷ 0 ∷ 0 ∷ 2 ∷ 0 ∷ 1 ∷ 0 ∷ 2 ∷ 0 ∷ 1 ∷ 0 ∷ 0 ∷ 0 ∷ 0 ∷ 0 ∷ 3 ∷ 3 ∷ []

abbrev pub nine_second : List ℕ
nine_second = 2 ∷ 2 ∷ 0 ∷ 0 ∷ 2 ∷ 1 ∷ 1 ∷ 1 ∷ 2 ∷ 1 ∷ 1 ∷ 1 ∷ 0 ∷ 0 ∷ 0 ∷ 0 ∷ 3 ∷ 3 ∷ []

-- Request 2026-02: "for 3 stalls, 10 passes and 11 is number 5"; a fresh image and both images of number 9's example pass
accepted_examples : map number
    (with_label 10
    ∷ with_label 11
    ∷ fresh_image 2 1
    ∷ nine_first
    ∷ nine_second
    ∷ [])
    ≡ 0 ∷ 5 ∷ 0 ∷ 0 ∷ 0 ∷ []
unfolding evaluated number
accepted_examples = refl

-- the listing's image: head 3 after the meetings 1-2 and 2-3, stall 1 milked with 18 before, the others not
abbrev pub listing : List ℕ
listing =
    3 ∷ 3 ∷ 0xff ∷ 0xff
    ∷ 2 ∷ 0 ∷ 1 ∷ 0 ∷ 0 ∷ 0
    ∷ 2 ∷ 0 ∷ 3 ∷ 0 ∷ 2 ∷ 0
    ∷ 2 ∷ 0 ∷ 3 ∷ 0 ∷ 2 ∷ 0
    ∷ 0 ∷ 0x12 ∷ 0xff ∷ 0xff ∷ 0xff ∷ 0xff
    ∷ 7 ∷ 6 ∷ 6 ∷ []

-- it passes, and is the image of what it says
listing_is_encoded : (number listing ≡ 0) × (encode 3 3 (table_of listing 3) ≡ listing)
unfolding evaluated number
listing_is_encoded = (refl, refl)

-- Request 2026-09: "N may be 2 to 16. From 9 up, an order byte becomes two bytes, high first, and the length 2 × N × N + 4 × N + 4, which is 580 for 16"
size_examples : (map length_of (2 ∷ 3 ∷ 4 ∷ 5 ∷ 6 ∷ 7 ∷ 8 ∷ []) ≡ 18 ∷ 31 ∷ 48 ∷ 69 ∷ 94 ∷ 123 ∷ 156 ∷ [])
    × (map length_of (9 ∷ 10 ∷ 11 ∷ 12 ∷ 13 ∷ 14 ∷ 15 ∷ 16 ∷ []) ≡ 202 ∷ 244 ∷ 290 ∷ 340 ∷ 394 ∷ 452 ∷ 514 ∷ 580 ∷ [])
    × (map (λ n. order_bytes n 0x81) (8 ∷ 9 ∷ []) ≡ (0x81 ∷ []) ∷ (0x00 ∷ 0x81 ∷ []) ∷ [])
    × (order_bytes 16 0x8102 ≡ 0x81 ∷ 0x02 ∷ [])
    × (order_from (0x81 ∷ 0x02 ∷ []) 16 0 ≡ 0x8102)
    × (fresh_image 9 9 ≡ (9 ∷ 9 ∷ not_milked 1) ++ replicate 162 0 ++ not_milked 9 ++ replicate 18 0)
unfolding evaluated
size_examples = (refl, refl, refl, refl, refl, refl)

-- head 1 of n, which has met head 2 with a label, and the order entry of stall 1
abbrev pub met_first : ℕ → ℕ → List ℕ → List ℕ
met_first n k entry =
    let row : List ℕ = (2 ∷ k ∷ 1 ∷ k ∷ []) ++ replicate (n * 2 - 4) 0 in
    (n ∷ 1 ∷ word_bytes 0)
    ++ row
    ++ row
    ++ replicate ((n - 2) * (n * 2)) 0
    ++ word_bytes 0
    ++ word_bytes 0
    ++ not_milked (n - 2)
    ++ entry
    ++ order_bytes n 3
    ++ replicate ((n - 2) * order_width n) 0

-- "Check 1 moves to 16": 17 is 1. 9 heads with the length of the rule up to 8, and 8 with that of the rule from 9 up, are 2; fresh images pass.
count_examples : map number
    ((17 ∷ [])
    ∷ (9 ∷ 1 ∷ replicate 191 0)
    ∷ (8 ∷ 1 ∷ replicate 162 0)
    ∷ fresh_image 9 1
    ∷ fresh_image 16 16
    ∷ [])
    ≡ 1 ∷ 2 ∷ 2 ∷ 0 ∷ 0 ∷ []
unfolding evaluated number
count_examples = refl

-- order entries of 9: high byte first; low byte first they mark other stalls, 6, as do a stall never heard and one above N. Labels end at 34 of 9, and at 62 of 16.
sixteen_examples : (map (λ entry. number (met_first 9 0 entry)) ((0 ∷ 3 ∷ []) ∷ (3 ∷ 0 ∷ []) ∷ (1 ∷ 3 ∷ []) ∷ (2 ∷ 3 ∷ []) ∷ []) ≡ 0 ∷ 6 ∷ 6 ∷ 6 ∷ [])
    × (map (λ k. number (met_first 9 k (0 ∷ 3 ∷ []))) (34 ∷ 35 ∷ []) ≡ 0 ∷ 5 ∷ [])
    × (map (λ k. number (met_first 16 k (0 ∷ 3 ∷ []))) (62 ∷ 63 ∷ []) ≡ 0 ∷ 5 ∷ [])
unfolding evaluated number
sixteen_examples = (refl, refl, refl)

-- lanes of a word, the first the lowest: the numbers 1 to 8 in bytes, one of four numbers of 16 bits, and the columns 5 to 8 at the partner bytes of four names
lane_examples : (lanes 8 8 suc ≡ 0x0807060504030201) × (lane 16 0x0004000300020001 2 ≡ 3) × (pairs (λ j. 4 + suc j) (λ j. 0) ≡ 0x0008000700060005)
unfolding lanes lane pairs
lane_examples = (refl, refl, refl)
