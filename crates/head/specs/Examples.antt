-- The yields that request 2026-01 names as new yields, heard lists in the order of request 2026-07, and the numbers of request 2026-05, by evaluation.
use Rattle.std.specs.Prelude.{ℕ, ◌-◌, ◌*◌, ◌^◌, ◌≡◌, refl, length, replicate}
use mathlib.Core.List.{List, [], ◌∷◌, ◌++◌, map, flat_map, flatten}
use Rattle.image.specs.Fresh.{fresh_image}
use Rattle.image.specs.Encode.{word_bytes, order_bytes}
use Rattle.image.specs.Stalls.{count}
use Rattle.image.specs.Examples.{evaluated, not_milked, met_once, listing}
use Rattle.head.specs.Calls.{refused, milked, milking_call}
use Rattle.rank.specs.Order.{worth_of, before, insert, ranked}
use Rattle.head.specs.Heard.{chosen, heard_records, heard_count, heard_bytes, heard_from, heard_call}
use Rattle.head.specs.Settled.{settled_counts, settled_from, settled_call}

-- whoever unfolds this, beside what an image is checked with, unfolds all that a heard list is made with
unfoldable pub heard_evaluated : Unit {0}
unfolding worth_of before insert ranked chosen heard_records heard_count heard_bytes heard_from
heard_evaluated = tt

-- "A milking with ffff is still number 4", as with every number over 999
milking_examples : (map (λ y. (milking_call (fresh_image 2 1) y).answer) (0 ∷ 999 ∷ 1000 ∷ 0xfe00 ∷ 0xfffe ∷ 0xffff ∷ []) ≡ 0 ∷ 0 ∷ 4 ∷ 4 ∷ 4 ∷ 4 ∷ [])
    × (milking_call (fresh_image 2 1) 0xffff ≡ refused 4 (fresh_image 2 1))
unfolding evaluated milked milking_call
milking_examples = (refl, refl)

-- head 1 of so many heads, which has heard of all, with these yields
abbrev pub all_heard : List ℕ → List ℕ
all_heard yields =
    let n = length yields in
    (n ∷ 1 ∷ word_bytes 0) ++ flatten (replicate n (2 ∷ 0 ∷ flatten (replicate (n - 1) (1 ∷ 0 ∷ [])))) ++ flat_map word_bytes yields ++ flatten (replicate n (order_bytes n (2 ^ n - 1)))

-- what the call answers, then the buffer, which holds 9 wherever nothing is written
heard_into : List ℕ → ℕ → List ℕ
heard_into s long = let o = heard_call s (replicate long 9) in o.answer ∷ o.records

heard_of : List ℕ → List ℕ
heard_of yields = heard_into (all_heard yields) (3 * length yields)

-- Request 2026-07: equal yields; not milked among milked, and a cow that gave nothing before it; all not milked; eight stalls in reverse
order_examples : (heard_of (18 ∷ 18 ∷ 18 ∷ []) ≡ 3 ∷ 1 ∷ 0 ∷ 18 ∷ 2 ∷ 0 ∷ 18 ∷ 3 ∷ 0 ∷ 18 ∷ [])
    × (heard_of (0xffff ∷ 7 ∷ 0xffff ∷ 999 ∷ 0 ∷ []) ≡ 5 ∷ 4 ∷ 0x03 ∷ 0xe7 ∷ 2 ∷ 0 ∷ 7 ∷ 5 ∷ 0 ∷ 0 ∷ 1 ∷ 0xff ∷ 0xff ∷ 3 ∷ 0xff ∷ 0xff ∷ [])
    × (heard_of (0xffff ∷ 0xffff ∷ 0xffff ∷ []) ≡ 3 ∷ 1 ∷ 0xff ∷ 0xff ∷ 2 ∷ 0xff ∷ 0xff ∷ 3 ∷ 0xff ∷ 0xff ∷ [])
    × (heard_of (1 ∷ 2 ∷ 3 ∷ 4 ∷ 5 ∷ 6 ∷ 7 ∷ 8 ∷ []) ≡ 8 ∷ 8 ∷ 0 ∷ 8 ∷ 7 ∷ 0 ∷ 7 ∷ 6 ∷ 0 ∷ 6 ∷ 5 ∷ 0 ∷ 5 ∷ 4 ∷ 0 ∷ 4 ∷ 3 ∷ 0 ∷ 3 ∷ 2 ∷ 0 ∷ 2 ∷ 1 ∷ 0 ∷ 1 ∷ [])
unfolding evaluated heard_evaluated heard_into heard_of flat_map flatten
order_examples = (refl, refl, refl, refl)

-- nine stalls in reverse, and how many have heard of each
nine_examples : (heard_of (1 ∷ 2 ∷ 3 ∷ 4 ∷ 5 ∷ 6 ∷ 7 ∷ 8 ∷ 9 ∷ []) ≡ 9 ∷ flatten (map (λ r. r ∷ 0 ∷ r ∷ []) (9 ∷ 8 ∷ 7 ∷ 6 ∷ 5 ∷ 4 ∷ 3 ∷ 2 ∷ 1 ∷ [])))
    × ((settled_call (all_heard (replicate 9 0)) (replicate 9 0)).counts ≡ replicate 9 9)
unfolding evaluated heard_evaluated heard_into heard_of flat_map flatten count settled_counts settled_from
nine_examples = (refl, refl)

-- an image for each number of a refusal, 6 to 1
abbrev pub bad_images : List (List ℕ)
bad_images =
    ((2 ∷ 1 ∷ not_milked 1) ++ replicate 8 0 ++ not_milked 2 ++ (0 ∷ 1 ∷ []))
    ∷ met_once 11 0 0 0xffff
    ∷ (2 ∷ 1 ∷ 3 ∷ 0xe8 ∷ replicate 14 0)
    ∷ (2 ∷ 3 ∷ replicate 16 0)
    ∷ (2 ∷ 1 ∷ [])
    ∷ []
    ∷ []

-- zeros behind the records: a head that has heard of itself alone; one that has heard of stall 2, which was not milked, and not of stall 3; a fresh one. Then 264 for a
-- buffer of another length, and 262 to 257 before it.
heard_examples : (heard_into ((2 ∷ 1 ∷ 0 ∷ 0 ∷ 2 ∷ 0 ∷ replicate 6 0) ++ word_bytes 5 ++ not_milked 1 ++ (1 ∷ 0 ∷ [])) 6 ≡ 1 ∷ 1 ∷ 0 ∷ 5 ∷ 0 ∷ 0 ∷ 0 ∷ [])
    × (map (λ s. heard_into s 9) (met_once 0 0 0xffff 0xffff ∷ fresh_image 3 2 ∷ []) ≡ (2 ∷ 1 ∷ 0 ∷ 0 ∷ 2 ∷ 0xff ∷ 0xff ∷ 0 ∷ 0 ∷ 0 ∷ []) ∷ (0 ∷ replicate 9 0) ∷ [])
    × (map (heard_into listing) (0 ∷ 2 ∷ 9 ∷ []) ≡ (264 ∷ []) ∷ (264 ∷ 9 ∷ 9 ∷ []) ∷ (3 ∷ 1 ∷ 0 ∷ 18 ∷ 2 ∷ 0xff ∷ 0xff ∷ 3 ∷ 0xff ∷ 0xff ∷ []) ∷ [])
    × (map (λ s. heard_into s 1) bad_images ≡ (262 ∷ 9 ∷ []) ∷ (261 ∷ 9 ∷ []) ∷ (260 ∷ 9 ∷ []) ∷ (259 ∷ 9 ∷ []) ∷ (258 ∷ 9 ∷ []) ∷ (257 ∷ 9 ∷ []) ∷ [])
unfolding evaluated heard_evaluated heard_into flat_map
heard_examples = (refl, refl, refl, refl)

settled_into : List ℕ → ℕ → List ℕ
settled_into s long = let o = settled_call s (replicate long 9) in o.answer ∷ o.counts

-- a fresh head; one that has met head 2 and not heard of stall 3; the listing's head 3, whose order bytes are 7, 6 and 6. Then 8 for a buffer of another length, and
-- 6 to 1 before it.
settled_examples : (map (λ s. settled_into s 3) (fresh_image 3 2 ∷ met_once 0 0 0 0xffff ∷ listing ∷ []) ≡ (0 ∷ 0 ∷ 0 ∷ 0 ∷ []) ∷ (0 ∷ 2 ∷ 2 ∷ 0 ∷ []) ∷ (0 ∷ 3 ∷ 2 ∷ 2 ∷ []) ∷ [])
    × (map (settled_into listing) (0 ∷ 2 ∷ 4 ∷ []) ≡ (8 ∷ []) ∷ (8 ∷ 9 ∷ 9 ∷ []) ∷ (8 ∷ 9 ∷ 9 ∷ 9 ∷ 9 ∷ []) ∷ [])
    × (map (λ s. settled_into s 1) bad_images ≡ (6 ∷ 9 ∷ []) ∷ (5 ∷ 9 ∷ []) ∷ (4 ∷ 9 ∷ []) ∷ (3 ∷ 9 ∷ []) ∷ (2 ∷ 9 ∷ []) ∷ (1 ∷ 9 ∷ []) ∷ [])
unfolding evaluated count settled_counts settled_from settled_into
settled_examples = (refl, refl, refl)
