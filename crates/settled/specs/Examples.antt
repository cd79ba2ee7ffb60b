-- Worked lists, newest first, by evaluation of what a history says of them.
use Rattle.std.specs.Prelude.{ℕ, ◌≡◌, refl, List, [], ◌∷◌, map, replicate}
use Rattle.causality.specs.Best.{up_to}
use Rattle.image.specs.Stalls.{count}
use Rattle.image.specs.Examples.{listing}
use Rattle.head.specs.Settled.{settled_counts}
use Rattle.parlour.specs.Item.{Item, milking, meeting}
use Rattle.parlour.specs.Examples.{evaluated as parlour_evaluated}
use Rattle.settled.specs.Count.{latest_after, count_after, counts_after}

-- whoever unfolds this unfolds all that the numbers are computed with
unfoldable pub evaluated : Unit {0}
unfolding parlour_evaluated count settled_counts count_after counts_after
evaluated = tt

-- a meeting that counts, in a parlour of n heads
met : ℕ → ℕ → ℕ → Item
met n p q = meeting p q (replicate n 0)

-- The listing: after 1-2 and 2-3 both heads of the second meeting know that all three have heard of the first, which is their latest of stall 1; head 1 has not heard
-- of stall 3. The table of head 3 says the same.
listing_counts : (map (counts_after 3 (met 3 2 3 ∷ met 3 1 2 ∷ milking 1 18 ∷ [])) (up_to 3) ≡ (2 ∷ 2 ∷ 0 ∷ []) ∷ (3 ∷ 2 ∷ 2 ∷ []) ∷ (3 ∷ 2 ∷ 2 ∷ []) ∷ [])
    × (settled_counts listing 3 ≡ 3 ∷ 2 ∷ 2 ∷ [])
unfolding evaluated met
listing_counts = (refl, refl)

-- Document 003, example 2.4: N = 5 and c_12 c_13 c_14 c_45 c_25 c_24. The first four,
begun_2_4 : List Item
begun_2_4 = met 5 4 5 ∷ met 5 1 4 ∷ met 5 1 3 ∷ met 5 1 2 ∷ []

-- after which heads 4 and 5 know c_12, their latest of stall 2, to be heard by all: the number reaches N,
reached_2_4 : map (counts_after 5 begun_2_4) (up_to 5)
    ≡ (2 ∷ 4 ∷ 3 ∷ 2 ∷ 0 ∷ [])
    ∷ (2 ∷ 2 ∷ 0 ∷ 0 ∷ 0 ∷ [])
    ∷ (2 ∷ 3 ∷ 2 ∷ 0 ∷ 0 ∷ [])
    ∷ (3 ∷ 5 ∷ 4 ∷ 2 ∷ 2 ∷ [])
    ∷ (3 ∷ 5 ∷ 4 ∷ 2 ∷ 2 ∷ [])
    ∷ []
unfolding evaluated met begun_2_4
reached_2_4 = refl

-- and all six: heads 2, 4 and 5 have newer news of stall 2, which not all have heard, and know c_13 to be heard by all, their latest of stall 3
counts_2_4 : map (counts_after 5 (met 5 2 4 ∷ met 5 2 5 ∷ begun_2_4)) (up_to 5)
    ≡ (2 ∷ 4 ∷ 3 ∷ 2 ∷ 0 ∷ [])
    ∷ (4 ∷ 2 ∷ 5 ∷ 2 ∷ 3 ∷ [])
    ∷ (2 ∷ 3 ∷ 2 ∷ 0 ∷ 0 ∷ [])
    ∷ (4 ∷ 2 ∷ 5 ∷ 2 ∷ 3 ∷ [])
    ∷ (4 ∷ 2 ∷ 5 ∷ 3 ∷ 2 ∷ [])
    ∷ []
unfolding evaluated met begun_2_4
counts_2_4 = refl

-- The number may fall again. N = 3 and 1-2, 2-3: head 3's number for stall 1 is 3. Then 1-3: its latest of stall 1 is now this third meeting, of which head 2 has not
-- heard, and the number is 2. The first meeting is still settled: every head has it or a newer one of stall 1, at places 3, 1 and 3.
falls_again : (counts_after 3 (met 3 2 3 ∷ met 3 1 2 ∷ []) 3 ≡ 3 ∷ 2 ∷ 2 ∷ [])
    × (counts_after 3 (met 3 1 3 ∷ met 3 2 3 ∷ met 3 1 2 ∷ []) 3 ≡ 2 ∷ 3 ∷ 2 ∷ [])
    × (map (λ q. latest_after (met 3 1 3 ∷ met 3 2 3 ∷ met 3 1 2 ∷ []) q 1) (up_to 3) ≡ 3 ∷ 1 ∷ 3 ∷ [])
unfolding evaluated met
falls_again = (refl, refl, refl)

-- N - 1 is not enough: after 1-2 and 1-3 head 3's number for stall 1 is 2, and head 2 has only the first of the two meetings
one_fewer : (counts_after 3 (met 3 1 3 ∷ met 3 1 2 ∷ []) 3 ≡ 2 ∷ 3 ∷ 2 ∷ [])
    × (map (λ q. latest_after (met 3 1 3 ∷ met 3 1 2 ∷ []) q 1) (up_to 3) ≡ 2 ∷ 1 ∷ 2 ∷ [])
unfolding evaluated met
one_fewer = (refl, refl)
