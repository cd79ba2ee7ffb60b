-- Worked lists, by evaluation of what a history says of them, and two images from no list.
use Rattle.std.specs.Prelude.{ℕ, ◌≡◌, refl, Bool, true, false, ◌&&◌, List, [], ◌∷◌, ◌++◌, map, eqb, replicate}
use Rattle.causality.specs.Best.{up_to, verdicts}
use Rattle.labels.specs.Lowest.{keep}
use Rattle.labels.specs.Label.{label}
use Rattle.image.specs.Encode.{word_bytes}
use Rattle.image.specs.Examples.{listing}
use Rattle.merge.specs.Examples.{evaluated as merge_evaluated}
use Rattle.merge.specs.Call.{meeting_call}
use Rattle.parlour.specs.Item.{Item, milking, meeting}
use Rattle.parlour.specs.History.{meetings, events}
use Rattle.parlour.specs.Table.{image_after}
use Rattle.parlour.specs.Run.{Called}
use Rattle.parlour.specs.Claim.{is_accepted}
use Rattle.parlour.specs.Examples.{evaluated as parlour_evaluated}
use Rattle.traces.specs.Own.{is_of, milked, met, act, own}
use Rattle.traces.specs.Answer.{Answer, answers, exchange, seen_by, parts}

-- the calls of a list in which every item counts, as the claim of `parlour` says that they are
said : ℕ → List Item → List Called
said n [] = []
said n (milking stall yield ∷ l) =
    record { item = milking stall yield; before = image_after n l; answer = 0; after = image_after n (milking stall yield ∷ l); verdicts = [] } ∷ said n l
said n (meeting p q buffer ∷ l) =
    let next = meeting p q buffer ∷ l in
    record {
      item = meeting p q buffer;
      before = image_after n l;
      answer = label n (events next) (meetings next);
      after = image_after n next;
      verdicts = verdicts (events l) (meetings l) n p q;
    }
    ∷ said n l

-- a test, so that both sides are computed
same : List ℕ → List ℕ → Bool
same [] [] = true
same [] (b ∷ m) = false
same (a ∷ l) [] = false
same (a ∷ l) (b ∷ m) = eqb a b && same l m

-- which heads have the same bytes after two lists
same_heads : ℕ → List Item → List Item → List ℕ
same_heads n one other = keep (λ r. same (image_after n one r) (image_after n other r)) (up_to n)

-- the heads that each two neighbours have in common
in_common : ℕ → List Item → List (List ℕ)
in_common n [] = []
in_common n (a ∷ []) = []
in_common n (a ∷ b ∷ l) = keep (λ r. is_of a r && is_of b r) (up_to n) ∷ in_common n (b ∷ l)

unfoldable evaluated : Unit {0}
unfolding merge_evaluated parlour_evaluated is_of act own exchange seen_by parts is_accepted said same same_heads in_common
evaluated = tt

-- a meeting of two of n heads, and an answer
abbrev meet : ℕ → ℕ → ℕ → Item
meet n p q = meeting p q (replicate n 0)

abbrev answer : ℕ → List ℕ → Answer
answer number verdicts = record { number = number; verdicts = verdicts }

-- Either end of the cable: document 01's listing, its second meeting named either way

opened : List Item
opened = meet 3 1 2 ∷ milking 1 18 ∷ []

abbrev one_way : List Item
one_way = meet 3 2 3 ∷ opened

abbrev other_way : List Item
other_way = meet 3 3 2 ∷ opened

either_way : (answers (said 3 one_way) ≡ answer 0 (1 ∷ 1 ∷ 0 ∷ []) ∷ answers (said 3 opened))
    × (answers (said 3 other_way) ≡ answer 0 (2 ∷ 2 ∷ 0 ∷ []) ∷ answers (said 3 opened))
    × (same_heads 3 one_way other_way ≡ 1 ∷ 2 ∷ 3 ∷ [])
    × (image_after 3 other_way 3 ≡ listing)
unfolding evaluated opened
either_way = (refl, refl, refl, refl)

-- Trading places: document 003, example 2.4, N = 5 and c_12 c_13 c_14 c_45 c_25 c_24, here newest first

abbrev c : ℕ → ℕ → Item
c p q = meet 5 p q

before_last : List Item
before_last = c 4 5 ∷ c 1 4 ∷ c 1 3 ∷ c 1 2 ∷ []

example_2_4 : List Item
example_2_4 = c 2 4 ∷ c 2 5 ∷ before_last

-- every two neighbours of it have a head in common, so that none of its meetings may trade places ..
chained : in_common 5 example_2_4 ≡ (2 ∷ []) ∷ (5 ∷ []) ∷ (4 ∷ []) ∷ (1 ∷ []) ∷ (1 ∷ []) ∷ []
unfolding evaluated example_2_4 before_last
chained = refl

-- .. and where two do all the same, here the last two, with head 2 in both, other verdicts and other bytes come of it ..
forbidden : (answers (said 5 example_2_4) ≡ answer 0 (0 ∷ 1 ∷ 0 ∷ 0 ∷ 1 ∷ []) ∷ answer 0 (2 ∷ 0 ∷ 2 ∷ 2 ∷ 2 ∷ []) ∷ answers (said 5 before_last))
    × (answers (said 5 (c 2 5 ∷ c 2 4 ∷ before_last)) ≡ answer 0 (0 ∷ 1 ∷ 0 ∷ 1 ∷ 0 ∷ []) ∷ answer 0 (2 ∷ 0 ∷ 2 ∷ 2 ∷ 2 ∷ []) ∷ answers (said 5 before_last))
    × (same_heads 5 example_2_4 (c 2 5 ∷ c 2 4 ∷ before_last) ≡ 1 ∷ 3 ∷ [])
unfolding evaluated example_2_4 before_last
forbidden = (refl, refl, refl)

-- .. and labels can be others too: N = 3 and 1-2, 1-3, 1-2, 1-2, of which the second and the third, with head 1 in both, are exchanged ..
other_labels : (map (λ x. x.number) (answers (said 3 (meet 3 1 2 ∷ meet 3 1 2 ∷ meet 3 1 3 ∷ meet 3 1 2 ∷ []))) ≡ 2 ∷ 1 ∷ 0 ∷ 0 ∷ [])
    × (map (λ x. x.number) (answers (said 3 (meet 3 1 2 ∷ meet 3 1 3 ∷ meet 3 1 2 ∷ meet 3 1 2 ∷ []))) ≡ 0 ∷ 0 ∷ 1 ∷ 0 ∷ [])
unfolding evaluated
other_labels = (refl, refl)

-- .. but a meeting of 1 and 3 after example 2.4 may trade places with c_24: each takes its answer with it, and every head has the same bytes
traded : (answers (said 5 (c 1 3 ∷ example_2_4)) ≡ answer 1 (1 ∷ 0 ∷ 0 ∷ 1 ∷ 0 ∷ []) ∷ answer 0 (0 ∷ 1 ∷ 0 ∷ 0 ∷ 1 ∷ []) ∷ answers (said 5 (c 2 5 ∷ before_last)))
    × (answers (said 5 (c 2 4 ∷ c 1 3 ∷ c 2 5 ∷ before_last))
    ≡ answer 0 (0 ∷ 1 ∷ 0 ∷ 0 ∷ 1 ∷ []) ∷ answer 1 (1 ∷ 0 ∷ 0 ∷ 1 ∷ 0 ∷ []) ∷ answers (said 5 (c 2 5 ∷ before_last)))
    × (same_heads 5 (c 1 3 ∷ example_2_4) (c 2 4 ∷ c 1 3 ∷ c 2 5 ∷ before_last) ≡ 1 ∷ 2 ∷ 3 ∷ 4 ∷ 5 ∷ [])
unfolding evaluated example_2_4 before_last
traded = (refl, refl, refl)

-- Only each head's own order counts: N = 4, two lists whose meetings are named and ordered otherwise

one : List Item
one = meet 4 1 2 ∷ meet 4 3 2 ∷ milking 3 18 ∷ meet 4 3 4 ∷ meet 4 1 2 ∷ milking 1 7 ∷ []

other : List Item
other = meet 4 2 1 ∷ meet 4 2 3 ∷ meet 4 1 2 ∷ milking 1 7 ∷ milking 3 18 ∷ meet 4 4 3 ∷ []

own_lists : (map (own one) (up_to 4)
    ≡ (met 2 ∷ met 2 ∷ milked 7 ∷ []) ∷ (met 1 ∷ met 3 ∷ met 1 ∷ []) ∷ (met 2 ∷ milked 18 ∷ met 4 ∷ []) ∷ (met 3 ∷ []) ∷ [])
    × (map (own other) (up_to 4)
    ≡ (met 2 ∷ met 2 ∷ milked 7 ∷ []) ∷ (met 1 ∷ met 3 ∷ met 1 ∷ []) ∷ (met 2 ∷ milked 18 ∷ met 4 ∷ []) ∷ (met 3 ∷ []) ∷ [])
    × (same_heads 4 one other ≡ 1 ∷ 2 ∷ 3 ∷ 4 ∷ [])
unfolding evaluated one other
own_lists = (refl, refl, refl)

-- the parts of head 2, which is named first in none of its meetings of the first list and in two of the second
parts_of_2 : (map (λ x. x.answer) (parts (said 4 one) 2)
    ≡ answer 1 (0 ∷ 1 ∷ 1 ∷ 1 ∷ []) ∷ answer 0 (1 ∷ 1 ∷ 2 ∷ 2 ∷ []) ∷ answer 0 (0 ∷ 0 ∷ 0 ∷ 0 ∷ []) ∷ [])
    × (map (λ x. x.answer) (parts (said 4 other) 2)
    ≡ answer 1 (0 ∷ 1 ∷ 1 ∷ 1 ∷ []) ∷ answer 0 (1 ∷ 1 ∷ 2 ∷ 2 ∷ []) ∷ answer 0 (0 ∷ 0 ∷ 0 ∷ 0 ∷ []) ∷ [])
unfolding evaluated one other
parts_of_2 = (refl, refl)

-- with the milking of head 3 after its meeting with 2, every head's meetings are in the same order, but those who hear of 3 get no yield
late : List Item
late = meet 4 1 2 ∷ milking 3 18 ∷ meet 4 3 2 ∷ meet 4 3 4 ∷ meet 4 1 2 ∷ milking 1 7 ∷ []

milking_moved : same_heads 4 one late ≡ 4 ∷ []
unfolding evaluated one late
milking_moved = refl

-- Images from no list: heads 1 and 2 of 3, which met last, with this label, and have heard of stall 3, with this yield; nobody else was milked

last_met : ℕ → ℕ → ℕ → List ℕ
last_met label stall yield =
    (3 ∷ stall ∷ 0xff ∷ 0xff ∷ [])
    ++ (2 ∷ label ∷ 1 ∷ label ∷ 1 ∷ 0 ∷ [])
    ++ (2 ∷ label ∷ 1 ∷ label ∷ 1 ∷ 0 ∷ [])
    ++ (3 ∷ 0 ∷ 0 ∷ 0 ∷ 1 ∷ 0 ∷ [])
    ++ (0xff ∷ 0xff ∷ 0xff ∷ 0xff ∷ word_bytes yield)
    ++ (3 ∷ 3 ∷ 7 ∷ [])

-- The two tell other yields of the one meeting of stall 3 that both name: no list leaves such. Both keep what the first tells, and so other bytes the other way round.
no_law_of_images :
    (meeting_call (last_met 0 1 7) (last_met 0 2 9) (replicate 3 0)
    ≡ record { answer = 1; first = last_met 1 1 7; second = last_met 1 2 7; verdicts = 0 ∷ 0 ∷ 0 ∷ [] })
    × (meeting_call (last_met 0 2 9) (last_met 0 1 7) (replicate 3 0)
    ≡ record { answer = 1; first = last_met 1 2 9; second = last_met 1 1 9; verdicts = 0 ∷ 0 ∷ 0 ∷ [] })
unfolding evaluated last_met
no_law_of_images = (refl, refl)
