-- Document 01's examples of meetings as calls, by evaluation.
use Rattle.std.specs.Prelude.{ℕ, ◌≡◌, refl, List, [], ◌∷◌, ◌++◌, set}
use Rattle.image.specs.Fresh.{fresh_image}
use Rattle.image.specs.Examples.{not_milked, nine_first, nine_second}
use Rattle.merge.specs.Examples.{evaluated}
use Rattle.merge.specs.Call.{refused_meeting, meeting_call}

-- 7: two images of one stall, and two that differ in N, which comes before 8
one_stall : meeting_call (fresh_image 2 1) (fresh_image 2 1) (5 ∷ 5 ∷ []) ≡ refused_meeting (fresh_image 2 1) (fresh_image 2 1) (5 ∷ 5 ∷ []) 7
unfolding evaluated
one_stall = refl

two_sizes : meeting_call (fresh_image 2 1) (fresh_image 3 2) (5 ∷ []) ≡ refused_meeting (fresh_image 2 1) (fresh_image 3 2) (5 ∷ []) 7
unfolding evaluated
two_sizes = refl

-- 8: two fresh images of 2, buffer of 1
short_buffer : meeting_call (fresh_image 2 1) (fresh_image 2 2) (5 ∷ []) ≡ refused_meeting (fresh_image 2 1) (fresh_image 2 2) (5 ∷ []) 8
unfolding evaluated
short_buffer = refl

-- 9: two images that do not belong together
not_together : meeting_call nine_first nine_second (5 ∷ 5 ∷ []) ≡ refused_meeting nine_first nine_second (5 ∷ 5 ∷ []) 9
unfolding evaluated
not_together = refl

-- head 1 or 2 of a parlour of 2 after its first meeting: the current yield, and those of both stalls
abbrev after_first : ℕ → List ℕ → List ℕ → List ℕ
after_first stall current yields = (2 ∷ stall ∷ []) ++ current ++ (2 ∷ 0 ∷ 1 ∷ 0 ∷ 2 ∷ 0 ∷ 1 ∷ 0 ∷ []) ++ yields ++ (3 ∷ 3 ∷ [])

-- before any milking: label 0, verdicts 0, and both stalls are heard and not milked
first_meeting : meeting_call (fresh_image 2 1) (fresh_image 2 2) (5 ∷ 5 ∷ [])
    ≡ record { answer = 0; first = after_first 1 (not_milked 1) (not_milked 2); second = after_first 2 (not_milked 1) (not_milked 2); verdicts = 0 ∷ 0 ∷ [] }
unfolding evaluated
first_meeting = refl

-- head 1 milked with 0: a dry cow is told from a head that was not milked
dry_cow : meeting_call (set (set (fresh_image 2 1) 2 0) 3 0) (fresh_image 2 2) (5 ∷ 5 ∷ [])
    ≡ record { answer = 0; first = after_first 1 (0 ∷ 0 ∷ []) (0 ∷ 0 ∷ not_milked 1); second = after_first 2 (not_milked 1) (0 ∷ 0 ∷ not_milked 1); verdicts = 0 ∷ 0 ∷ [] }
unfolding evaluated
dry_cow = refl
