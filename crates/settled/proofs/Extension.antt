-- What comes later in a list changes no place of its history.
use Prim.Native.Nat.{ℕ, ◌≤◌}
use mathlib.Core.Path.{◌≡◌, refl, ap, ◌∙◌}
use mathlib.Core.Bool.{Bool, true, false, cond}
use mathlib.Core.List.{List, [], ◌∷◌, ◌++◌, map-append}
use native.Mathlib.Omega.{arith}
use Rattle.causality.specs.Meetings.{Agree}
use Rattle.parlour.specs.Item.{Item, milking, meeting, counts, history}
use Rattle.parlour.specs.History.{meetings, events}
use Rattle.parlour.specs.Run.{Called}
use Rattle.parlour.specs.Claim.{items}
use Rattle.parlour.proofs.Histories.{events_agree}

pub meetings_more : (later l : List Item) → meetings l ≤ meetings (later ++ l)
unfolding meetings
meetings_more [] l = omega arith
meetings_more (milking stall yield ∷ later) l = meetings_more later l
meetings_more (meeting p q buffer ∷ later) l = omega (arith, meetings_more later l)

pub places_stay : (later l : List Item) → Agree (events l) (events (later ++ l)) (meetings l)
unfolding events
places_stay [] l = record { same = λ k i. refl }
places_stay (milking stall yield ∷ later) l = record { same = (places_stay later l).same }
places_stay (meeting p q buffer ∷ later) l =
    record { same = λ k i. (places_stay later l).same k i ∙ (events_agree p q buffer (later ++ l)).same k (omega (arith, meetings_more later l)) }

-- the history of a longer list is a longer history
pub history_append : (n : ℕ) (later l : List Item) → history n (later ++ l) ≡ history n later ++ history n l
unfolding history
history_append n [] l = refl
history_append n (item ∷ later) l = go (counts n item) (history_append n later l)
  where
    go : (t : Bool) → history n (later ++ l) ≡ history n later ++ history n l
        → cond t (item ∷ history n (later ++ l)) (history n (later ++ l)) ≡ cond t (item ∷ history n later) (history n later) ++ history n l
    go true e = ap (λ x. item ∷ x) e
    go false e = e

pub history_longer : (n : ℕ) (later calls : List Called) → history n (items (later ++ calls)) ≡ history n (items later) ++ history n (items calls)
history_longer n later calls = ap (history n) (map-append (λ c. c.item) later calls) ∙ history_append n (items later) (items calls)
