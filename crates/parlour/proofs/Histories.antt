-- What one more meeting adds to what is read from a history.
use Prim.Native.Nat.{ℕ, suc, ◌≤◌}
use mathlib.Core.Path.{◌≡◌, refl}
use mathlib.Core.Bool.{Bool, true, false, cond}
use mathlib.Core.List.{List, ◌∷◌}
use native.Mathlib.Omega.{arith}
use borrow.Author.Tests.{eq-eqb, ne_eqb}
use lib.Dec.{eqb}
use Rattle.causality.specs.Meetings as Meetings
use Rattle.causality.specs.Meetings.{Joins, Agree}
use Rattle.parlour.specs.Item.{Item, meeting}
use Rattle.parlour.specs.History.{meetings, events, yield_after, yield_at}

pub joins_meeting : {n p q : ℕ} → 1 ≤ p → p ≤ n → 1 ≤ q → q ≤ n → (p ≡ q → ⊥) → Joins n (Meetings.meeting p q)
unfolding Meetings.meeting
joins_meeting i j k l f = record { first_from = i; first_to = j; second_from = k; second_to = l; different = f }

module _ (p q : ℕ) (buffer : List ℕ) (l : List Item) where
  pub events_agree : Agree (events l) (events (meeting p q buffer ∷ l)) (meetings l)
  unfolding events
  events_agree = record { same = λ k i. rw (ne_eqb k (meetings l) (λ e. omega arith)) }

  pub events_next : events (meeting p q buffer ∷ l) (meetings l) ≡ Meetings.meeting p q
  unfolding events
  events_next = rw (eq-eqb (meetings l) (meetings l) refl)

  pub yields_agree : (k r : ℕ) → k ≤ meetings l → yield_at l k r ≡ yield_at (meeting p q buffer ∷ l) k r
  unfolding yield_at
  yields_agree k r i = rw (ne_eqb k (suc (meetings l)) (λ e. omega arith))

  pub yields_next : (r : ℕ) → yield_at (meeting p q buffer ∷ l) (suc (meetings l)) r ≡ yield_after l r
  unfolding yield_at
  yields_next r = rw (eq-eqb (suc (meetings l)) (suc (meetings l)) refl)

  pub joins_next : {n : ℕ} → Joins n (Meetings.meeting p q) → ((k : ℕ) → Joins n (events l k)) → (k : ℕ) → Joins n (events (meeting p q buffer ∷ l) k)
  unfolding events
  joins_next {n} new joins k = go (eqb k (meetings l))
    where
      go : (t : Bool) → Joins n (cond t (Meetings.meeting p q) (events l k))
      go true = new
      go false = joins k
