-- The first kind of event: a meeting of two processes, c_ij of document 003.
use Rattle.std.specs.Prelude.{ℕ, ◌≤◌, ◌<◌, ◌≡◌, List, get_or}
use Rattle.causality.specs.Event.{Event, History}

-- the meeting of p and q, p named first
unfoldable pub meeting : ℕ → ℕ → Event
meeting p q = record { first = p; second = q }

-- a list of meetings as a history; what stands past its end is never looked at
unfoldable pub meetings : List Event → History
meetings l k = get_or l k (meeting 1 2)

-- an event joins two different processes of 1 to N
pub record Joins (N : ℕ) (e : Event) : Type 0 where
  pub first_from : 1 ≤ e.first
  pub first_to : e.first ≤ N
  pub second_from : 1 ≤ e.second
  pub second_to : e.second ≤ N
  pub different : e.first ≡ e.second → ⊥

-- two histories that have the same first n events
pub record Agree (h g : History) (n : ℕ) : Type 0 where
  pub same : (k : ℕ) → k < n → h k ≡ g k
