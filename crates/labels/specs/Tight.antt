-- The list of meetings that needs the most labels: 12, 13, 12, 14, .., 12, 1N, 12, 12.
use Rattle.std.specs.Prelude.{ℕ, zero, suc, ◌+◌, ◌-◌, List, [], ◌∷◌, ◌++◌}
use Rattle.causality.specs.Event.{Event}
use Rattle.causality.specs.Meetings.{meeting}

-- before each of the stalls 3 to k + 2 meets stall 1, stalls 1 and 2 meet
unfoldable pub rounds : ℕ → List Event
rounds zero = []
rounds (suc k) = rounds k ++ (meeting 1 2 ∷ meeting 1 (k + 3) ∷ [])

unfoldable pub tight : ℕ → List Event
tight N = rounds (N - 2) ++ (meeting 1 2 ∷ meeting 1 2 ∷ [])
