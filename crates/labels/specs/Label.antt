-- The label of a meeting, from the history alone.
-- Document 01, "What a list leaves": "Take the latests of both heads just before a meeting, for every stall, and in the past of each of these again the newest
-- meeting of every stall. The meeting's label is the lowest that none of them between the same two heads has."
use Rattle.std.specs.Prelude.{ℕ, zero, suc, Bool, false, ◌&&◌, ◌||◌, eqb, get_or}
use mathlib.Core.List.{List, [], ◌∷◌, ◌++◌, map, flat_map}
use Rattle.causality.specs.Event.{Event, History}
use Rattle.causality.specs.Clock.{latest, latest_in}
use Rattle.causality.specs.Best.{up_to}
use Rattle.labels.specs.Lowest.{keep, lowest_free}

-- the meetings that head z names after n of them: its latests, and the newest of every stall in the past of each (primary and secondary information)
unfoldable pub named : ℕ → History → ℕ → ℕ → List ℕ
named N h n z = map (latest h n z) (up_to N) ++ flat_map (λ s. map (latest_in h (latest h n z s)) (up_to N)) (up_to N)

-- two events join the same two
unfoldable pub same_pair : Event → Event → Bool
same_pair e f = eqb e.first f.first && eqb e.second f.second || eqb e.first f.second && eqb e.second f.first

-- the event at place k joins the two that e joins
unfoldable pub between : History → Event → ℕ → Bool
between h e zero = false
between h e (suc k) = same_pair e (h k)

-- the label at place k, of a list of labels that starts with place 1
unfoldable pub label_at : List ℕ → ℕ → ℕ
label_at l zero = 0
label_at l (suc k) = get_or l k 0

-- the meetings that the two of the next meeting name, as far as they are between these two
unfoldable pub current : ℕ → History → ℕ → List ℕ
current N h n = keep (between h (h n)) (named N h n (h n).first ++ named N h n (h n).second)

-- the labels of the first n meetings, oldest first
unfoldable pub labels : ℕ → History → ℕ → List ℕ
labels N h zero = []
labels N h (suc n) = let before = labels N h n in before ++ (lowest_free (map (label_at before) (current N h n)) ∷ [])

-- the label of the meeting at place k
unfoldable pub label : ℕ → History → ℕ → ℕ
label N h k = label_at (labels N h k) k
