-- Labels of worked lists, by evaluation.
use Rattle.std.specs.Prelude.{ℕ, ◌≡◌, refl, length}
use mathlib.Core.List.{[], ◌∷◌, map, flat_map}
use Rattle.causality.specs.Clock.{put, maxima, joined, clocks, latest, latest_in}
use Rattle.causality.specs.Best.{up_to}
use Rattle.causality.specs.Meetings.{meeting, meetings}
use Rattle.labels.specs.Lowest.{elem, seek, lowest_free, keep}
use Rattle.labels.specs.Label.{named, same_pair, between, label_at, current, labels, label}
use Rattle.labels.specs.Tight.{rounds, tight}

-- whoever unfolds this unfolds all that a label is computed with
unfoldable evaluated : Unit {0}
unfolding label labels current between same_pair named label_at lowest_free seek elem keep flat_map latest latest_in clocks joined put maxima up_to meeting meetings
evaluated = tt

-- N = 2, meeting 1-2 four times
two_heads : labels 2 (meetings (meeting 1 2 ∷ meeting 1 2 ∷ meeting 1 2 ∷ meeting 1 2 ∷ [])) 4 ≡ 0 ∷ 1 ∷ 0 ∷ 1 ∷ []
unfolding evaluated
two_heads = refl

-- N = 3, 1-2, 1-3, 1-2, 1-2, 1-2
three_heads : labels 3 (meetings (meeting 1 2 ∷ meeting 1 3 ∷ meeting 1 2 ∷ meeting 1 2 ∷ meeting 1 2 ∷ [])) 5 ≡ 0 ∷ 0 ∷ 1 ∷ 2 ∷ 1 ∷ []
unfolding evaluated
three_heads = refl

last_label : ℕ → ℕ
last_label N = label N (meetings (tight N)) (length (tight N))

-- the tight list's last label is N - 1, for N from 2 to 16
tight_labels : map last_label (2 ∷ 3 ∷ 4 ∷ 5 ∷ 6 ∷ 7 ∷ 8 ∷ 9 ∷ 10 ∷ 11 ∷ 12 ∷ 13 ∷ 14 ∷ 15 ∷ 16 ∷ [])
    ≡ 1 ∷ 2 ∷ 3 ∷ 4 ∷ 5 ∷ 6 ∷ 7 ∷ 8 ∷ 9 ∷ 10 ∷ 11 ∷ 12 ∷ 13 ∷ 14 ∷ 15 ∷ []
unfolding evaluated last_label tight rounds
tight_labels = refl
