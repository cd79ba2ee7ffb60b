-- Worked histories, by evaluation.
use Rattle.std.specs.Prelude.{◌≡◌, refl, [], ◌∷◌, map}
use Rattle.causality.specs.Event.{History, takes_part}
use Rattle.causality.specs.Past.{last, newest}
use Rattle.causality.specs.Clock.{put, maxima, joined, clocks, latest, latest_in}
use Rattle.causality.specs.Best.{newer, best, best_in, up_to, verdicts}
use Rattle.causality.specs.Meetings.{meeting, meetings}
use Rattle.causality.specs.Messages.{send, receive, actor, message_of, messages, word}

-- Document 003, example 2.4: N = 5 and c_12 c_13 c_14 c_45 c_25 c_24
pub example_2_4 : History
example_2_4 = meetings (meeting 1 2 ∷ meeting 1 3 ∷ meeting 1 4 ∷ meeting 4 5 ∷ meeting 2 5 ∷ meeting 2 4 ∷ [])

-- latest_{a_1}(α, a_2) = 3 and latest_{a_1}(α, a_3) = 2
latests_2_4 : (latest example_2_4 6 2 1 ≡ 3) × (latest example_2_4 6 3 1 ≡ 2)
unfolding example_2_4 meetings meeting latest clocks joined put maxima
latests_2_4 = (refl, refl)

-- best before a meeting of 3 and 5, and instead of 1 and 2
bests_2_4 : (verdicts example_2_4 6 5 3 5 ≡ 2 ∷ 2 ∷ 0 ∷ 2 ∷ 2 ∷ []) × (verdicts example_2_4 6 5 1 2 ≡ 0 ∷ 2 ∷ 0 ∷ 2 ∷ 2 ∷ [])
unfolding example_2_4 meetings meeting verdicts up_to best newer latest clocks joined put maxima
bests_2_4 = (refl, refl)

-- Document 004, figure 1, with p, q, r as 1, 2, 3: ten actions, φ(4) = 2, φ(6) = 5, φ(8) = 3 and φ(9) = 1
pub figure_1 : History
figure_1 =
    messages 3
    (word
    (send 1 2
    ∷ send 1 3
    ∷ send 1 3
    ∷ receive 3 2
    ∷ send 3 2
    ∷ receive 2 5
    ∷ send 1 2
    ∷ receive 3 3
    ∷ receive 2 1
    ∷ send 3 2
    ∷ []))

-- max_q is 9; latest_{q←p} is 2 and not φ(9) = 1: q heard of it through r
latests_figure_1 : (last figure_1 10 2 ≡ 9) × (latest figure_1 10 2 1 ≡ 2) × (latest figure_1 10 2 3 ≡ 5) × (latest figure_1 10 3 1 ≡ 3)
unfolding figure_1 messages word actor message_of last newest takes_part latest clocks joined put maxima
latests_figure_1 = (refl, refl, refl, refl)

-- so when p's first message arrives, at place 9, the receiver has the newer news of p, and the sender of nobody
verdict_figure_1 : map (best_in figure_1 1 (last figure_1 8 2)) (up_to 3) ≡ 2 ∷ 2 ∷ 2 ∷ []
unfolding figure_1 messages word actor message_of last newest takes_part up_to best_in newer latest_in latest clocks joined put maxima
verdict_figure_1 = refl
