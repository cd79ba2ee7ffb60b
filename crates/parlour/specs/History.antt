-- What is read from a history, newest first: its meetings as events, and the yields.
use Rattle.std.specs.Prelude.{ℕ, suc, cond, List, [], ◌∷◌, eqb}
use Rattle.causality.specs.Event.{History}
use Rattle.causality.specs.Meetings as Meetings
use Rattle.image.specs.Layout.{no_yield}
use Rattle.parlour.specs.Item.{Item, milking, meeting}

-- how many meetings there were
unfoldable pub meetings : List Item → ℕ
meetings [] = 0
meetings (milking stall yield ∷ earlier) = meetings earlier
meetings (meeting first second buffer ∷ earlier) = suc (meetings earlier)

-- "A meeting is its place there: the same two heads again are another meeting." Places count the meetings from 1, and the event at place k + 1 is `events l k`;
-- what stands past the newest is never looked at.
unfoldable pub events : List Item → History
events [] k = Meetings.meeting 1 2
events (milking stall yield ∷ earlier) k = events earlier k
events (meeting first second buffer ∷ earlier) k = cond (eqb k (meetings earlier)) (Meetings.meeting first second) (events earlier k)

-- "a head's current yield": "that of its last milking .. that counts", or not milked
unfoldable pub yield_after : List Item → ℕ → ℕ
yield_after [] r = no_yield
yield_after (milking stall yield ∷ earlier) r = cond (eqb stall r) yield (yield_after earlier r)
yield_after (meeting first second buffer ∷ earlier) r = yield_after earlier r

-- "A stall's yield at a meeting is that of its last milking before it that counts", or not milked: the yield of stall r at the meeting at place k
unfoldable pub yield_at : List Item → ℕ → ℕ → ℕ
yield_at [] k r = no_yield
yield_at (milking stall yield ∷ earlier) k r = yield_at earlier k r
yield_at (meeting first second buffer ∷ earlier) k r = cond (eqb k (suc (meetings earlier))) (yield_after earlier r) (yield_at earlier k r)
