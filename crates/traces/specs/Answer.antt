-- What calls answer, in the order of the list and for one head.
use Rattle.std.specs.Prelude.{ℕ, ◌&&◌, cond, List, [], ◌∷◌, map, eqb}
use Rattle.parlour.specs.Item.{Item, milking, meeting}
use Rattle.parlour.specs.Run.{Called}
use Rattle.parlour.specs.Claim.{is_accepted}
use Rattle.traces.specs.Own.{is_of, Act, act}

-- what a call returned, the label of a meeting that was accepted, and what its verdict buffer held afterwards
pub record Answer : Type 0 where
  pub number : ℕ
  pub verdicts : List ℕ

-- the answers of a list of calls, newest first
abbrev pub answer_of : Called → Answer
answer_of c = record { number = c.answer; verdicts = c.verdicts }

abbrev pub answers : List Called → List Answer
answers calls = map answer_of calls

-- "verdicts 1 and 2 exchanged"
unfoldable pub exchange : ℕ → ℕ
exchange verdict = cond (eqb verdict 1) 2 (cond (eqb verdict 2) 1 verdict)

-- the answer as if head r had been named first
unfoldable pub seen_by : ℕ → Item → Answer → Answer
seen_by r (milking stall yield) answer = answer
seen_by r (meeting first second buffer) answer =
    record { number = answer.number; verdicts = cond (eqb first r) answer.verdicts (map exchange answer.verdicts) }

-- an act of a head, and what it was answered
pub record Part : Type 0 where
  pub did : Act
  pub answer : Answer

-- the parts of head r in the accepted calls, newest first
unfoldable pub parts : List Called → ℕ → List Part
parts [] r = []
parts (c ∷ earlier) r =
    cond (is_accepted c.item c.answer && is_of c.item r)
    (record { did = act c.item r; answer = seen_by r c.item (answer_of c) } ∷ parts earlier r)
    (parts earlier r)
