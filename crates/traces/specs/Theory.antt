-- The theorems of `traces`, as one record with a field for each, of lists of calls in whatever form heads keep their tables. `proofs/Theory.antt` proves it of the calls on
-- plain images, for every n.
use Rattle.std.specs.Prelude.{ℕ, ◌≤◌, ◌≡◌, List, ◌∷◌, ◌++◌, map, length}
use Rattle.merge.specs.Call.{MeetingOutcome}
use Rattle.parlour.specs.Item.{Item, meeting, history}
use Rattle.parlour.specs.Run.{Images, Called, Calls, RunBy}
use Rattle.parlour.specs.Claim.{items}
use Rattle.traces.specs.Own.{Independent, own}
use Rattle.traces.specs.Answer.{Answer, answers, exchange, parts}

-- a meeting that is lent these gives this outcome
abbrev pub Gives : Calls → List ℕ → List ℕ → List ℕ → MeetingOutcome → Type 0
Gives by first second buffer o = by.meeting first second buffer o.answer o.first o.second o.verdicts

-- "a meeting with the two named the other way gives the same label, the same bytes in both heads and verdicts 1 and 2 exchanged"
pub record Turned (one other : MeetingOutcome) : Type 0 where
  pub label : one.answer ≡ other.answer
  pub first : one.first ≡ other.second
  pub second : one.second ≡ other.first
  pub verdicts : map exchange one.verdicts ≡ other.verdicts

-- two lists of answers that are the same but for two neighbours, so many places from the newest, which have traded places
pub record Traded (later : ℕ) (one other : List Answer) : Type 0 where
  pub newer : List Answer
  pub a : Answer
  pub b : Answer
  pub older : List Answer
  pub at : length newer ≡ later
  pub is_one : one ≡ newer ++ (a ∷ b ∷ older)
  pub is_other : other ≡ newer ++ (b ∷ a ∷ older)

-- the same bytes in every head of a parlour
abbrev pub SameBytes : ℕ → Images → Images → Type 0
SameBytes n images images' = (r : ℕ) → 1 ≤ r → r ≤ n → images r ≡ images' r

pub record Theory (by : Calls) (n : ℕ) : Type 0 where
  -- "For heads of one fresh parlour after any accepted list, a meeting with the two named the other way gives the same label, the same bytes in both heads and
  -- verdicts 1 and 2 exchanged." That both are accepted is the claim of `parlour`.
  pub either_end : (calls : List Called) (images : Images) → RunBy by n calls images
      → (p q : ℕ) → 1 ≤ p → p ≤ n → 1 ≤ q → q ≤ n → (p ≡ q → ⊥)
      → (b c : List ℕ) → length b ≡ n → length c ≡ n
      → (one other : MeetingOutcome) → Gives by (images p) (images q) b one → Gives by (images q) (images p) c other
      → Turned one other
  -- "Further, two neighbouring meetings of four different heads may trade places, each keeping its label and verdicts,"
  pub trade_places : (calls calls' : List Called) (images images' : Images) → RunBy by n calls images → RunBy by n calls' images'
      → (later earlier : List Item) (p q r s : ℕ) (b c : List ℕ)
      → (p ≡ r → ⊥) → (p ≡ s → ⊥) → (q ≡ r → ⊥) → (q ≡ s → ⊥)
      → items calls ≡ later ++ (meeting p q b ∷ meeting r s c ∷ earlier) → items calls' ≡ later ++ (meeting r s c ∷ meeting p q b ∷ earlier)
      → Traded (length later) (answers calls) (answers calls') × SameBytes n images images'
  -- and so may any two neighbours that have no head in common, refused or not
  pub trade_independent : (calls calls' : List Called) (images images' : Images) → RunBy by n calls images → RunBy by n calls' images'
      → (later earlier : List Item) (a b : Item) → Independent a b
      → items calls ≡ later ++ (a ∷ b ∷ earlier) → items calls' ≡ later ++ (b ∷ a ∷ earlier)
      → Traded (length later) (answers calls) (answers calls') × SameBytes n images images'
  -- "and two accepted lists in which every head has its own milkings and meetings in the same order end in the same bytes everywhere." A meeting may be named with either
  -- head first in either list, and refused calls may stand anywhere. Beside it: each of a head's milkings and meetings is answered the same in both, seen from that head.
  pub own_order : (calls calls' : List Called) (images images' : Images) → RunBy by n calls images → RunBy by n calls' images'
      → ((r : ℕ) → 1 ≤ r → r ≤ n → own (history n (items calls)) r ≡ own (history n (items calls')) r)
      → SameBytes n images images' × ((r : ℕ) → 1 ≤ r → r ≤ n → parts calls r ≡ parts calls' r)
