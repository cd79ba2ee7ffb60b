-- Demand 2: a meeting's verdict on each stall is document 003's best, from the accepted calls alone.
-- Document 01: "The verdict on stall r, when heads first and second meet, is document 003's "best" before that meeting: 1 if the first's latest is newer, 2 if the
-- second's is, 0 if equal."
use Rattle.std.specs.Prelude.{ℕ, ◌-◌, ◌≤◌, ◌≡◌, true, cond, List, [], ◌∷◌, length, get_or}
use Rattle.causality.specs.GoodPath.{BestByPath, winner}
use Rattle.parlour.specs.Item.{Item, meeting}
use Rattle.parlour.specs.History.{meetings, events}
use Rattle.parlour.specs.Run.{Called}
use Rattle.parlour.specs.Claim.{is_accepted, CallOf}

-- the items of the calls that were accepted
unfoldable pub accepted_items : List Called → List Item
accepted_items [] = []
accepted_items (c ∷ earlier) = cond (is_accepted c.item c.answer) (c.item ∷ accepted_items earlier) (accepted_items earlier)

-- the verdicts on the stalls 1 to n after these accepted items, when p and q meet, p first
pub record BestVerdicts (n : ℕ) (before : List Item) (p q : ℕ) (verdicts : List ℕ) : Type 0 where
  pub long : length verdicts ≡ n
  pub known : (r : ℕ) → 1 ≤ r → r ≤ n → get_or verdicts (r - 1) 0 ≤ 2
  pub best : (r : ℕ) → 1 ≤ r → r ≤ n → BestByPath (events before) (meetings before) p q r (winner p q (get_or verdicts (r - 1) 0))

abbrev pub VerdictsAreBest : ℕ → List Called → Type 0
VerdictsAreBest n calls =
    (c : Called) (earlier : List Called) → CallOf calls c earlier
    → (p q : ℕ) (buffer : List ℕ) → c.item ≡ meeting p q buffer → is_accepted c.item c.answer ≡ true
    → BestVerdicts n (accepted_items earlier) p q c.verdicts
