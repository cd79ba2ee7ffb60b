-- The theorems of `parlour`, as one record with a field for each. `proofs/Theory.antt` proves it for every n.
use Rattle.std.specs.Prelude.{ℕ, ◌≤◌, ◌≡◌, List, [], ◌∷◌}
use Rattle.head.proofs.wilbryn_fresh.Statement as fresh
use Rattle.head.proofs.wilbryn_milking.Statement as milked
use Rattle.head.proofs.wilbryn_meeting.Statement as met
use Rattle.image.specs.Layout.{largest}
use Rattle.parlour.specs.Item.{Item, milking, meeting}
use Rattle.parlour.specs.Run.{Images, Called, Calls, RunBy, plain_calls, Run}
use Rattle.parlour.specs.Claim.{items, Claim}
use Rattle.parlour.specs.Verdict.{VerdictsAreBest}
use Rattle.parlour.specs.NotMilked.{NotMilked}

-- the items are of this parlour: "a milking of one head with any yield, and a meeting of two different heads"
abbrev pub Items : ℕ → List Item → Type 0
Items n [] = Unit {0}
Items n (milking stall yield ∷ earlier) = (1 ≤ stall) × (stall ≤ n) × Items n earlier
Items n (meeting p q buffer ∷ earlier) = (1 ≤ p) × (p ≤ n) × (1 ≤ q) × (q ≤ n) × (p ≡ q → ⊥) × Items n earlier

-- a list of such calls that makes these items
pub record RunOf (by : Calls) (n : ℕ) (list : List Item) : Type 0 where
  pub calls : List Called
  pub images : Images
  pub run : RunBy by n calls images
  pub makes : items calls ≡ list

pub record Theory (n : ℕ) : Type 0 where
  -- Demand 3.
  pub claim : (calls : List Called) (images : Images) → Run n calls images → Claim n calls images
  -- Demand 2.
  pub verdicts_are_best : (calls : List Called) (images : Images) → Run n calls images → VerdictsAreBest n calls
  -- Request 2026-01: ffff "means not milked".
  pub not_milked : (calls : List Called) (images : Images) → Run n calls images → NotMilked n calls images
  -- Every list has its calls.
  pub runs_exist : 2 ≤ n → n ≤ largest → (list : List Item) → Items n list → RunOf plain_calls n list

-- The three functions meet their contracts: each call is safe, returns, and what was read of its contract holds.
pub record Returns : Type 2 where
  pub fresh : {M : Type 1} → fresh.statement M
  pub milking : {M : Type 1} → milked.statement M
  pub meeting : {M : Type 1} → met.statement M
