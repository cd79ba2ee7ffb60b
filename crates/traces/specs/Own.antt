-- What stands in a list for one head.
-- Request 2026-03: "every head has its own milkings and meetings in the same order".
use Rattle.std.specs.Prelude.{ℕ, ◌≡◌, Bool, true, false, ◌||◌, cond, List, [], ◌∷◌, eqb}
use Rattle.parlour.specs.Item.{Item, milking, meeting}

-- head r takes part in the item
unfoldable pub is_of : Item → ℕ → Bool
is_of (milking stall yield) r = eqb stall r
is_of (meeting first second buffer) r = eqb first r || eqb second r

-- no head takes part in both
pub record Independent (a b : Item) : Type 0 where
  pub apart : (r : ℕ) → is_of a r ≡ true → is_of b r ≡ false

-- What a head does: it is milked with a yield, or it meets a partner. "The milker's cable has two ends and nobody marks them": which of the two was named first is not
-- in it, nor what the verdict buffer held before.
pub data Act : Type 0 where
  milked : (yield : ℕ) → Act
  met : (partner : ℕ) → Act

-- what head r, which takes part in it, does in an item
unfoldable pub act : Item → ℕ → Act
act (milking stall yield) r = milked yield
act (meeting first second buffer) r = met (cond (eqb first r) second first)

-- a head's "own milkings and meetings", newest first: the list's projection on the head
unfoldable pub own : List Item → ℕ → List Act
own [] r = []
own (item ∷ earlier) r = cond (is_of item r) (act item r ∷ own earlier r) (own earlier r)
