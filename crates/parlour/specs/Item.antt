-- The items of a list, and which of them count.
-- Document 01, "What a list leaves": "Its items: a milking of one head with any yield, and a meeting of two different heads, either first, with a verdict buffer of
-- its own of any length." Lists stand newest first: behind an item stands what came before it.
use Rattle.std.specs.Prelude.{ℕ, Bool, cond, List, [], ◌∷◌, leb, eqb, length}
use Rattle.image.specs.Layout.{yield_limit}

pub data Item : Type 0 where
  milking : (stall yield : ℕ) → Item
  meeting : (first second : ℕ) (buffer : List ℕ) → Item

-- "A milking *counts* when its yield is at most 999, a meeting when its buffer has N bytes. No other item does."
unfoldable pub counts : ℕ → Item → Bool
counts n (milking stall yield) = leb yield yield_limit
counts n (meeting first second buffer) = eqb (length buffer) n

-- "The history is the items that count, in order."
unfoldable pub history : ℕ → List Item → List Item
history n [] = []
history n (item ∷ earlier) = cond (counts n item) (item ∷ history n earlier) (history n earlier)
