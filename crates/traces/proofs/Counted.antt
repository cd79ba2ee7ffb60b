-- Lists of a parlour's items, one by one, and those in which every item counts.
use Prim.Native.Nat.{ℕ, ◌≤◌}
use mathlib.Core.Path.{◌≡◌, refl}
use mathlib.Core.Bool.{Bool, true, false, cond}
use mathlib.Core.List.{List, [], ◌∷◌}
use Rattle.parlour.specs.Item.{Item, milking, meeting, counts, history}
use Rattle.parlour.specs.Theory.{Items}
use Rattle.traces.specs.Own.{is_of}
use Rattle.traces.proofs.TakingPart.{EachHead, of_each}

-- an item of the parlour and a list of such
pub items_more : (n : ℕ) (a : Item) (l : List Item) → Items n (a ∷ []) → Items n l → Items n (a ∷ l)
items_more n (milking stall yield) l (i, j, t) w = (i, j, w)
items_more n (meeting p q buffer) l (i, j, k, m, f, t) w = (i, j, k, m, f, w)

items_split : (n : ℕ) (a : Item) (l : List Item) → Items n (a ∷ l) → Items n (a ∷ []) × Items n l
items_split n (milking stall yield) l (i, j, w) = ((i, j, tt), w)
items_split n (meeting p q buffer) l (i, j, k, m, f, w) = ((i, j, k, m, f, tt), w)

-- the heads of an item are in the parlour
pub in_range : (n : ℕ) (a : Item) → Items n (a ∷ []) → (r : ℕ) → is_of a r ≡ true → (1 ≤ r) × (r ≤ n)
in_range n a w = of_each (λ r. (1 ≤ r) × (r ≤ n)) a (go a w)
  where
    go : (a : Item) → Items n (a ∷ []) → EachHead (λ r. (1 ≤ r) × (r ≤ n)) a
    go (milking stall yield) (i, j, t) = (i, j)
    go (meeting p q buffer) (i, j, k, h, f, t) = ((i, j), (k, h))

-- an item of this parlour that counts, and a list of such
abbrev pub Counts : ℕ → Item → Type 0
Counts n a = Items n (a ∷ []) × (counts n a ≡ true)

abbrev pub AllCount : ℕ → List Item → Type 0
AllCount n [] = Unit {0}
AllCount n (a ∷ l) = Counts n a × AllCount n l

pub count_items : (n : ℕ) (l : List Item) → AllCount n l → Items n l
count_items n [] w = tt
count_items n (a ∷ l) (x, w) = items_more n a l x.0 (count_items n l w)

-- the items of a history count
pub all_count : (n : ℕ) (l : List Item) → Items n l → AllCount n (history n l)
unfolding history
all_count n [] w = tt
all_count n (a ∷ l) w = let (x, y) = items_split n a l w in go (counts n a) refl x (all_count n l y)
  where
    go : (t : Bool) → counts n a ≡ t → Items n (a ∷ []) → AllCount n (history n l) → AllCount n (cond t (a ∷ history n l) (history n l))
    go true e x v = ((x, e), v)
    go false e x v = v
