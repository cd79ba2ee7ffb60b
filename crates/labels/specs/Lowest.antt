-- The lowest number that a list does not have.
use Rattle.std.specs.Prelude.{ℕ, zero, suc, Bool, false, ◌||◌, cond, List, [], ◌∷◌, eqb, length}

-- the list has k
unfoldable pub elem : ℕ → List ℕ → Bool
elem k [] = false
elem k (a ∷ l) = eqb k a || elem k l

-- the first of k, k + 1, .. that the list does not have, or the last of them after so many turns
unfoldable pub seek : ℕ → ℕ → List ℕ → ℕ
seek zero k l = k
seek (suc turns) k l = let next = seek turns (suc k) l in cond (elem k l) next k

-- as many turns as the list is long are enough
unfoldable pub lowest_free : List ℕ → ℕ
lowest_free l = seek (length l) 0 l

-- what a test picks of a list
unfoldable pub keep : (ℕ → Bool) → List ℕ → List ℕ
keep f [] = []
keep f (a ∷ l) = cond (f a) (a ∷ keep f l) (keep f l)
