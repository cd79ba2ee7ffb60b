-- Lists in which every number is a byte.
use Prim.Native.Nat.{ℕ, zero, suc, ◌+◌, ◌≤◌, ◌<◌}
use mathlib.Core.List.{List, [], ◌∷◌, ◌++◌}
use native.Mathlib.Omega.{arith}
use native.Mathlib.Decide.{dec_lt}
use lib.ListN.{get_or, take, drop, length-take, get_or-eq_default}
use lib.Seq.{get_or-take, get_or-drop}
use Rattle.image.specs.Stalls.{each}

abbrev pub Small : List ℕ → Type 0
Small l = (k : ℕ) → get_or l k 0 < 256

pub small_two : {a b : ℕ} → a < 256 → b < 256 → Small (a ∷ b ∷ [])
small_two l m zero = l
small_two l m (suc zero) = m
small_two l m (suc (suc k)) = omega arith

pub small_append : (a b : List ℕ) → Small a → Small b → Small (a ++ b)
small_append [] b f g k = g k
small_append (x ∷ a) b f g zero = f 0
small_append (x ∷ a) b f g (suc k) = small_append a b (λ j. f (suc j)) g k

pub small_within : (n : ℕ) (f : ℕ → List ℕ) → ((r : ℕ) → 1 ≤ r → r ≤ n → Small (f r)) → Small (each n f)
unfolding each
small_within zero f g = λ k. omega arith
small_within (suc n) f g = small_append (each n f) (f (suc n)) (small_within n f (λ r i j. g r i (omega arith))) (g (suc n) (omega arith) (omega arith))

pub small_each : (n : ℕ) (f : ℕ → List ℕ) → ((r : ℕ) → Small (f r)) → Small (each n f)
small_each n f g = small_within n f (λ r i j. g r)

pub small_take : (n : ℕ) (l : List ℕ) → Small l → Small (take n l)
small_take n l f k =
    elim (dec_lt k n) [
      | yes a ↦ rw (get_or-take n l k 0 a) (f k)
      | no a ↦ rw (get_or-eq_default (take n l) 0 {n = k} (omega (arith, length-take n l))) (omega arith)
    ]

pub small_drop : (n : ℕ) (l : List ℕ) → Small l → Small (drop n l)
small_drop n l f k = rw (get_or-drop n l k 0) (f (n + k))
