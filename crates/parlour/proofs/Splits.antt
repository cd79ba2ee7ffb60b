-- A list split at one of its elements: that is its newest, or one of the rest.
use Prim.Native.Nat.{ℕ}
use mathlib.Core.Path.{◌≡◌, subst₂}
use mathlib.Core.List.{List, [], ◌∷◌, ◌++◌}
use native.Mathlib.Omega.{arith}

module _ {A : Type 0} (c : A) (earlier : List A) where
  pub of_newest : (P : A → List A → Type 0) (d : A) (l : List A) → P d l
      → ((later : List A) → l ≡ later ++ (c ∷ earlier) → P c earlier)
      → (later : List A) → d ∷ l ≡ later ++ (c ∷ earlier) → P c earlier
  of_newest P d l x f [] e =
      let i : d ≡ c = cc in
      let j : l ≡ earlier = cc in
      subst₂ P i j x
  of_newest P d l x f (y ∷ later) e = f later (let j : l ≡ later ++ (c ∷ earlier) = cc in j)

  pub of_none : (later : List A) → [] ≡ later ++ (c ∷ earlier) → ⊥
  of_none [] e = let z : ◌≡◌ {A = ℕ} 0 1 = cc in omega arith
  of_none (d ∷ later) e = let z : ◌≡◌ {A = ℕ} 0 1 = cc in omega arith
