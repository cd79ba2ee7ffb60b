-- The row of each stall, by value.
use Prim.Native.Nat.{ℕ, suc, ◌+◌, ◌-◌, ◌*◌}
use mathlib.Core.Path.{◌≡◌, refl, ◌∙◌}
use mathlib.Core.Bool.{Bool, true, false, ◌||◌, cond}
use mathlib.Core.List.{List}
use native.Mathlib.Omega.{arith}
use native.Mathlib.Numerals.{add-one}
use lib.Dec.{eqb}
use lib.ListN.{take, drop}
use Rattle.image.specs.Stalls.{each}
use Rattle.merge.specs.Body.{padded, latest_pair, body_row}

-- one list or the other, with zeros behind it
padded_choice : (n : ℕ) (x y : List ℕ) (t : Bool) → cond t (padded n x) (padded n y) ≡ padded n (cond t x y)
padded_choice n x y true = refl
padded_choice n x y false = refl

-- the row of stall c + 1
pub row_is : (s u latest x : List ℕ) (t : ℕ → Bool) (theirs : Bool) (n p q k at c : ℕ) → theirs ≡ t (suc c) → at ≡ 4 + c * (n + n)
    → latest ≡ padded n (each n (latest_pair s u n p q k t))
    → x ≡ cond (eqb (c + 1) p || eqb (c + 1) q) latest (padded n (take (n * 2) (drop at (cond theirs u s))))
    → x ≡ padded n (body_row s u n p q k t (suc c))
unfolding body_row
row_is s u latest x t theirs n p q k at c d e f g =
    let h : suc c - 1 ≡ c = omega arith in
    g ∙ rw (d, e, f, add-one c, h) (padded_choice n _ _ (eqb (suc c) p || eqb (suc c) q))
