-- A list overwritten: at a place, and behind what is written.
use Prim.Native.Nat.{ℕ, suc, ◌+◌, ◌≤◌, ◌<◌}
use mathlib.Core.Path.{◌≡◌, sym, ap, ap₂, ◌∙◌}
use mathlib.Core.List.{List, [], ◌∷◌, ◌++◌}
use native.Mathlib.Omega.{arith}
use native.Mathlib.Numerals.{add-one}
use lib.ListN.{length, take, drop, set}
use lib.Seq.{sets-eq, drop-cons, set_at, append_snoc, take_at, drop-append-add, drop-drop}

-- one byte more behind what is written
pub store_next : (d p : List ℕ) (i v : ℕ) → length p ≡ i → i < length d → set (p ++ drop i d) i v ≡ p ++ (v ∷ []) ++ drop (i + 1) d
store_next d p i v e l =
    rw add-one (ap (λ r. set (p ++ r) i v) (drop-cons d i 0 l) ∙ set_at p _ (drop (suc i) d) v i e ∙ sym (append_snoc p v (drop (suc i) d)))

-- two bytes at a place
pub store_two : (d : List ℕ) (at x y : ℕ) → at + 2 ≤ length d → set (set d at x) (at + 1) y ≡ take at d ++ (x ∷ y ∷ []) ++ drop (at + 2) d
store_two d at x y l = let a : at + 1 ≡ suc at = omega arith in rw a (sets-eq (x ∷ y ∷ []) d at l)

-- three bytes at a place
pub store_three : (d : List ℕ) (at x y z : ℕ) → at + 3 ≤ length d
    → set (set (set d at x) (at + 1) y) (at + 2) z ≡ take at d ++ (x ∷ y ∷ z ∷ []) ++ drop (at + 3) d
store_three d at x y z l =
    let a : at + 1 ≡ suc at = omega arith in
    let b : at + 2 ≡ suc (suc at) = omega arith in
    rw (a, b) (sets-eq (x ∷ y ∷ z ∷ []) d at l)

-- more of d overwritten behind what is written
pub behind : (p d x : List ℕ) (at k : ℕ) → length p ≡ at → take at (p ++ drop at d) ++ x ++ drop (at + k) (p ++ drop at d) ≡ p ++ x ++ drop (at + k) d
behind p d x at k e =
    ap₂ (λ a b. a ++ x ++ b) (take_at p (drop at d) at e)
    (ap (λ j. drop (j + k) (p ++ drop at d)) (sym e) ∙ drop-append-add p (drop at d) k ∙ drop-drop k at d)
