-- Rows of pairs, filled from the front, one pair a stall.
use Prim.Native.Nat.{ℕ, zero, suc, ◌+◌, ◌-◌, ◌*◌, ◌≤◌}
use mathlib.Core.Path.{◌≡◌, refl, ap, ap₂, ◌∙◌}
use mathlib.Core.Bool.{Bool, true, false, cond}
use mathlib.Core.List.{List, [], ◌∷◌, ◌++◌}
use native.Mathlib.Omega.{arith}
use native.Mathlib.Numerals.{add-one}
use lib.Dec.{eqb}
use lib.ListN.{length, drop, set, replicate, length-append, length-replicate}
use lib.Seq.{sets-eq, take_at, drop-append-add}
use Rattle.image.specs.Layout.{largest, longest_row}
use Rattle.image.specs.Stalls.{each}
use Rattle.image.proofs.Has.{length_each}
use Rattle.merge.specs.declared.pairs.Pair.{Pair}
use Rattle.merge.specs.declared.pairs.Side.{Side}
use Rattle.merge.specs.Body.{pair_at, pair_bytes, padded, mixed_pair}
use Rattle.image.proofs.Zeros.{drop_zeros}

-- two functions that agree on 1 to n
pub each_agree : (n : ℕ) (f g : ℕ → List ℕ) → ((r : ℕ) → 1 ≤ r → r ≤ n → f r ≡ g r) → each n f ≡ each n g
unfolding each
each_agree zero f g e = refl
each_agree (suc n) f g e = ap₂ ◌++◌ (each_agree n f g (λ s a b. e s a (omega arith))) (e (suc n) (omega arith) (omega arith))

-- one of two lists of one length
pub length_choice : (m : ℕ) (x y : List ℕ) (t : Bool) → length x ≡ m → length y ≡ m → length (cond t x y) ≡ m
length_choice m x y true a b = a
length_choice m x y false a b = b

-- a row of n pairs has the bytes of the longest
pub length_padded : (n : ℕ) (l : List ℕ) → n ≤ largest → length l ≡ n * 2 → length (padded n l) ≡ longest_row
length_padded n l a e = length-append l (replicate (longest_row - n * 2) 0) ∙ omega (arith, length-replicate {A = ℕ} (longest_row - n * 2) 0)

module _ (f : ℕ → List ℕ) (wide : (r : ℕ) → length (f r) ≡ 2) where
  -- the zeros behind
  rest : (k : ℕ) → drop (k * 2 + 2) (padded k (each k f)) ≡ replicate (longest_row - suc k * 2) 0
  rest k =
      let a : k * 2 + 2 ≡ length (each k f) + 2 = omega (arith, length_each 2 f wide k) in
      let b : longest_row - k * 2 - 2 ≡ longest_row - suc k * 2 = omega arith in
      ap (λ j. drop j (padded k (each k f))) a ∙ drop-append-add (each k f) (replicate (longest_row - k * 2) 0) 2 ∙ drop_zeros 2 (longest_row - k * 2)
      ∙ ap (λ j. replicate {A = ℕ} j 0) b

  -- one pair more
  pub pairs_next : (row : List ℕ) (k x y : ℕ) → suc k ≤ largest → row ≡ padded k (each k f) → x ∷ y ∷ [] ≡ f (suc k)
      → set (set row (k + k) x) (k + k + 1) y ≡ padded (k + 1) (each (k + 1) f)
  unfolding each
  pairs_next row k x y l e g =
      let i : k + k ≡ k * 2 = omega arith in
      let long = length_padded k (each k f) (omega arith) (length_each 2 f wide k) in
      rw (add-one (k + k), i, e, add-one k)
      (sets-eq (x ∷ y ∷ []) (padded k (each k f)) (k * 2) (omega (arith, long))
      ∙ ap₂ (λ p q. p ++ (x ∷ y ∷ []) ++ q) (take_at (each k f) (replicate (longest_row - k * 2) 0) (k * 2) (length_each 2 f wide k)) (rest k)
      ∙ ap (λ r. each k f ++ r ++ replicate (longest_row - suc k * 2) 0) g)

module _ (s : List ℕ) (a : Side) (u : List ℕ) (b : Side) (t : ℕ → Bool) where
  pub mixed_wide : (r : ℕ) → length (mixed_pair s a u b t r) ≡ 2
  unfolding mixed_pair
  mixed_wide r =
      length_choice 2 (pair_bytes a.own) _ (eqb r a.stall) refl
      (length_choice 2 (pair_bytes b.own) _ (eqb r b.stall) refl
      (length_choice 2 (pair_at u (b.at + (r - 1) * 2)) (pair_at s (a.at + (r - 1) * 2)) (t r) refl refl))

-- the pair of stall k + 1
pub mixed_at : (s : List ℕ) (a : Side) (u : List ℕ) (b : Side) (t : ℕ → Bool) (k : ℕ) (theirs : Bool) (x : Pair) → theirs ≡ t (suc k)
    → pair_bytes x ≡ cond (eqb (k + 1) a.stall) (pair_bytes a.own) (cond (eqb (k + 1) b.stall) (pair_bytes b.own) (cond theirs (pair_at u (b.at + (k + k))) (pair_at s (a.at + (k + k)))))
    → pair_bytes x ≡ mixed_pair s a u b t (suc k)
unfolding mixed_pair
mixed_at s a u b t k theirs x f e =
    let i : suc k - 1 ≡ k = omega arith in
    let j : k * 2 ≡ k + k = omega arith in
    rw (i, j) (rw (add-one k, f) at e)
