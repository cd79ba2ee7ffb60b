-- The rows and yields by value, as they are written.
use Prim.Native.Nat.{ℕ, ◌+◌, ◌-◌, ◌*◌, ◌≤◌}
use mathlib.Core.Path.{◌≡◌, refl, ap, ◌∙◌}
use mathlib.Core.Bool.{Bool, ◌||◌}
use mathlib.Core.List.{List, [], ◌∷◌}
use native.Mathlib.Omega.{arith}
use lib.Dec.{eqb}
use lib.ListN.{length, get_or, take, drop, replicate, length-drop}
use lib.Seq.{length-take-le, take_at}
use Rattle.image.specs.Stalls.{each}
use Rattle.image.specs.Layout.{row_place, yield_place, image_length, longest_row}
use Rattle.image.specs.Frame.{Framed}
use Rattle.image.proofs.Has.{length_each}
use Rattle.image.proofs.Places.{row_within}
use Rattle.merge.specs.Body.{source_of, source_stall, pair_at, latest_pair, body_row, body_yield, padded, row_in}
use Rattle.merge.proofs.pairs.PairRows.{each_agree, length_choice}

-- what stands before the zeros
pub take_padded : (n : ℕ) (l : List ℕ) → length l ≡ n * 2 → take (n * 2) (padded n l) ≡ l
take_padded n l e = take_at l (replicate (longest_row - n * 2) 0) (n * 2) e

module _ (s u : List ℕ) (n p q k : ℕ) (t : ℕ → Bool) where
  pub latest_wide : (c : ℕ) → length (latest_pair s u n p q k t c) ≡ 2
  unfolding latest_pair
  latest_wide c =
      length_choice 2 (q ∷ k ∷ []) _ (eqb c p) refl
      (length_choice 2 (p ∷ k ∷ []) (pair_at (source_of s u t c) (row_place n (source_stall p q t c) + (c - 1) * 2)) (eqb c q) refl refl)

  pub yield_wide : (r : ℕ) → length (body_yield s u n p q t r) ≡ 2
  unfolding body_yield
  yield_wide r =
      length_choice 2 (pair_at s 2) _ (eqb r p) refl
      (length_choice 2 (pair_at u 2) (pair_at (source_of s u t r) (yield_place n r)) (eqb r q) refl refl)

  pub row_wide : Framed s n p → Framed u n q → (r : ℕ) → 1 ≤ r → r ≤ n → length (body_row s u n p q k t r) ≡ n * 2
  unfolding body_row
  row_wide a b r i j =
      let source = source_of s u t r in
      let long = length_choice (image_length n) u s (t r) b.long a.long in
      length_choice (n * 2) (each n (latest_pair s u n p q k t)) (take (n * 2) (drop (row_place n r) source)) (eqb r p || eqb r q)
      (length_each 2 (latest_pair s u n p q k t) latest_wide n)
      (length-take-le (n * 2) (drop (row_place n r) source) (omega (arith, length-drop (row_place n r) source, long, row_within i j)))

  -- rows and yields by value
  module _ (a : Framed s n p) (b : Framed u n q) (rows : List (List ℕ)) (yields : List ℕ)
      (rows_are : (r : ℕ) → 1 ≤ r → r ≤ n → get_or rows (r - 1) [] ≡ padded n (body_row s u n p q k t r)) (yields_are : yields ≡ padded n (each n (body_yield s u n p q t))) where
    pub rows_in : each n (row_in rows n) ≡ each n (body_row s u n p q k t)
    rows_in =
        each_agree n (row_in rows n) (body_row s u n p q k t)
        (λ r i j. ap (take (n * 2)) (rows_are r i j) ∙ take_padded n (body_row s u n p q k t r) (row_wide a b r i j))

    pub yields_in : take (n * 2) yields ≡ each n (body_yield s u n p q t)
    yields_in =
        ap (take (n * 2)) yields_are ∙ take_padded n (each n (body_yield s u n p q t)) (length_each 2 (body_yield s u n p q t) yield_wide n)
