-- The new list of latests, and the yields, as pairs from the head that each stall comes from.
use Prim.Native.Nat.{ℕ, ◌+◌, ◌-◌, ◌*◌}
use mathlib.Core.Path.{◌≡◌, refl, ap, ◌∙◌}
use mathlib.Core.Bool.{Bool, true, false, cond}
use mathlib.Core.List.{List, [], ◌∷◌}
use Rattle.image.specs.Stalls.{each}
use Rattle.image.specs.Layout.{row_place, yield_place, yields_place}
use Rattle.merge.specs.declared.pairs.Side.{Side}
use Rattle.merge.specs.Body.{pair_at, pair_bytes, padded, mixed_pair, latest_pair, body_yield}
use Rattle.merge.proofs.pairs.PairRows.{each_agree}

-- one test for the image and the place
name_from : (s u : List ℕ) (n p q x : ℕ) (t : Bool) → cond t (pair_at u (row_place n q + x)) (pair_at s (row_place n p + x)) ≡ pair_at (cond t u s) (row_place n (cond t q p) + x)
name_from s u n p q x true = refl
name_from s u n p q x false = refl

yield_from : (s u : List ℕ) (i : ℕ) (t : Bool) → cond t (pair_at u i) (pair_at s i) ≡ pair_at (cond t u s) i
yield_from s u i true = refl
yield_from s u i false = refl

module _ (s u r : List ℕ) (t : ℕ → Bool) (n p q : ℕ) (a b : Side) (is_p : a.stall ≡ p) (is_q : b.stall ≡ q)
    (is_r : r ≡ padded n (each n (mixed_pair s a u b t))) where
  mixed_is : (g : ℕ → List ℕ) → ((c : ℕ) → mixed_pair s a u b t c ≡ g c) → r ≡ padded n (each n g)
  mixed_is g e = is_r ∙ ap (padded n) (each_agree n _ g (λ c i j. e c))

  pub mixed_latest : (k : ℕ) → a.at ≡ row_place n p → b.at ≡ row_place n q → pair_bytes a.own ≡ q ∷ k ∷ [] → pair_bytes b.own ≡ p ∷ k ∷ []
      → r ≡ padded n (each n (latest_pair s u n p q k t))
  unfolding mixed_pair latest_pair
  mixed_latest k e f g h =
      mixed_is (latest_pair s u n p q k t) (λ c. rw (is_p, is_q, e, f, g, h, name_from s u n p q ((c - 1) * 2) (t c)))

  pub mixed_yields : a.at ≡ yields_place n → b.at ≡ yields_place n → pair_bytes a.own ≡ pair_at s 2 → pair_bytes b.own ≡ pair_at u 2
      → r ≡ padded n (each n (body_yield s u n p q t))
  unfolding mixed_pair body_yield
  mixed_yields e f g h =
      mixed_is (body_yield s u n p q t) (λ c. rw (is_p, is_q, e, f, g, h, yield_from s u (yield_place n c) (t c)))
