-- How many of 0 to t - 1 pass a test, and how many stalls of 1 to n do.
use Prim.Native.Nat.{ℕ, zero, suc, ◌+◌, ◌-◌, ◌≤◌, ◌<◌}
use mathlib.Core.Path.{◌≡◌, refl, sym, ap, ap₂, ◌∙◌}
use mathlib.Core.Bool.{Bool, true, false, cond, true≢false}
use native.Mathlib.Omega.{arith}
use native.Mathlib.Decide.{ℕ_discrete}
use Rattle.image.specs.Stalls.{count, count_stalls}

-- at most t,
pub count_le : (t : ℕ) (u : ℕ → Bool) → count t u ≤ t
unfolding count
count_le zero u = omega arith
count_le (suc t) u = go (u t) (count_le t u)
  where
    go : (b : Bool) → count t u ≤ t → count t u + cond b 1 0 ≤ suc t
    go true l = omega arith
    go false l = omega arith

-- at least m where all below m do,
pub count_below : (t m : ℕ) (u : ℕ → Bool) → m ≤ t → ((k : ℕ) → k < m → u k ≡ true) → m ≤ count t u
unfolding count
count_below zero m u l f = omega arith
count_below (suc t) m u l f =
    elim (ℕ_discrete m (suc t)) [
      | yes i ↦ rw (f t (omega arith)) (omega (arith, count_below t t u (omega arith) (λ k j. f k (omega arith))))
      | no i ↦ omega (arith, count_below t m u (omega arith) f)
    ]

-- at least one where one does,
pub count_some : (t k : ℕ) (u : ℕ → Bool) → k < t → u k ≡ true → 1 ≤ count t u
unfolding count
count_some zero k u l e = absurd (omega arith)
count_some (suc t) k u l e =
    elim (ℕ_discrete k t) [
      | yes i ↦ rw (ap u (sym i) ∙ e) (omega arith)
      | no i ↦ omega (arith, count_some t k u (omega arith) e)
    ]

-- and none where none does
pub count_none : (t : ℕ) (u : ℕ → Bool) → ((k : ℕ) → k < t → u k ≡ false) → count t u ≡ 0
unfolding count
count_none zero u f = refl
count_none (suc t) u f = rw (f t (omega arith), count_none t u (λ k l. f k (omega arith)))

-- so all of them only where each does
pub count_full : (t : ℕ) (u : ℕ → Bool) → count t u ≡ t → (k : ℕ) → k < t → u k ≡ true
unfolding count
count_full zero u e k l = absurd (omega arith)
count_full (suc t) u e k l = go (u t) refl e (λ i j. count_full t u i k j)
  where
    go : (b : Bool) → u t ≡ b → count t u + cond b 1 0 ≡ suc t → (count t u ≡ t → k < t → u k ≡ true) → u k ≡ true
    go true i j more = elim (ℕ_discrete k t) [ yes a ↦ ap u a ∙ i | no a ↦ more (omega arith) (omega arith) ]
    go false i j more = absurd (omega (arith, count_le t u))

-- two tests that agree
pub count_agree : (t : ℕ) (u v : ℕ → Bool) → ((k : ℕ) → k < t → u k ≡ v k) → count t u ≡ count t v
unfolding count
count_agree zero u v e = refl
count_agree (suc t) u v e = ap₂ (λ x b. x + cond b 1 0) (count_agree t u v (λ k l. e k (omega arith))) (e t (omega arith))

-- no fewer where a test passes whatever another does
pub count_grows : (t : ℕ) (u v : ℕ → Bool) → ((k : ℕ) → u k ≡ true → v k ≡ true) → count t u ≤ count t v
unfolding count
count_grows zero u v f = omega arith
count_grows (suc t) u v f = go (u t) refl (v t) refl (count_grows t u v f)
  where
    go : (a : Bool) → u t ≡ a → (b : Bool) → v t ≡ b → count t u ≤ count t v → count t u + cond a 1 0 ≤ count t v + cond b 1 0
    go true i true j l = omega arith
    go true i false j l = absurd (true≢false (sym (f t i) ∙ j))
    go false i true j l = omega arith
    go false i false j l = omega arith

-- The same of stalls

module _ (n : ℕ) (f : ℕ → Bool) where
  shifted : (s : ℕ) → 1 ≤ s → f (suc (s - 1)) ≡ f s
  shifted s l = let e : suc (s - 1) ≡ s = omega arith in ap f e

  pub stalls_some : (s : ℕ) → 1 ≤ s → s ≤ n → f s ≡ true → 1 ≤ count_stalls n f
  stalls_some s a b e = count_some n (s - 1) (λ k. f (suc k)) (omega arith) (shifted s a ∙ e)

  pub stalls_none : ((s : ℕ) → 1 ≤ s → s ≤ n → f s ≡ false) → count_stalls n f ≡ 0
  stalls_none e = count_none n (λ k. f (suc k)) (λ k l. e (suc k) (omega arith) (omega arith))

  pub stalls_full : count_stalls n f ≡ n → (s : ℕ) → 1 ≤ s → s ≤ n → f s ≡ true
  stalls_full e s a b = sym (shifted s a) ∙ count_full n (λ k. f (suc k)) e (s - 1) (omega arith)

pub stalls_agree : (n : ℕ) (f g : ℕ → Bool) → ((s : ℕ) → 1 ≤ s → s ≤ n → f s ≡ g s) → count_stalls n f ≡ count_stalls n g
stalls_agree n f g e = count_agree n (λ k. f (suc k)) (λ k. g (suc k)) (λ k l. e (suc k) (omega arith) (omega arith))
