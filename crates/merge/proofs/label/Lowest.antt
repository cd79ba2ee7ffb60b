-- The lowest number that does not pass a test, and the zeros below the lowest digit that is set.
use Prim.Native.Nat.{ℕ, zero, suc, ◌+◌, ◌-◌, ◌/◌, ◌%◌, ◌^◌, ◌≤◌, ◌<◌}
use mathlib.Core.Path.{◌≡◌, refl, sym, ap, ap₂, ◌∙◌}
use mathlib.Core.Bool.{Bool, true, false, cond}
use native.Mathlib.Omega.{arith}
use native.Mathlib.Nat.{pow-succ', div-div-eq-div-mul}
use native.Mathlib.Decide.{ℕ_discrete}
use borrow.Author.Tests.{ne_eqb}
use lib.Dec.{eqb}
use lib.Count.{count_trailing_zeros, under}
use Rattle.image.specs.Stalls.{has}
use Rattle.merge.specs.Label.{lowest_from}
use Rattle.merge.specs.LabelSet.{has_label}

-- two tests that agree on what is tried
pub lowest_agree : (t k : ℕ) (u v : ℕ → Bool) → ((j : ℕ) → k ≤ j → j < k + t → u j ≡ v j) → lowest_from t k u ≡ lowest_from t k v
unfolding lowest_from
lowest_agree zero k u v e = refl
lowest_agree (suc t) k u v e =
    ap₂ (λ b x. cond b x k) (e k (omega arith) (omega arith)) (lowest_agree t (suc k) u v (λ j a b. e j (omega arith) (omega arith)))

-- it is one of the turns, or the last of them
pub lowest_to : (t k : ℕ) (u : ℕ → Bool) → lowest_from t k u ≤ k + t
unfolding lowest_from
lowest_to zero k u = omega arith
lowest_to (suc t) k u = go (u k) (lowest_to t (suc k) u)
  where
    go : (b : Bool) {x : ℕ} → x ≤ suc k + t → cond b x k ≤ k + suc t
    go true l = omega arith
    go false l = omega arith

-- all below it pass the test
pub lowest_below : (t k : ℕ) (u : ℕ → Bool) (j : ℕ) → k ≤ j → j < lowest_from t k u → u j ≡ true
unfolding lowest_from
lowest_below zero k u j a b = absurd (omega arith)
lowest_below (suc t) k u j a b = go (u k) refl (lowest_below t (suc k) u j) b
  where
    go : (c : Bool) → u k ≡ c → {x : ℕ} → (suc k ≤ j → j < x → u j ≡ true) → j < cond c x k → u j ≡ true
    go true e f l = elim (ℕ_discrete j k) [ yes i ↦ ap u i ∙ e | no i ↦ f (omega arith) l ]
    go false e f l = absurd (omega arith)

-- and it does not, unless all that were tried did
pub lowest_stops : (t k : ℕ) (u : ℕ → Bool) → lowest_from t k u < k + t → u (lowest_from t k u) ≡ false
unfolding lowest_from
lowest_stops zero k u l = absurd (omega arith)
lowest_stops (suc t) k u l = go (u k) refl (lowest_stops t (suc k) u) l
  where
    go : (c : Bool) → u k ≡ c → {x : ℕ} → (x < suc k + t → u x ≡ false) → cond c x k < k + suc t → u (cond c x k) ≡ false
    go true e f m = f (omega arith)
    go false e f m = e

-- what is found is the only one that does not pass and has none such below it
pub lowest_is : (t k m : ℕ) (u : ℕ → Bool) → k ≤ m → m < k + t → ((j : ℕ) → k ≤ j → j < m → u j ≡ true) → u m ≡ false → lowest_from t k u ≡ m
unfolding lowest_from
lowest_is zero k m u a b f e = absurd (omega arith)
lowest_is (suc t) k m u a b f e =
    elim (ℕ_discrete m k) [
      | yes i ↦ ap (λ c. cond c (lowest_from t (suc k) u) k) (sym (ap u i) ∙ e) ∙ sym i
      | no i ↦
          ap (λ c. cond c (lowest_from t (suc k) u) k) (f k (omega arith) (omega arith))
          ∙ lowest_is t (suc k) m u (omega arith) (omega arith) (λ j p q. f j (omega arith) q) e
    ]

-- the zeros below the lowest digit that is set
lowest_trailing : (t k y : ℕ) (u : ℕ → Bool) → ((j : ℕ) → j < t → u (k + j) ≡ eqb (y / 2 ^ j % 2) 0) → lowest_from t k u ≡ k + count_trailing_zeros t y
unfolding lowest_from count_trailing_zeros
lowest_trailing zero k y u e = omega arith
lowest_trailing (suc t) k y u e =
    go (y % 2) first (count_trailing_zeros t (y / 2))
    (lowest_trailing t (suc k) (y / 2) u (λ j l.
    let i : suc k + j ≡ k + suc j = omega arith in
    ap u i ∙ e (suc j) (omega arith) ∙ ap (λ x. eqb (y / x % 2) 0) (pow-succ' 2 j) ∙ ap (λ x. eqb (x % 2) 0) (sym (div-div-eq-div-mul y 2 (2 ^ j)))))
  where
    first : u k ≡ eqb (y % 2) 0
    first =
        let i : k ≡ k + 0 = omega arith in
        let o : y / 1 ≡ y = omega arith in
        ap u i ∙ e 0 (omega arith) ∙ ap (λ x. eqb (x % 2) 0) o

    go : (d : ℕ) → u k ≡ eqb d 0 → {x : ℕ} (z : ℕ) → x ≡ suc k + z → cond (u k) x k ≡ k + under d z
    go zero i z l = rw i (omega arith)
    go (suc d) i z l = rw (i ∙ ne_eqb (suc d) 0 (λ e. omega arith)) (omega arith)

flip : (d e : ℕ) → d < 2 → e ≡ 1 - d → eqb e 0 ≡ eqb d 1
flip zero e l i = ap (λ x. eqb x 0) i
flip (suc zero) e l i = ap (λ x. eqb x 0) i
flip (suc (suc d)) e l i = absurd (omega arith)

-- the complement has the digits that the number has not
other_digit : (n x j : ℕ) → x < 2 ^ n → j < n → eqb ((2 ^ n - 1 - x) / 2 ^ j % 2) 0 ≡ eqb (x / 2 ^ j % 2) 1
other_digit zero x j l m = absurd (omega arith)
other_digit (suc n) x zero l m =
    flip (x / 1 % 2) ((2 ^ suc n - 1 - x) / 1 % 2) (omega arith) (omega (arith, pow-succ' 2 n))
other_digit (suc n) x (suc j) l m =
    let h : (2 ^ suc n - 1 - x) / 2 ≡ 2 ^ n - 1 - x / 2 = omega (arith, pow-succ' 2 n) in
    let a : (2 ^ suc n - 1 - x) / 2 ^ suc j ≡ (2 ^ n - 1 - x / 2) / 2 ^ j =
    ap (λ d. (2 ^ suc n - 1 - x) / d) (pow-succ' 2 j) ∙ sym (div-div-eq-div-mul (2 ^ suc n - 1 - x) 2 (2 ^ j)) ∙ ap (λ z. z / 2 ^ j) h in
    let b : x / 2 ^ suc j ≡ x / 2 / 2 ^ j = ap (λ d. x / d) (pow-succ' 2 j) ∙ sym (div-div-eq-div-mul x 2 (2 ^ j)) in
    rw (a, b) (other_digit n (x / 2) j (omega (arith, pow-succ' 2 n)) (omega arith))

has_digit : (x j : ℕ) → has x (0 + j + 1) ≡ eqb (x / 2 ^ j % 2) 1
unfolding has
has_digit x j = let e : 0 + j + 1 - 1 ≡ j = omega arith in ap (λ i. eqb (x / 2 ^ i % 2) 1) e

pub lowest_other : (n x : ℕ) → x < 2 ^ n → count_trailing_zeros n (2 ^ n - 1 - x) ≡ lowest_from n 0 (has_label x)
lowest_other n x l =
    let e : 0 + count_trailing_zeros n (2 ^ n - 1 - x) ≡ count_trailing_zeros n (2 ^ n - 1 - x) = omega arith in
    sym (lowest_trailing n 0 (2 ^ n - 1 - x) (has_label x) (λ j m. has_digit x j ∙ sym (other_digit n x j l m)) ∙ e)
