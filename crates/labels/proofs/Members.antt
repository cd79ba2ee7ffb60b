-- What is in the lists that the label rule goes through.
use Prim.Native.Nat.{ℕ, zero, suc, ◌≤◌, ◌<◌}
use mathlib.Core.Path.{◌≡◌, refl, ap, subst, ◌∙◌}
use mathlib.Core.Bool.{Bool, true, false, cond, not}
use mathlib.Core.Logic.{◌⊎◌, inl, inr}
use mathlib.Core.List.Memᴰ
use mathlib.Core.List.{List, [], ◌∷◌, ◌++◌, flat_map, append-nil, Memᴰ}
use native.Mathlib.Omega.{arith}
use native.Mathlib.Decide.{ℕ_discrete, dec_le}
use lib.Dec.{T, eqb, eqb→eq, eqb_refl}
use borrow.Author.Tests.{eq-eqb, ne_eqb}
use lib.ListN.{length, length-append}
use Rattle.causality.specs.Best.{up_to}
use Rattle.causality.proofs.Events.{T_dec, or_cases, or_left, or_right}
use Rattle.labels.specs.Lowest.{elem, keep}

-- the test of a list for a number
pub elem_mem : (k : ℕ) (l : List ℕ) → T (elem k l) → Memᴰ k l
unfolding elem
elem_mem k [] t = absurd t
elem_mem k (a ∷ l) t =
    elim (or_cases (eqb k a) (elem k l) t) [
      | inl e ↦ Memᴰ.head (eqb→eq k a e)
      | inr u ↦ Memᴰ.tail (elem_mem k l u)
    ]

pub mem_elem : (k : ℕ) (l : List ℕ) → Memᴰ k l → T (elem k l)
unfolding elem
mem_elem k [] m = Memᴰ.not-nil m
mem_elem k (a ∷ l) m =
    elim (Memᴰ.cases_cons m) [
      | inl e ↦ or_left (eqb k a) (elem k l) (subst (λ z. T (eqb k z)) e (eqb_refl k))
      | inr u ↦ or_right (eqb k a) (elem k l) (mem_elem k l u)
    ]

pub mem_dec : (k : ℕ) (l : List ℕ) → Dec (Memᴰ k l)
mem_dec k l = elim (T_dec (elem k l)) [ yes t ↦ yes (elem_mem k l t) | no f ↦ no (λ m. f (mem_elem k l m)) ]

-- what a test picks
pub mem_keep : (f : ℕ → Bool) (l : List ℕ) {k : ℕ} → Memᴰ k (keep f l) → Memᴰ k l × T (f k)
unfolding keep
mem_keep f [] m = absurd (Memᴰ.not-nil m)
mem_keep f (a ∷ l) {k} m = go (f a) refl (mem_keep f l) m
  where
    go : (b : Bool) → f a ≡ b → (Memᴰ k (keep f l) → Memᴰ k l × T (f k)) → Memᴰ k (cond b (a ∷ keep f l) (keep f l)) → Memᴰ k (a ∷ l) × T (f k)
    go true e below m =
        elim (Memᴰ.cases_cons m) [
          | inl i ↦ (Memᴰ.head i, rw (i, e) tt)
          | inr u ↦ let (v, t) = below u in (Memᴰ.tail v, t)
        ]
    go false e below m = let (v, t) = below m in (Memᴰ.tail v, t)

pub keep_mem : (f : ℕ → Bool) (l : List ℕ) {k : ℕ} → Memᴰ k l → T (f k) → Memᴰ k (keep f l)
unfolding keep
keep_mem f [] m t = absurd (Memᴰ.not-nil m)
keep_mem f (a ∷ l) {k} m t = go (f a) refl (λ u. keep_mem f l u t) (Memᴰ.cases_cons m)
  where
    go : (b : Bool) → f a ≡ b → (Memᴰ k l → Memᴰ k (keep f l)) → (k ≡ a) ⊎ Memᴰ k l → Memᴰ k (cond b (a ∷ keep f l) (keep f l))
    go true e below (inl i) = Memᴰ.head i
    go true e below (inr u) = Memᴰ.tail (below u)
    go false e below (inl i) = absurd (rw (i, e) at t)
    go false e below (inr u) = below u

pub keep_agree : (f g : ℕ → Bool) (l : List ℕ) → ((k : ℕ) → Memᴰ k l → f k ≡ g k) → keep f l ≡ keep g l
unfolding keep
keep_agree f g [] e = refl
keep_agree f g (a ∷ l) e = rw (e a (Memᴰ.head refl), keep_agree f g l (λ k m. e k (Memᴰ.tail m)))

keep_append : (f : ℕ → Bool) (l m : List ℕ) → keep f (l ++ m) ≡ keep f l ++ keep f m
unfolding keep
keep_append f [] m = refl
keep_append f (a ∷ l) m = go (f a) (keep_append f l m)
  where
    go : (b : Bool) → keep f (l ++ m) ≡ keep f l ++ keep f m → cond b (a ∷ keep f (l ++ m)) (keep f (l ++ m)) ≡ cond b (a ∷ keep f l) (keep f l) ++ keep f m
    go true e = ap (λ z. a ∷ z) e
    go false e = e

-- the processes 1 to N
pub mem_up_to : (n : ℕ) {k : ℕ} → Memᴰ k (up_to n) → (1 ≤ k) × (k ≤ n)
unfolding up_to
mem_up_to zero m = absurd (Memᴰ.not-nil m)
mem_up_to (suc n) m =
    elim (Memᴰ.append_cases (up_to n) m) [
      | inl u ↦ let (a, b) = mem_up_to n u in (a, omega arith)
      | inr u ↦ let e = Memᴰ.eq_of_singleton u in (omega arith, omega arith)
    ]

pub up_to_mem : (n : ℕ) {k : ℕ} → 1 ≤ k → k ≤ n → Memᴰ k (up_to n)
unfolding up_to
up_to_mem zero a b = absurd (omega arith)
up_to_mem (suc n) {k} a b =
    elim (dec_le k n) [
      | yes l ↦ Memᴰ.append_left (suc n ∷ []) (up_to_mem n a l)
      | no f ↦ Memᴰ.append_right (up_to n) (Memᴰ.head (let e : k ≡ suc n = omega arith in e))
    ]

-- all of them but q
pub others : ℕ → ℕ → List ℕ
others n q = keep (λ u. not (eqb u q)) (up_to n)

pub others_mem : (n q : ℕ) {u : ℕ} → 1 ≤ u → u ≤ n → (u ≡ q → ⊥) → Memᴰ u (others n q)
unfolding others
others_mem n q {u} a b f = keep_mem (λ v. not (eqb v q)) (up_to n) (up_to_mem n a b) (rw (ne_eqb u q f) tt)

others_same : (n : ℕ) → length (others (suc n) (suc n)) ≡ length (others n (suc n))
unfolding others up_to keep
others_same n = rw (keep_append (λ u. not (eqb u (suc n))) (up_to n) (suc n ∷ []), eq-eqb (suc n) (suc n) refl, append-nil)

others_more : (n q : ℕ) → (suc n ≡ q → ⊥) → length (others (suc n) q) ≡ suc (length (others n q))
unfolding others up_to keep
others_more n q f =
    rw (keep_append (λ u. not (eqb u q)) (up_to n) (suc n ∷ []), ne_eqb (suc n) q f, length-append) (omega arith)

others_all : (n q : ℕ) → n < q → length (others n q) ≡ n
unfolding others up_to keep
others_all zero q l = refl
others_all (suc n) q l = others_more n q (λ e. omega arith) ∙ ap suc (others_all n q (omega arith))

pub length_others : (n q : ℕ) → 1 ≤ q → q ≤ n → suc (length (others n q)) ≡ n
length_others zero q a b = absurd (omega arith)
length_others (suc n) q a b =
    elim (ℕ_discrete (suc n) q) [
      | yes e ↦ rw (← e) (ap suc (others_same n ∙ others_all n (suc n) (omega arith)))
      | no f ↦ ap suc (others_more n q f ∙ length_others n q a (omega arith))
    ]

-- a list of lists put together
pub mem_flat_map : {A : Type 0} (f : A → List ℕ) (l : List A) {k : ℕ} → Memᴰ k (flat_map f l) → (a : A) × Memᴰ a l × Memᴰ k (f a)
unfolding flat_map
mem_flat_map f [] m = absurd (Memᴰ.not-nil m)
mem_flat_map f (a ∷ l) m =
    elim (Memᴰ.append_cases (f a) m) [
      | inl u ↦ (a, Memᴰ.head refl, u)
      | inr u ↦ let (b, v, w) = mem_flat_map f l u in (b, Memᴰ.tail v, w)
    ]

pub flat_map_mem : {A : Type 0} (f : A → List ℕ) (l : List A) {a : A} {k : ℕ} → Memᴰ a l → Memᴰ k (f a) → Memᴰ k (flat_map f l)
unfolding flat_map
flat_map_mem f [] m u = absurd (Memᴰ.not-nil m)
flat_map_mem f (b ∷ l) {a} {k} m u =
    elim (Memᴰ.cases_cons m) [
      | inl e ↦ Memᴰ.append_left (flat_map f l) (subst (λ z. Memᴰ k (f z)) e u)
      | inr v ↦ Memᴰ.append_right (f b) (flat_map_mem f l v u)
    ]
