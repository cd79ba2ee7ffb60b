-- The lowest free number is free, everything below it is taken, and it is at most the length of any list that has all that is taken.
use Prim.Native.Nat.{ℕ, zero, suc, ◌+◌, ◌≤◌, ◌<◌}
use mathlib.Core.Path.{◌≡◌, refl, sym, ap, subst, ◌∙◌}
use mathlib.Core.Bool.{Bool, true, false, cond}
use mathlib.Core.Logic.{◌⊎◌, inl, inr}
use mathlib.Core.List.Memᴰ
use mathlib.Core.List.{List, [], ◌∷◌, Memᴰ}
use native.Mathlib.Omega.{arith}
use native.Mathlib.Decide.{dec_lt}
use lib.Dec.{T}
use lib.ListN.{length}
use Rattle.labels.specs.Lowest.{elem, seek, lowest_free}
use Rattle.labels.proofs.Members.{elem_mem, mem_elem}

-- a list without one of its members
record Without (l : List ℕ) (v : ℕ) : Type 0 where
  rest : List ℕ
  shorter : length l ≡ suc (length rest)
  kept : (k : ℕ) → Memᴰ k l → (k ≡ v → ⊥) → Memᴰ k rest

without : (l : List ℕ) (v : ℕ) → Memᴰ v l → Without l v
without [] v m = absurd (Memᴰ.not-nil m)
without (a ∷ l) v m =
    elim (Memᴰ.cases_cons m) [
      | inl e ↦ record {
        rest = l;
        shorter = refl;
        kept = λ k u f. elim (Memᴰ.cases_cons u) [ inl i ↦ absurd (f (i ∙ sym e)) | inr w ↦ w ];
      }
      | inr n ↦ let w = without l v n in
          record {
            rest = a ∷ w.rest;
            shorter = ap suc w.shorter;
            kept = λ k u f. elim (Memᴰ.cases_cons u) [ inl i ↦ Memᴰ.head i | inr x ↦ Memᴰ.tail (w.kept k x f) ];
          }
    ]

-- the pigeonhole principle
pub pigeonhole : (n : ℕ) (l : List ℕ) → ((k : ℕ) → k < n → Memᴰ k l) → n ≤ length l
pigeonhole zero l f = omega arith
pigeonhole (suc n) l f =
    let w = without l n (f n (omega arith)) in
    let a = pigeonhole n w.rest (λ k b. w.kept k (f k (omega arith)) (λ e. omega arith)) in
    omega (arith, w.shorter)

-- the search passes only what the list has, and stops where it has not, or when its turns are over
seek_below : (turns k : ℕ) (l : List ℕ) (j : ℕ) → k ≤ j → j < seek turns k l → Memᴰ j l
unfolding seek
seek_below zero k l j a b = absurd (omega arith)
seek_below (suc turns) k l j a b = go (elem k l) (elem_mem k l) (seek_below turns (suc k) l j) b
  where
    go : (t : Bool) → (T t → Memᴰ k l) → (suc k ≤ j → j < seek turns (suc k) l → Memᴰ j l) → j < cond t (seek turns (suc k) l) k → Memᴰ j l
    go true e below c =
        elim (dec_lt k j) [ yes d ↦ below d c | no f ↦ let i : k ≡ j = omega arith in subst (λ z. Memᴰ z l) i (e tt) ]
    go false e below c = absurd (omega arith)

seek_stops : (turns k : ℕ) (l : List ℕ) → (Memᴰ (seek turns k l) l → ⊥) ⊎ (seek turns k l ≡ k + turns)
unfolding seek
seek_stops zero k l = inr (omega arith)
seek_stops (suc turns) k l = go (elem k l) (mem_elem k l) (seek_stops turns (suc k) l)
  where
    go : (t : Bool) → (Memᴰ k l → T t) → (Memᴰ (seek turns (suc k) l) l → ⊥) ⊎ (seek turns (suc k) l ≡ suc k + turns)
        → (Memᴰ (cond t (seek turns (suc k) l) k) l → ⊥) ⊎ (cond t (seek turns (suc k) l) k ≡ k + suc turns)
    go true e (inl f) = inl f
    go true e (inr i) = inr (omega arith)
    go false e s = inl e

pub lowest_below : (l : List ℕ) (k : ℕ) → k < lowest_free l → Memᴰ k l
unfolding lowest_free
lowest_below l k a = seek_below (length l) 0 l k (omega arith) a

pub lowest_free_lem : (l : List ℕ) → Memᴰ (lowest_free l) l → ⊥
unfolding lowest_free
lowest_free_lem l m =
    elim (seek_stops (length l) 0 l) [
      | inl f ↦ f m
      | inr e ↦ let below = lowest_below l in
          let a = pigeonhole (suc (lowest_free l)) l (λ k b. elim (dec_lt k (lowest_free l)) [ yes c ↦ below k c | no f ↦ let i : lowest_free l ≡ k = omega arith in subst (λ z. Memᴰ z l) i m ]) in
          omega arith
    ]

pub lowest_le : (l c : List ℕ) → ((k : ℕ) → Memᴰ k l → Memᴰ k c) → lowest_free l ≤ length c
lowest_le l c f = pigeonhole (lowest_free l) c (λ k a. f k (lowest_below l k a))
