-- Runs of zeros: a part of one, zeros behind other bytes, and blocks of zeros one after the other.
use Prim.Native.Nat.{ℕ, zero, suc, ◌+◌, ◌-◌, ◌*◌, ◌≤◌}
use mathlib.Core.Path.{◌≡◌, refl, sym, ap, ap₂, ◌∙◌}
use mathlib.Core.List.{List, ◌∷◌, ◌++◌, append_assoc, append-nil}
use native.Mathlib.Omega.{arith}
use lib.ListN.{length, take, drop, replicate, replicate-append-replicate, drop_of_length-le}
use lib.Seq.{take-append-add, drop-append-add}
use Rattle.image.specs.Stalls.{each}

pub take_zeros : (k m : ℕ) → k ≤ m → take {A = ℕ} k (replicate m 0) ≡ replicate k 0
take_zeros zero m l = refl
take_zeros (suc k) zero l = absurd (omega arith)
take_zeros (suc k) (suc m) l = ap (λ r. 0 ∷ r) (take_zeros k m (omega arith))

pub drop_zeros : (k m : ℕ) → drop {A = ℕ} k (replicate m 0) ≡ replicate (m - k) 0
drop_zeros zero m = let e : m ≡ m - 0 = omega arith in ap (λ j. replicate {A = ℕ} j 0) e
drop_zeros (suc k) zero = let e : 0 ≡ 0 - suc k = omega arith in ap (λ j. replicate {A = ℕ} j 0) e
drop_zeros (suc k) (suc m) = let e : m - k ≡ suc m - suc k = omega arith in drop_zeros k m ∙ ap (λ j. replicate {A = ℕ} j 0) e

-- zeros behind p, in two parts
pub zeros_parted : (p : List ℕ) (m k j : ℕ) → m ≡ k + j → p ++ replicate m 0 ≡ p ++ replicate k 0 ++ replicate j 0
zeros_parted p m k j e =
    ap (λ i. p ++ replicate i 0) e ∙ ap (λ z. p ++ z) (sym (replicate-append-replicate k j 0)) ∙ sym (append_assoc p (replicate k 0) (replicate j 0))

-- zeros behind p, of which k bytes behind the first a are overwritten
pub zeros_between : (p x : List ℕ) (m a k : ℕ) → a ≤ m
    → take (length p + a) (p ++ replicate m 0) ++ x ++ drop (length p + a + k) (p ++ replicate m 0) ≡ p ++ replicate a 0 ++ x ++ replicate (m - (a + k)) 0
zeros_between p x m a k l =
    let e : length p + a + k ≡ length p + (a + k) = omega arith in
    ap₂ (λ f r. f ++ x ++ r)
    (take-append-add p (replicate m 0) a ∙ ap (λ z. p ++ z) (take_zeros a m l))
    (ap (λ j. drop j (p ++ replicate m 0)) e ∙ drop-append-add p (replicate m 0) (a + k) ∙ drop_zeros (a + k) m)

pub each_zeros : (n w : ℕ) → each n (λ r. replicate w 0) ≡ replicate (n * w) 0
unfolding each
each_zeros zero w = let e : 0 ≡ 0 * w = omega arith in ap (λ j. replicate {A = ℕ} j 0) e
each_zeros (suc n) w =
    let e : n * w + w ≡ suc n * w = omega arith in
    ap (λ l. l ++ replicate w 0) (each_zeros n w) ∙ replicate-append-replicate (n * w) w 0 ∙ ap (λ j. replicate {A = ℕ} j 0) e

-- zeros from a place on, as far as they are written
pub cleared : List ℕ → ℕ → ℕ → List ℕ
cleared d at i = take at d ++ replicate (i - at) 0 ++ drop i d

-- all of them, by whatever loop
pub cleared_end : (d : List ℕ) (at i : ℕ) → length d ≤ i → i - at ≡ length d - at → cleared d at i ≡ take at d ++ replicate (length d - at) 0
unfolding cleared
cleared_end d at i l e = ap₂ (λ k r. take at d ++ replicate k 0 ++ r) e (drop_of_length-le d l) ∙ append-nil _

-- from the front on, all of it
pub cleared_whole : (d z : List ℕ) → z ≡ take 0 d ++ replicate (length d - 0) 0 → z ≡ replicate (length d) 0
cleared_whole d z e = e ∙ ap (λ k. replicate k 0) (let i : length d - 0 ≡ length d = omega arith in i)

pub ruleset cleared_all = (cleared_whole)
