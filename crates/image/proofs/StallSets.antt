-- Sets of stalls that other sets are made of, by `&`, `|` and taking away: each is the set that a test picks.
use Prim.Native.Nat.{ℕ, zero, suc, ◌+◌, ◌-◌, ◌^◌, ◌≤◌, ◌<◌}
use mathlib.Core.Path.{◌≡◌, refl, sym, ap, ap₂, ◌∙◌}
use mathlib.Core.Bool.{Bool, true, false, ◌&&◌, ◌||◌, not, cond, true≢false}
use native.Mathlib.Omega.{arith}
use native.Mathlib.Nat.{pow-succ'}
use native.Mathlib.Decide.{dec_le, ℕ_discrete}
use borrow.Author.Tests.{eq-eqb, ne_eqb, le-leb, lt-leb}
use lib.Bits.{bit_and, bit_or, and_le_l, or_lt}
use lib.Dec.{eqb, leb}
use lib.Pow.{pow_pos}
use Rattle.image.specs.Stalls.{some, bits, has, without, bit_of}
use Rattle.image.proofs.Bits.{has_ext, has_and, has_or, has_zero, has_bits, bits_lt, bit_of_is, Found, at, nowhere, some_found, bits_agree, bits_none}

-- what a set of 1 to n has
pub has_in : (n : ℕ) (f : ℕ → Bool) (s : ℕ) → 1 ≤ s → s ≤ n → has (bits n f) s ≡ f s
has_in n f s a b = has_bits n f s a ∙ ap (λ t. t && f s) (le-leb s n b)

pub has_at : (n : ℕ) (f : ℕ → Bool) {x : ℕ} → x ≡ bits n f → (s : ℕ) → 1 ≤ s → s ≤ n → has x s ≡ f s
has_at n f e s a b = ap (λ k. has k s) e ∙ has_in n f s a b

-- a set, or nothing; one set or another
pub pick_bits : (t : Bool) (n : ℕ) (f : ℕ → Bool) → cond t (bits n f) 0 ≡ bits n (λ s. t && f s)
pick_bits true n f = refl
pick_bits false n f = sym (bits_none n)

pub choice_bits : (t : Bool) (n : ℕ) (f g : ℕ → Bool) → cond t (bits n f) (bits n g) ≡ bits n (λ s. cond t (f s) (g s))
choice_bits true n f g = refl
choice_bits false n f g = refl

-- what a set has in common with any number
pub mask_bits : (n : ℕ) (f : ℕ → Bool) (x : ℕ) → bit_and (bits n f) x ≡ bits n (λ s. f s && has x s)
mask_bits n f x =
    has_ext n _ _ (omega (arith, and_le_l (bits n f) x, bits_lt n f)) (bits_lt n _)
    (λ s a b. has_and (bits n f) x s a ∙ ap (λ t. t && has x s) (has_in n f s a b) ∙ sym (has_in n (λ s. f s && has x s) s a b))

pub and_bits : (n : ℕ) (f g : ℕ → Bool) → bit_and (bits n f) (bits n g) ≡ bits n (λ s. f s && g s)
and_bits n f g = mask_bits n f (bits n g) ∙ bits_agree n _ _ (λ s a b. ap (λ t. f s && t) (has_in n g s a b))

pub or_bits : (n : ℕ) (f g : ℕ → Bool) → bit_or (bits n f) (bits n g) ≡ bits n (λ s. f s || g s)
or_bits n f g =
    has_ext n _ _ (or_lt n _ _ (bits_lt n f) (bits_lt n g)) (bits_lt n _)
    (λ s a b. has_or (bits n f) (bits n g) s a ∙ ap₂ ◌||◌ (has_in n f s a b) (has_in n g s a b) ∙ sym (has_in n (λ s. f s || g s) s a b))

-- a set is its part in another and its part outside
parted : (n : ℕ) (f g : ℕ → Bool) → bits n (λ s. f s && g s) + bits n (λ s. f s && not (g s)) ≡ bits n f
unfolding bits
parted zero f g = refl
parted (suc n) f g = go (f (suc n)) (g (suc n)) (parted n f g)
  where
    go : (x y : Bool) → bits n (λ s. f s && g s) + bits n (λ s. f s && not (g s)) ≡ bits n f
        → bits n (λ s. f s && g s) + cond (x && y) (2 ^ n) 0 + (bits n (λ s. f s && not (g s)) + cond (x && not y) (2 ^ n) 0) ≡ bits n f + cond x (2 ^ n) 0
    go true true e = omega arith
    go true false e = omega arith
    go false y e = omega arith

pub without_bits : (n : ℕ) (f g : ℕ → Bool) → without (bits n f) (bits n g) ≡ bits n (λ s. f s && not (g s))
without_bits n f g = ap (λ x. bits n f - x) (and_bits n f g) ∙ omega (arith, parted n f g)

pub all_bits : (n : ℕ) → 2 ^ n - 1 ≡ bits n (λ s. true)
unfolding bits
all_bits zero = refl
all_bits (suc n) = omega (arith, all_bits n, pow-succ' 2 n, pow_pos n)

-- a set has all of 1 to n exactly where no stall is missing
pub full_test : (n : ℕ) (f : ℕ → Bool) → eqb (bits n f) (2 ^ n - 1) ≡ not (some n (λ s. not (f s)))
full_test n f = ap (eqb (bits n f)) (all_bits n) ∙ go (some n (λ s. not (f s))) (some_found n (λ s. not (f s)))
  where
    flip : (x : Bool) → not x ≡ true → x ≡ true → ⊥
    flip true e d = true≢false (sym e)
    flip false e d = true≢false (sym d)

    set : (x : Bool) → not x ≡ false → x ≡ true
    set true e = refl
    set false e = absurd (true≢false e)

    go : (t : Bool) → Found n (λ s. not (f s)) t → eqb (bits n f) (bits n (λ s. true)) ≡ not t
    go t (at s p q e) =
        ne_eqb (bits n f) (bits n (λ s. true)) (λ i. flip (f s) e (sym (has_in n f s p q) ∙ ap (λ x. has x s) i ∙ has_in n (λ s. true) s p q))
    go t (nowhere g) = eq-eqb (bits n f) (bits n (λ s. true)) (bits_agree n f (λ s. true) (λ s p q. set (f s) (g s p q)))

-- the bit behind those of n stalls
pub next_bit : (n : ℕ) → n < 64 → bit_of (n + 1) ≡ 2 ^ n
next_bit n l = let i : n + 1 - 1 ≡ n = omega arith in bit_of_is (omega arith) (omega arith) ∙ ap (λ k. 2 ^ k) i

-- a set that is not empty has a stall
pub any_test : (n : ℕ) (f : ℕ → Bool) → not (eqb (bits n f) 0) ≡ some n f
any_test n f = go (some n f) (some_found n f)
  where
    go : (t : Bool) → Found n f t → not (eqb (bits n f) 0) ≡ t
    go t (at s p q e) =
        ap not (ne_eqb (bits n f) 0 (λ i. true≢false (sym e ∙ sym (has_in n f s p q) ∙ ap (λ x. has x s) i ∙ has_zero s)))
    go t (nowhere g) = ap not (eq-eqb (bits n f) 0 (bits_agree n f (λ s. false) g ∙ bits_none n))

-- the set of one stall
pub single_bits : (n p : ℕ) → 1 ≤ p → bits n (λ s. eqb s p) ≡ cond (leb p n) (2 ^ (p - 1)) 0
unfolding bits
single_bits zero p l = ap (λ t. cond t (2 ^ (p - 1)) 0) (sym (lt-leb p 0 l))
single_bits (suc n) p l =
    elim (ℕ_discrete (suc n) p) [
      | yes e ↦
          let i : n ≡ p - 1 = omega arith in
          rw (single_bits n p l, lt-leb p n (omega arith), eq-eqb (suc n) p e, le-leb p (suc n) (omega arith), ← i) (omega arith)
      | no e ↦ elim (dec_le p n) [
        | yes a ↦ rw (single_bits n p l, le-leb p n a, ne_eqb (suc n) p e, le-leb p (suc n) (omega arith)) (omega arith)
        | no a ↦ rw (single_bits n p l, lt-leb p n (omega arith), ne_eqb (suc n) p e, lt-leb p (suc n) (omega arith)) refl
      ]
    ]

pub one_bits : (n p : ℕ) → 1 ≤ p → p ≤ n → n ≤ 64 → bit_of p ≡ bits n (λ s. eqb s p)
one_bits n p a b c = bit_of_is a (omega arith) ∙ sym (single_bits n p a ∙ ap (λ t. cond t (2 ^ (p - 1)) 0) (le-leb p n b))
