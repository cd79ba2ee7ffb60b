-- Digits: what they are of a small and of a large number, how many there are, and that they stand for it.
use Prim.Native.Nat.{ℕ, zero, suc, ◌+◌, ◌-◌, ◌*◌, ◌/◌, ◌%◌, ◌^◌, ◌≤◌, ◌<◌}
use native.Mathlib.Nat.{pow-suc}
use native.Mathlib.Omega.{arith}
use mathlib.Core.Path.{◌≡◌, refl, sym, ap, subst, ◌∙◌}
use mathlib.Core.Bool.{Bool, true, false, cond}
use mathlib.Core.List.{List, [], ◌∷◌, ◌++◌}
use borrow.Author.Tests.{ltb-true, ltb-false, lt-ltb, le-ltb}
use lib.Dec.{ltb}
use lib.ListN.{length, get_or, length-append, get_or-append}
use Rattle.panel.specs.Decimal.{digit, digits_in, decimal, read_behind, read_number}

-- more places change nothing
digits_enough : (a b k : ℕ) → k < a → k < b → digits_in a k ≡ digits_in b k
unfolding digits_in
digits_enough zero b k p q = absurd (omega arith)
digits_enough (suc a) zero k p q = absurd (omega arith)
digits_enough (suc a) (suc b) k p q = go (ltb k 10) (λ e. let l : 10 ≤ k = ltb-false k 10 e in digits_enough a b (k / 10) (omega arith) (omega arith))
  where
    go : (t : Bool) → (t ≡ false → digits_in a (k / 10) ≡ digits_in b (k / 10))
        → cond t (digit k ∷ []) (digits_in a (k / 10) ++ digit (k % 10) ∷ []) ≡ cond t (digit k ∷ []) (digits_in b (k / 10) ++ digit (k % 10) ∷ [])
    go true f = refl
    go false f = ap (λ d. d ++ digit (k % 10) ∷ []) (f refl)

pub decimal_small : (k : ℕ) → k < 10 → decimal k ≡ digit k ∷ []
unfolding digits_in decimal
decimal_small k l = rw (lt-ltb k 10 l)

pub decimal_large : (k : ℕ) → 10 ≤ k → decimal k ≡ decimal (k / 10) ++ digit (k % 10) ∷ []
unfolding digits_in decimal
decimal_large k l = rw (le-ltb k 10 l) (ap (λ d. d ++ digit (k % 10) ∷ []) (digits_enough k (suc (k / 10)) (k / 10) (omega arith) (omega arith)))

pub decimal_two : (k : ℕ) → 10 ≤ k → k < 100 → decimal k ≡ digit (k / 10) ∷ [] ++ digit (k % 10) ∷ []
decimal_two k l m = decimal_large k l ∙ ap (λ d. d ++ digit (k % 10) ∷ []) (decimal_small (k / 10) (omega arith))

-- what holds of a digit, and of digits with one more behind them where it holds of the tens, holds of the digits of every number
pub decimal_elim : (P : ℕ → List ℕ → Type 0) → ((k : ℕ) → k < 10 → P k (digit k ∷ []))
    → ((k : ℕ) → 10 ≤ k → P (k / 10) (decimal (k / 10)) → P k (decimal (k / 10) ++ digit (k % 10) ∷ [])) → (k : ℕ) → P k (decimal k)
decimal_elim P small large k = below (suc k) k (omega arith)
  where
    either : (k : ℕ) (t : Bool) → (t ≡ true → k < 10) → (t ≡ false → 10 ≤ k) → (10 ≤ k → P (k / 10) (decimal (k / 10))) → P k (decimal k)
    either k true a b f = subst (P k) (sym (decimal_small k (a refl))) (small k (a refl))
    either k false a b f = subst (P k) (sym (decimal_large k (b refl))) (large k (b refl) (f (b refl)))

    below : (bound k : ℕ) → k < bound → P k (decimal k)
    below zero k l = absurd (omega arith)
    below (suc bound) k l = either k (ltb k 10) (ltb-true k 10) (ltb-false k 10) (λ m. below bound (k / 10) (omega arith))

-- d + 1 places are enough for numbers below the power
pub decimal_short : (d k : ℕ) → k < 10 ^ suc d → length (decimal k) ≤ suc d
decimal_short d k = decimal_elim (λ k l. (d : ℕ) → k < 10 ^ suc d → length l ≤ suc d) (λ k l d m. omega arith) step k d
  where
    step : (k : ℕ) → 10 ≤ k → ((d : ℕ) → k / 10 < 10 ^ suc d → length (decimal (k / 10)) ≤ suc d)
        → (d : ℕ) → k < 10 ^ suc d → length (decimal (k / 10) ++ digit (k % 10) ∷ []) ≤ suc d
    step k l f zero m = absurd (omega arith)
    step k l f (suc d) m = omega (arith, f d (omega (arith, pow-suc 10 (suc d))), length-append (decimal (k / 10)) (digit (k % 10) ∷ []))

-- the digits stand for the number
read_snoc : (k : ℕ) (l : List ℕ) (c : ℕ) → read_behind k (l ++ c ∷ []) ≡ read_behind k l * 10 + (c - 48)
unfolding read_behind
read_snoc k [] c = refl
read_snoc k (b ∷ l) c = read_snoc (k * 10 + (b - 48)) l c

pub decimal_read : (k : ℕ) → read_number (decimal k) ≡ k
unfolding read_behind
decimal_read = decimal_elim (λ k d. read_number d ≡ k) (λ k l. omega arith)
    (λ k l e. read_snoc 0 (decimal (k / 10)) (digit (k % 10)) ∙ ap (λ j. j * 10 + (digit (k % 10) - 48)) e ∙ omega arith)

pub decimal_some : (k : ℕ) → 1 ≤ length (decimal k)
decimal_some = decimal_elim (λ k d. 1 ≤ length d) (λ k l. omega arith) (λ k l e. omega (arith, length-append (decimal (k / 10)) (digit (k % 10) ∷ [])))

-- and only those of 0 begin with a 0
pub no_leading_zero : (k : ℕ) → 1 ≤ k → get_or (decimal k) 0 0 ≡ digit 0 → ⊥
no_leading_zero = decimal_elim (λ k d. 1 ≤ k → get_or d 0 0 ≡ digit 0 → ⊥) (λ k l a e. omega arith)
    (λ k l f a e. f (omega arith) (sym (get_or-append (decimal (k / 10)) (digit (k % 10) ∷ []) 0 0 (decimal_some (k / 10))) ∙ e))
