-- What it is to pass a test, as a statement: `simp passing` turns one into the other.
use Prim.Native.Nat.{ℕ, zero, suc, ◌≤◌}
use mathlib.Core.Path.{◌≡◌, refl, sym, ap₂, ◌∙◌}
use mathlib.Core.Bool.{Bool, true, false, ◌&&◌, ◌||◌, not, cond, true≢false, false≢true}
use mathlib.Core.Logic.{◌↔◌, ◌⊎◌, inl, inr}
use native.Mathlib.Omega.{arith}
use borrow.Author.Tests.{le-ltb, ltb-false, le-leb, leb-true, eq-eqb, eqb-true, ne_eqb, eqb-false}
use lib.Dec.{leb, ltb, eqb}
use Rattle.image.specs.Stalls.{some}
use Rattle.image.proofs.Bits.{Found, at, nowhere, some_found}
use Rattle.image.proofs.Tables.{none_at}

-- what holds of both holds of the one that a test picks
pub either : {A : Type 0} (P : A → Type 0) (b : Bool) {x y : A} → P x → P y → P (cond b x y)
either P true p q = p
either P false p q = q

pub or_fails : (a b : Bool) → ((a || b) ≡ false) ↔ ((a ≡ false) × (b ≡ false))
or_fails true b = (λ e. absurd (true≢false e), λ e. e.0)
or_fails false b = (λ e. (refl, e), λ e. e.1)

pub and_fails : (a b : Bool) → ((a && b) ≡ false) ↔ (a ≡ true → b ≡ false)
and_fails true b = (λ e i. e, λ f. f refl)
and_fails false b = (λ e i. absurd (false≢true i), λ f. refl)

pub and_holds : (a b : Bool) → ((a && b) ≡ true) ↔ ((a ≡ true) × (b ≡ true))
and_holds true b = (λ e. (refl, e), λ e. e.1)
and_holds false b = (λ e. absurd (false≢true e), λ e. e.0)

pub not_fails : (a : Bool) → (not a ≡ false) ↔ (a ≡ true)
not_fails true = (λ e. refl, λ e. refl)
not_fails false = (sym, sym)

pub not_holds : (a : Bool) → (not a ≡ true) ↔ (a ≡ false)
not_holds true = (sym, sym)
not_holds false = (λ e. refl, λ e. refl)

pub or_holds : (a b : Bool) → ((a || b) ≡ true) ↔ ((a ≡ true) ⊎ (b ≡ true))
or_holds true b = (λ e. inl refl, λ e. refl)
or_holds false b = (inr, λ s. elim s [ inl e ↦ absurd (false≢true e) | inr e ↦ e ])

-- what is found is at some place
pub some_holds : (n : ℕ) (f : ℕ → Bool) → (some n f ≡ true) ↔ ((s : ℕ) × (1 ≤ s) × (s ≤ n) × (f s ≡ true))
some_holds n f = go (some n f) (some_found n f)
  where
    go : (t : Bool) → Found n f t → (t ≡ true) ↔ ((s : ℕ) × (1 ≤ s) × (s ≤ n) × (f s ≡ true))
    go t (at r k l d) = (λ e. (r, k, l, d), λ w. refl)
    go t (nowhere g) = (λ e. absurd (true≢false (sym e)), λ w. absurd (true≢false (sym w.3 ∙ g w.0 w.1 w.2)))

-- what passes at a place was found already
pub some_more : (n : ℕ) (f : ℕ → Bool) (s : ℕ) → 1 ≤ s → s ≤ n → (f s || some n f) ≡ some n f
some_more n f s a b = go (f s) refl
  where
    go : (t : Bool) → f s ≡ t → (t || some n f) ≡ some n f
    go true e = sym ((some_holds n f).1 (s, a, b, e))
    go false e = refl

-- what is at no place is not found
some_none : (n : ℕ) (f : ℕ → Bool) → ((s : ℕ) → 1 ≤ s → s ≤ n → f s ≡ false) → some n f ≡ false
unfolding some
some_none zero f e = refl
some_none (suc n) f e = ap₂ ◌||◌ (e (suc n) (omega arith) (omega arith)) (some_none n f (λ s a b. e s a (omega arith)))

pub some_fails : (n : ℕ) (f : ℕ → Bool) → (some n f ≡ false) ↔ ((s : ℕ) → 1 ≤ s → s ≤ n → f s ≡ false)
some_fails n f = (none_at n f, some_none n f)

pub ltb_fails : (a b : ℕ) → (ltb a b ≡ false) ↔ (b ≤ a)
ltb_fails a b = (ltb-false a b, le-ltb a b)

pub leb_holds : (a b : ℕ) → (leb a b ≡ true) ↔ (a ≤ b)
leb_holds a b = (leb-true a b, le-leb a b)

pub eqb_holds : (a b : ℕ) → (eqb a b ≡ true) ↔ (a ≡ b)
eqb_holds a b = (eqb-true a b, eq-eqb a b)

pub eqb_fails : (a b : ℕ) → (eqb a b ≡ false) ↔ (a ≡ b → ⊥)
eqb_fails a b = (eqb-false a b, ne_eqb a b)

pub ruleset passing = (or_fails, and_fails, and_holds, not_fails, not_holds, some_fails, ltb_fails, leb_holds, eqb_holds, eqb_fails)
