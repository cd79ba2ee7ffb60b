-- A loop that looks for something at places one width apart, counts down what is left, and stops where it has found it.
use Prim.Native.Nat.{ℕ, suc, ◌+◌, ◌-◌, ◌*◌, ◌≤◌, ◌<◌}
use mathlib.Core.Path.{◌≡◌, refl, sym, ap, ◌∙◌}
use mathlib.Core.Bool.{Bool, true, false, ◌&&◌, ◌||◌, not, or-false, true≢false}
use native.Mathlib.Omega.{arith}
use borrow.Author.Tests.{ltb-true, ltb-false}
use lib.Dec.{eqb, ltb}
use Rattle.image.specs.Stalls.{some}
use Rattle.image.proofs.Bits.{Found, at, nowhere, some_found}
use Rattle.image.proofs.Search.{some_suc, times_step}
use Rattle.image.proofs.Windows.{some_true}

-- the invariant: all but those that are left have been looked at, and the next stands at its place
pub record Stopping (n width start place left : ℕ) (found : Bool) (f : ℕ → Bool) : Type 0 where
  pub to : left ≤ n
  pub stands : place ≡ start + (n - left) * width
  pub so_far : found ≡ some (n - left) f

pub stopping_start : {n width start : ℕ} (f : ℕ → Bool) → Stopping n width start start n false f
unfolding some
stopping_start {n} {width} f =
    let e : n - n ≡ 0 = omega arith in
    record { to = omega arith; stands = rw e (omega arith); so_far = ap (λ k. some k f) (sym e) }

-- nothing was found before, and what is found next is all
pub stopping_next : {n width start place left : ℕ} {found : Bool} {f : ℕ → Bool} → Stopping n width start place left found f → 0 < left → found ≡ false
    → (t : Bool) → t ≡ f (suc (n - left)) → Stopping n width start (place + width) (left - 1) t f
stopping_next {n} {width} {start} {place} {left} {found} {f} w l none t e =
    let a : n - (left - 1) ≡ suc (n - left) = omega (arith, w.to) in
    let b : suc (n - left) - 1 ≡ n - left = omega arith in
    record {
      to = omega (arith, w.to);
      stands = rw a (omega (arith, w.stands, times_step (suc (n - left)) width (omega arith), ap (λ k. k * width) b));
      so_far = rw a
          (e ∙ sym (or-false (f (suc (n - left)))) ∙ ap (λ r. f (suc (n - left)) || r) (sym none ∙ w.so_far ∙ ap (λ k. some k f) (sym b))
          ∙ sym (some_suc f (suc (n - left)) (omega arith)));
    }

-- what is found among the first is found among all
some_more : (k n : ℕ) (f : ℕ → Bool) → k ≤ n → some k f ≡ true → some n f ≡ true
some_more k n f l e = go (some k f) (some_found k f) e
  where
    go : (t : Bool) → Found k f t → t ≡ true → some n f ≡ true
    go t (at s p q i) d = some_true n f s p (omega arith) i
    go t (nowhere g) d = absurd (true≢false (sym d))

-- where the loop goes on something is left, and nothing was found
pub going_on : (left bad : ℕ) → (ltb 0 left && eqb bad 0) ≡ true → (0 < left) × (not (eqb bad 0) ≡ false)
going_on left bad e = go (ltb 0 left) (eqb bad 0) refl refl e
  where
    go : (a b : Bool) → ltb 0 left ≡ a → eqb bad 0 ≡ b → (a && b) ≡ true → (0 < left) × (not (eqb bad 0) ≡ false)
    go true true p q d = (ltb-true 0 left p, ap not q)
    go true false p q d = absurd (true≢false (sym d))
    go false b p q d = absurd (true≢false (sym d))

-- where the loop ends nothing is left, or something was found
pub stopping_end : {n width start place left : ℕ} (bad : ℕ) {f : ℕ → Bool} → Stopping n width start place left (not (eqb bad 0)) f → (ltb 0 left && eqb bad 0) ≡ false → not (eqb bad 0) ≡ some n f
stopping_end {n} {left = left} bad {f} w e = go (ltb 0 left) (eqb bad 0) refl refl e
  where
    go : (a b : Bool) → ltb 0 left ≡ a → eqb bad 0 ≡ b → (a && b) ≡ false → not (eqb bad 0) ≡ some n f
    go true true p q d = absurd (true≢false d)
    go true false p q d = ap not q ∙ sym (some_more (n - left) n f (omega arith) (sym w.so_far ∙ ap not q))
    go false b p q d = let z : n - left ≡ n = omega (arith, ltb-false 0 left p) in w.so_far ∙ ap (λ k. some k f) z
