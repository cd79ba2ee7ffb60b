-- Whether some of 1 to n passes a test: loops that look for it at places one width apart, and laws of what they find.
use Prim.Native.Nat.{ℕ, zero, suc, ◌+◌, ◌-◌, ◌*◌, ◌≤◌, ◌<◌}
use mathlib.Core.Path.{◌≡◌, refl, sym, ap, ap₂, ◌∙◌}
use mathlib.Core.Bool.{Bool, true, false, ◌||◌}
use native.Mathlib.Omega.{arith}
use Rattle.std.proofs.Math.Bool.{or_comm}
use Rattle.image.specs.Stalls.{some}

-- the invariant: before the turn at s, the stalls below s have been looked at, and s stands at its place
pub record Looked (n width at place s : ℕ) (found : Bool) (f : ℕ → Bool) : Type 0 where
  pub from : 1 ≤ s
  pub to : s ≤ n + 1
  pub stands : place ≡ at + (s - 1) * width
  pub so_far : found ≡ some (s - 1) f

-- one step of width more
pub times_step : (s width : ℕ) → 1 ≤ s → (s - 1) * width + width ≡ s * width
times_step zero width l = absurd (omega arith)
times_step (suc s) width l = let e : suc s - 1 ≡ s = omega arith in rw e (omega arith)

pub some_suc : (f : ℕ → Bool) (s : ℕ) → 1 ≤ s → some s f ≡ (f s || some (s - 1) f)
unfolding some
some_suc f zero l = absurd (omega arith)
some_suc f (suc s) l = let e : s ≡ suc s - 1 = omega arith in ap (λ k. f (suc s) || some k f) e

pub looked_start : {n width at : ℕ} (f : ℕ → Bool) → Looked n width at at 1 false f
unfolding some
looked_start f = record { from = omega arith; to = omega arith; stands = omega arith; so_far = refl }

pub looked_next : {n width at place s : ℕ} {found : Bool} {f : ℕ → Bool} → Looked n width at place s found f → s ≤ n → (t : Bool) → t ≡ f s
    → Looked n width at (place + width) (s + 1) (t || found) f
looked_next {n} {width} {at} {place} {s} {found} {f} w l t e =
    let a : s + 1 - 1 ≡ s = omega arith in
    record {
      from = omega arith;
      to = omega arith;
      stands = rw a (omega (arith, times_step s width w.from, w.stands));
      so_far = rw a (ap₂ ◌||◌ e w.so_far ∙ sym (some_suc f s w.from));
    }

-- the next one
pub some_next : (n : ℕ) (f : ℕ → Bool) {x y : Bool} → x ≡ f (n + 1) → y ≡ some n f → (y || x) ≡ some (n + 1) f
unfolding some
some_next n f {x} {y} p q = let e : n + 1 ≡ suc n = omega arith in or_comm y x ∙ rw (p, q, e) refl

-- what is found may be said in another way
pub looked_as : {n width at place s : ℕ} {found said : Bool} {f : ℕ → Bool} → said ≡ found → Looked n width at place s found f → Looked n width at place s said f
looked_as e w = record { from = w.from; to = w.to; stands = w.stands; so_far = e ∙ w.so_far }

-- and its place too
pub looked_on : {n width at s step : ℕ} (place : ℕ) {found : Bool} {f : ℕ → Bool} → step ≡ width → Looked n width at (place + width) s found f → Looked n width at (place + step) s found f
looked_on place e w = record { from = w.from; to = w.to; stands = ap (λ k. place + k) e ∙ w.stands; so_far = w.so_far }

-- the next one, told last
pub looked_more : {n width at place s : ℕ} {found : Bool} {f : ℕ → Bool} → Looked n width at place s found f → s ≤ n → (t : Bool) → t ≡ f s
    → Looked n width at (place + width) (s + 1) (found || t) f
looked_more {found = found} w l t e = looked_as (or_comm found t) (looked_next w l t e)

pub looked_end : {n width at place s : ℕ} {found : Bool} {f : ℕ → Bool} → Looked n width at place s found f → n < s → found ≡ some n f
looked_end {n} {s = s} {f = f} w l = let e : s - 1 ≡ n = omega arith in w.so_far ∙ ap (λ k. some k f) e

-- two tests that agree on 1 to n
pub some_agree : (n : ℕ) (f g : ℕ → Bool) → ((s : ℕ) → 1 ≤ s → s ≤ n → f s ≡ g s) → some n f ≡ some n g
unfolding some
some_agree zero f g e = refl
some_agree (suc n) f g e =
    ap₂ ◌||◌ (e (suc n) (omega arith) (omega arith)) (some_agree n f g (λ s a b. e s a (omega arith)))

-- one test or the other
pub some_or : (n : ℕ) (f g : ℕ → Bool) → (some n f || some n g) ≡ some n (λ r. f r || g r)
unfolding some
some_or zero f g = refl
some_or (suc n) f g = shuffle (f (suc n)) (some n f) (g (suc n)) (some n g) ∙ ap (λ b. (f (suc n) || g (suc n)) || b) (some_or n f g)
  where
    shuffle : (a b c d : Bool) → ((a || b) || (c || d)) ≡ ((a || c) || (b || d))
    shuffle true b c d = refl
    shuffle false true true d = refl
    shuffle false true false d = refl
    shuffle false false c d = refl
