-- A rule over a table, by one test of all its entries.
use Prim.Native.Nat.{ℕ, suc, ◌-◌, ◌≤◌, ◌<◌}
use mathlib.Core.Path.{◌≡◌, refl, sym, ap, ◌∙◌}
use mathlib.Core.Bool.{Bool, true, false, not, true≢false}
use native.Mathlib.Omega.{arith}
use borrow.Author.Tests.{eqb-true}
use lib.Dec.{eqb}
use Rattle.image.specs.Stalls.{some}
use Rattle.image.proofs.Bits.{Found, at, nowhere, some_found}

-- what a test finds nowhere is not at s
pub none_at : (n : ℕ) (f : ℕ → Bool) → some n f ≡ false → (s : ℕ) → 1 ≤ s → s ≤ n → f s ≡ false
none_at n f e s a b = go (some n f) (some_found n f) e
  where
    go : (t : Bool) → Found n f t → t ≡ false → f s ≡ false
    go t (at r p q i) d = absurd (true≢false d)
    go t (nowhere g) d = g s a b

not_false : {b : Bool} → not b ≡ false → b ≡ true
not_false {b = true} e = refl
not_false {b = false} e = absurd (true≢false e)

-- entries 0 to n - 1 of a table follow a rule if the test finds none that does not
pub table_rule : (n : ℕ) (table rule : ℕ → ℕ) → some n (λ s. not (eqb (table (s - 1)) (rule (s - 1)))) ≡ false → (k : ℕ) → k < n → table k ≡ rule k
table_rule n table rule e k l =
    let i : suc k - 1 ≡ k = omega arith in
    let d = not_false (none_at n (λ s. not (eqb (table (s - 1)) (rule (s - 1)))) e (suc k) (omega arith) l) in
    sym (ap table i) ∙ eqb-true _ _ d ∙ ap rule i
