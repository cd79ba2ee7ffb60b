-- A search over 1 to n by windows of k: where n is at most k, in one that has nothing to find behind n; else in the first k and those behind, or
-- in the last k and the first m.
use Prim.Native.Nat.{ℕ, zero, suc, ◌+◌, ◌-◌, ◌≤◌, ◌<◌}
use mathlib.Core.Path.{◌≡◌, refl, sym, ap, ap₂, ◌∙◌}
use mathlib.Core.Bool.{Bool, true, false, ◌||◌, or_assoc, or-true, true≢false}
use native.Mathlib.Omega.{arith}
use native.Mathlib.Decide.{dec_le, ℕ_discrete}
use Rattle.image.specs.Stalls.{some}
use Rattle.image.proofs.Search.{some_suc}
use Rattle.image.proofs.Bits.{Found, at, nowhere, some_found}

pub some_true : (n : ℕ) (f : ℕ → Bool) (s : ℕ) → 1 ≤ s → s ≤ n → f s ≡ true → some n f ≡ true
some_true n f s a b e = go (some n f) refl (some_found n f)
  where
    go : (t : Bool) → some n f ≡ t → Found n f t → some n f ≡ true
    go t i (at r p q d) = i
    go t i (nowhere g) = absurd (true≢false (sym e ∙ g s a b))

pub some_false : (n : ℕ) (f : ℕ → Bool) → ((s : ℕ) → 1 ≤ s → s ≤ n → f s ≡ false) → some n f ≡ false
some_false n f g = go (some n f) refl (some_found n f)
  where
    go : (t : Bool) → some n f ≡ t → Found n f t → some n f ≡ false
    go t i (at r p q d) = absurd (true≢false (sym d ∙ g r p q))
    go t i (nowhere h) = i

-- with nothing to find behind n
pub one_window : (n k : ℕ) (f : ℕ → Bool) → n ≤ k → ((s : ℕ) → n < s → s ≤ k → f s ≡ false) → some k f ≡ some n f
one_window n zero f l g = let e : n ≡ 0 = omega arith in ap (λ m. some m f) (sym e)
one_window n (suc k) f l g = elim (ℕ_discrete n (suc k)) [
  | yes e ↦ ap (λ m. some m f) (sym e)
  | no e ↦
      let i : suc k - 1 ≡ k = omega arith in
      some_suc f (suc k) (omega arith)
      ∙ ap₂ (λ x m. x || some m f) (g (suc k) (omega arith) (omega arith)) i
      ∙ one_window n k f (omega arith) (λ s a b. g s a (omega arith))
]

-- those behind the first k, and these
pub some_split : (k m : ℕ) (f : ℕ → Bool) → (some m (λ j. f (k + j)) || some k f) ≡ some (k + m) f
unfolding some
some_split k zero f = let e : k ≡ k + 0 = omega arith in ap (λ n. some n f) e
some_split k (suc m) f = or_assoc (f (k + suc m)) (some m (λ j. f (k + j))) (some k f) ∙ ap (λ t. f (k + suc m) || t) (some_split k m f) ∙ next
  where
    next : (f (k + suc m) || some (k + m) f) ≡ some (k + suc m) f
    next = let e : k + suc m - 1 ≡ k + m = omega arith in sym (some_suc f (k + suc m) (omega arith) ∙ ap (λ n. f (k + suc m) || some n f) e)

-- the last k and the first m, with none between them
pub two_windows : (n k m : ℕ) (f : ℕ → Bool) → k ≤ n → m ≤ n → n ≤ m + k → (some k (λ j. f (n - k + j)) || some m f) ≡ some n f
two_windows n k m f a b c = go (some n f) refl (some_found n f)
  where
    go : (t : Bool) → some n f ≡ t → Found n f t → (some k (λ j. f (n - k + j)) || some m f) ≡ some n f
    go t i (at s p q e) = elim (dec_le s m) [
      | yes l ↦ ap (λ y. some k (λ j. f (n - k + j)) || y) (some_true m f s p l e) ∙ or-true (some k (λ j. f (n - k + j))) ∙ sym i
      | no l ↦
          let d : n - k + (s + k - n) ≡ s = omega arith in
          ap (λ x. x || some m f) (some_true k (λ j. f (n - k + j)) (s + k - n) (omega arith) (omega arith) (ap f d ∙ e)) ∙ sym i
    ]
    go t i (nowhere g) =
        ap₂ ◌||◌ (some_false k (λ j. f (n - k + j)) (λ s p q. g (n - k + s) (omega arith) (omega arith))) (some_false m f (λ s p q. g s p (omega arith))) ∙ sym i

-- the other way round
pub some_reversed : (k : ℕ) (f : ℕ → Bool) → some k (λ j. f (k + 1 - j)) ≡ some k f
some_reversed k f = go (some k f) refl (some_found k f)
  where
    go : (t : Bool) → some k f ≡ t → Found k f t → some k (λ j. f (k + 1 - j)) ≡ some k f
    go t i (at s p q e) =
        let d : k + 1 - (k + 1 - s) ≡ s = omega arith in
        some_true k (λ j. f (k + 1 - j)) (k + 1 - s) (omega arith) (omega arith) (ap f d ∙ e) ∙ sym i
    go t i (nowhere g) = some_false k (λ j. f (k + 1 - j)) (λ s p q. g (k + 1 - s) (omega arith) (omega arith)) ∙ sym i
