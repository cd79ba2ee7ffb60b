-- Blocks of one width written into a list one after the other.
use Prim.Native.Nat.{ℕ, suc, ◌+◌, ◌*◌, ◌≤◌}
use mathlib.Core.Path.{◌≡◌, sym, ap, ap₂, ◌∙◌}
use mathlib.Core.List.{List, [], ◌++◌, append_assoc, append-nil}
use native.Mathlib.Omega.{arith}
use native.Mathlib.Numerals.{add-one}
use lib.ListN.{length, take, drop, length-append, take-append-drop}
use lib.Seq.{paste, length-paste, length-take-le, take_all}
use Rattle.image.specs.Stalls.{each}
use Rattle.image.proofs.Overwrite.{behind}

-- d with the first k blocks from place b on
pub blocks : List ℕ → ℕ → ℕ → (ℕ → List ℕ) → ℕ → List ℕ
blocks d b w f k = take b d ++ each k f ++ drop (b + k * w) d

pub blocks_start : (d : List ℕ) (b w : ℕ) (f : ℕ → List ℕ) → d ≡ blocks d b w f 0
unfolding blocks each
blocks_start d b w f =
    let e : b + 0 * w ≡ b = omega arith in
    sym (ap (λ j. take b d ++ [] ++ drop j d) e ∙ ap (λ r. r ++ drop b d) (append-nil (take b d)) ∙ take-append-drop b d)

-- one block more
module _ (d l x : List ℕ) (b w k : ℕ) (f : ℕ → List ℕ) (wide : length (each k f) ≡ k * w) (fits : b + k * w + w ≤ length d)
    (so_far : l ≡ blocks d b w f k) (more : take w x ≡ f (suc k)) where
  abbrev front : List ℕ
  front = take b d ++ each k f

  length_front : length front ≡ b + k * w
  length_front = length-append (take b d) (each k f) ∙ omega (arith, length-take-le b d (omega arith))

  pub blocks_next : paste l (b + k * w) x w ≡ blocks d b w f (k + 1)
  unfolding blocks each
  blocks_next =
      let e : b + k * w + w ≡ b + suc k * w = omega arith in
      rw (add-one k, so_far)
      (behind front d (take w x) (b + k * w) w length_front
      ∙ ap (λ r. front ++ r ++ drop (b + k * w + w) d) more
      ∙ ap₂ (λ p q. p ++ drop q d) (append_assoc (take b d) (each k f) (f (suc k))) e)

-- the same where the block is pasted at its place
pub pasted_next : (d l x y : List ℕ) (b w k at : ℕ) (f : ℕ → List ℕ) → length (each k f) ≡ k * w → at + w ≤ length d → w ≤ length x → take w x ≡ f (suc k)
    → at ≡ b + k * w → l ≡ blocks d b w f k → length l ≡ length d → y ≡ paste l at x w → (y ≡ blocks d b w f (k + 1)) × (length y ≡ length d)
pasted_next d l x y b w k at f wide fits room more stands so_far same is = (
  is ∙ ap (λ j. paste l j x w) stands ∙ blocks_next d l x b w k f wide (omega arith) so_far more,
  ap length is ∙ length-paste l at x w (omega arith) room ∙ same,
)

-- and where it is written as it is
pub written_next : (d l y : List ℕ) (b w k at : ℕ) (f : ℕ → List ℕ) → length (each k f) ≡ k * w → length (f (suc k)) ≡ w → at + w ≤ length d
    → at ≡ b + k * w → l ≡ blocks d b w f k → length l ≡ length d → y ≡ take at l ++ f (suc k) ++ drop (at + w) l → (y ≡ blocks d b w f (k + 1)) × (length y ≡ length d)
written_next d l y b w k at f wide one fits stands so_far same is =
    let whole : take w (f (suc k)) ≡ f (suc k) = take_all w (f (suc k)) (omega arith) in
    pasted_next d l (f (suc k)) y b w k at f wide fits (omega arith) whole stands so_far same (is ∙ ap (λ x. take at l ++ x ++ drop (at + w) l) (sym whole))

pub blocks_end : (d l : List ℕ) (b w : ℕ) (f : ℕ → List ℕ) (k n : ℕ) → k ≤ n → n ≤ k → l ≡ blocks d b w f k → l ≡ take b d ++ each n f ++ drop (b + n * w) d
unfolding blocks
blocks_end d l b w f k n a c e = let j : k ≡ n = omega arith in e ∙ ap (λ m. take b d ++ each m f ++ drop (b + m * w) d) j
