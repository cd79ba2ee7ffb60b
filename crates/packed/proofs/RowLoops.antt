-- Rows packed and unpacked, one after the other.
use Prim.Native.Nat.{ℕ, suc, ◌+◌, ◌-◌, ◌*◌, ◌%◌, ◌≤◌, ◌<◌}
use mathlib.Core.Path.{◌≡◌, refl, ap, ap₂, ◌∙◌}
use mathlib.Core.List.{List, [], ◌∷◌, ◌++◌}
use native.Mathlib.Omega.{arith}
use native.Mathlib.Nat.{mul-le-mul_right}
use lib.ListN.{length, get_or, take, drop}
use Rattle.image.specs.Stalls.{each}
use Rattle.image.specs.Layout.{name_from, name_at, image_length}
use Rattle.image.specs.Encode.{name_bytes}
use Rattle.image.proofs.Has.{length_each}
use Rattle.image.proofs.Encoding.{name_wide}
use Rattle.image.proofs.Blocks.{blocks, written_next}
use Rattle.packed.specs.Form.{name_byte, name_of, packed_image_length, unpacked_row}
use Rattle.packed.specs.Bytes.{packed_row}

-- a row has one byte a name packed, and two unpacked
pub packed_wide : (s : List ℕ) (n r : ℕ) → length (packed_row s n r) ≡ n
unfolding packed_row
packed_wide s n r = length_each 1 (λ c. name_byte c (name_at s n r c) % 256 ∷ []) (λ c. refl) n ∙ omega arith

pub unpacked_wide : (s : List ℕ) (n r : ℕ) → length (unpacked_row s n r) ≡ n + n
unfolding unpacked_row
unpacked_wide s n r = length_each 2 _ (λ c. name_wide (name_of c _)) n ∙ omega arith

-- the row behind r others lies within its image
module _ (n r : ℕ) (l : r < n) where
  pub packed_fits : {long at : ℕ} → long ≡ packed_image_length n → at ≡ 4 + r * n → at + n ≤ long
  packed_fits e i = omega (arith, mul-le-mul_right n l)

  pub plain_fits : {long at : ℕ} → long ≡ image_length n → at ≡ 4 + r * (n + n) → at + n * 2 ≤ long
  plain_fits e i = omega (arith, mul-le-mul_right (n + n) l)

module _ (s d x y : List ℕ) (n r plain short : ℕ) (l : r < n) (p_is : plain ≡ 4 + r * (n + n)) (s_is : short ≡ 4 + r * n) where
  pub packed_next : length d ≡ packed_image_length n → x ≡ blocks d 4 n (packed_row s n) r → length x ≡ length d
      → y ≡ take short x ++ each n (λ c. name_byte c (name_from (get_or s (plain + (c - 1) * 2) 0) (get_or s (plain + (c - 1) * 2 + 1) 0)) % 256 ∷ []) ++ drop (short + n) x
      → (y ≡ blocks d 4 n (packed_row s n) (r + 1)) × (length y ≡ length d)
  unfolding packed_row name_at
  packed_next long so_far same is =
      let i : r ≡ suc r - 1 = omega arith in
      let e : plain ≡ 4 + (suc r - 1) * (n + n) = p_is ∙ ap (λ k. 4 + k * (n + n)) i in
      let row : ℕ → List ℕ = λ p. each n (λ c. name_byte c (name_from (get_or s (p + (c - 1) * 2) 0) (get_or s (p + (c - 1) * 2 + 1) 0)) % 256 ∷ []) in
      written_next d x y 4 n r short (packed_row s n) (length_each n (packed_row s n) (packed_wide s n) r) (packed_wide s n (suc r))
      (packed_fits n r l long s_is) s_is so_far same (is ∙ ap (λ p. take short x ++ row p ++ drop (short + n) x) e)

  pub unpacked_next : length d ≡ image_length n → x ≡ blocks d 4 (n + n) (unpacked_row s n) r → length x ≡ length d
      → y ≡ take plain x ++ each n (λ c. name_bytes (name_of c (get_or s (short + (c - 1)) 0))) ++ drop (plain + n * 2) x
      → (y ≡ blocks d 4 (n + n) (unpacked_row s n) (r + 1)) × (length y ≡ length d)
  unfolding unpacked_row
  unpacked_next long so_far same is =
      let i : r ≡ suc r - 1 = omega arith in
      let e : short ≡ 4 + (suc r - 1) * n = s_is ∙ ap (λ k. 4 + k * n) i in
      let two : n * 2 ≡ n + n = omega arith in
      let row : ℕ → List ℕ = λ p. each n (λ c. name_bytes (name_of c (get_or s (p + (c - 1)) 0))) in
      written_next d x y 4 (n + n) r plain (unpacked_row s n) (length_each (n + n) (unpacked_row s n) (unpacked_wide s n) r) (unpacked_wide s n (suc r))
      (omega (arith, plain_fits n r l long p_is)) p_is so_far same (is ∙ ap₂ (λ p w. take plain x ++ row p ++ drop (plain + w) x) e two)
