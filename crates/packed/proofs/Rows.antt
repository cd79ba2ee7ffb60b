-- N rows of N names, of some bytes each, between a header and the rest: what stands where.
use Prim.Native.Nat.{ℕ, ◌+◌, ◌-◌, ◌*◌, ◌≤◌}
use mathlib.Core.Path.{◌≡◌, ap, ap₂, ◌∙◌}
use mathlib.Core.List.{List, ◌++◌, append_assoc}
use native.Mathlib.Omega.{arith}
use native.Mathlib.Nat.{mul-le-mul_right}
use lib.ListN.{length, take, drop, length-append}
use lib.Seq.{take_at, drop_at}
use Rattle.image.specs.Stalls.{each}
use Rattle.image.proofs.Search.{times_step}
use Rattle.image.proofs.Has.{Has, has_place, has_self, has_left, has_right, length_each, has_each, each_has}
use Rattle.merge.proofs.pairs.PairRows.{each_agree}

-- the name in each row and column
abbrev pub rows : ℕ → (ℕ → ℕ → List ℕ) → List ℕ
rows n g = each n (λ r. each n (g r))

-- a list in its three parts, with names of v bytes and rows of w
pub record Parts (s : List ℕ) (n v w : ℕ) (g : ℕ → ℕ → List ℕ) (header rest : List ℕ) : Type 0 where
  pub front : take 4 s ≡ header
  pub back : drop (4 + n * w) s ≡ rest
  pub name : (r c : ℕ) → 1 ≤ r → r ≤ n → 1 ≤ c → c ≤ n → Has s (4 + (r - 1) * w + (c - 1) * v) (g r c)

pub parts_agree : {a b c d e f : List ℕ} → a ≡ d → b ≡ e → c ≡ f → a ++ b ++ c ≡ d ++ e ++ f
parts_agree i j k = ap₂ ◌++◌ (ap₂ ◌++◌ i j) k

pub rows_agree : (n : ℕ) (f g : ℕ → ℕ → List ℕ) → ((r c : ℕ) → 1 ≤ r → r ≤ n → 1 ≤ c → c ≤ n → f r c ≡ g r c) → rows n f ≡ rows n g
rows_agree n f g e = each_agree n _ _ (λ r i j. each_agree n _ _ (λ c. e r c i j))

module _ (n v w : ℕ) (g : ℕ → ℕ → List ℕ) (row : n * v ≡ w) (wide : (r c : ℕ) → length (g r c) ≡ v) where
  row_wide : (r : ℕ) → length (each n (g r)) ≡ w
  row_wide r = length_each v (g r) (wide r) n ∙ row

  pub length_rows : length (rows n g) ≡ n * w
  length_rows = length_each w (λ r. each n (g r)) row_wide n

  pub rows_has : {s : List ℕ} {i : ℕ} → i + n * w ≤ length s → ((r c : ℕ) → 1 ≤ r → r ≤ n → 1 ≤ c → c ≤ n → Has s (i + (r - 1) * w + (c - 1) * v) (g r c)) → Has s i (rows n g)
  rows_has {s} {i} fits name =
      each_has w (λ r. each n (g r)) row_wide n (omega arith)
      (λ r a b. each_has v (g r) (wide r) n (omega (arith, times_step r w a, mul-le-mul_right w b)) (λ c. name r c a b))

  module _ (header rest : List ℕ) where
    length_front : length (header ++ rows n g) ≡ length header + n * w
    length_front = length-append header (rows n g) ∙ ap (λ k. length header + k) length_rows

    pub length_between : length (header ++ rows n g ++ rest) ≡ length header + n * w + length rest
    length_between = length-append (header ++ rows n g) rest ∙ ap (λ k. k + length rest) length_front

    pub between : length header ≡ 4 → Parts (header ++ rows n g ++ rest) n v w g header rest
    between long =
        let start : 0 + length header ≡ 4 = omega arith in
        let names = has_right header (rows n g) (has_left (header ++ rows n g) rest (has_self (header ++ rows n g ++ rest))) in
        record {
          front = ap (take 4) (append_assoc header (rows n g) rest) ∙ take_at header (rows n g ++ rest) 4 long;
          back = drop_at (header ++ rows n g) rest (4 + n * w) (length_front ∙ ap (λ k. k + n * w) long);
          name = λ r c i j. has_each v (g r) (wide r) n (has_each w (λ r. each n (g r)) row_wide n (has_place start names) r i j) c;
        }
