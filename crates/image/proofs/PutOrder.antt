-- An order entry written at a place.
use Prim.Native.Nat.{ℕ, suc, ◌+◌, ◌*◌, ◌/◌, ◌%◌, ◌^◌, ◌≤◌, ◌<◌}
use mathlib.Core.Path.{◌≡◌, refl, sym, ap, ◌∙◌}
use mathlib.Core.List.{List, [], ◌∷◌}
use native.Mathlib.Omega.{arith}
use lib.ListN.{length, set}
use lib.Seq.{sets, set_out}
use Rattle.image.specs.Layout.{order_width}
use Rattle.image.specs.Encode.{order_bytes}
use Rattle.image.proofs.OrderEntry.{bytes_one, bytes_two}

-- nothing is written past the end
pub sets_out : (l s : List ℕ) (at : ℕ) → length s ≤ at → sets s at l ≡ s
sets_out [] s at e = refl
sets_out (a ∷ l) s at e = ap (λ r. sets r (suc at) l) (set_out s at a e) ∙ sets_out l s (suc at) (omega arith)

module _ (s : List ℕ) (n at order : ℕ) where
  abbrev written : List ℕ
  written = sets s at (order_bytes n (order % 2 ^ (8 * order_width n)))

  -- an entry of one byte
  pub one_byte : order_width n ≡ 1 → set s at (order % 256) ≡ written
  one_byte e = sym (ap (sets s at) (bytes_one n (order % 2 ^ (8 * order_width n)) e ∙ ap (λ w. order % 2 ^ (8 * w) ∷ []) e))

  -- and of two, the second where it has room
  module _ (e : order_width n ≡ 2) (order_in : order < 2 ^ 16) where
    both_bytes : written ≡ set (set s at (order / 256)) (suc at) (order % 256)
    both_bytes =
        let d : order % 2 ^ 16 ≡ order = omega arith in
        ap (sets s at) (bytes_two n (order % 2 ^ (8 * order_width n)) e ∙ ap (λ w. order % 2 ^ (8 * w) / 256 ∷ order % 2 ^ (8 * w) % 256 ∷ []) e ∙ ap (λ x. x / 256 ∷ x % 256 ∷ []) d)

    pub two_bytes : set (set s at (order / 256)) (at + 1) (order % 256) ≡ written
    two_bytes = let d : at + 1 ≡ suc at = omega arith in ap (λ k. set (set s at (order / 256)) k (order % 256)) d ∙ sym both_bytes

    pub first_byte : length (set s at (order / 256)) ≤ at + 1 → set s at (order / 256) ≡ written
    first_byte l = sym (both_bytes ∙ set_out (set s at (order / 256)) (suc at) (order % 256) (omega arith))

pub ruleset puts = (sets_out, one_byte, two_bytes, first_byte)
