-- A line as a frame, by its length.
use Prim.Native.Nat.{ℕ, zero, suc, ◌+◌, ◌%◌, ◌≤◌}
use mathlib.Core.Path.{◌≡◌, refl, sym, ap, ◌∙◌}
use mathlib.Core.Bool.{Bool, true, false, cond, and-false}
use mathlib.Core.List.{List, [], ◌∷◌}
use native.Mathlib.Omega.{arith}
use lib.ListN.{length, get_or, drop, drop_of_length-le}
use lib.Seq.{drop-cons}
use Rattle.line.specs.Digits.{all_digits, whole_pairs, pair_value, bytes_of}
use Rattle.line.specs.Frame.{kind_of_two, kind_of_three, kind_of_four, frame_of_bytes, frame_of}
use Rattle.line.specs.declared.frame.Frame.{Frame}
use Rattle.line.specs.declared.frame.Frame.TheVariants.{Bad}

either_bad : (t : Bool) → cond t Bad Bad ≡ Bad
either_bad true = refl
either_bad false = refl

-- the byte at a place of a line
abbrev pub byte_in : List ℕ → ℕ → ℕ
byte_in l at = pair_value (get_or l at 0) (get_or l (at + 1) 0)

pub no_digits : (l : List ℕ) → all_digits l ≡ false → frame_of l ≡ Bad
unfolding frame_of whole_pairs
no_digits l e = rw e

-- a list as its elements from place i on
listed : ℕ → ℕ → List ℕ → List ℕ
listed i zero l = []
listed i (suc n) l = get_or l i 0 ∷ listed (suc i) n l

elements : (n i : ℕ) (l : List ℕ) → length l ≡ i + n → drop i l ≡ listed i n l
unfolding listed
elements zero i l e = let k : length l ≤ i = omega arith in drop_of_length-le l k
elements (suc n) i l e = drop-cons l i 0 (omega arith) ∙ ap (λ r. get_or l i 0 ∷ r) (elements n (suc i) l (omega arith))

module _ (l : List ℕ) (e : all_digits l ≡ true) where
  -- the frame of n elements
  frame_of_lem : (n : ℕ) (f : Frame) → length l ≡ n → (all_digits (listed 0 n l) ≡ true → frame_of (listed 0 n l) ≡ f) → f ≡ frame_of l
  frame_of_lem n f long g =
      let w : l ≡ listed 0 n l = elements n 0 l (omega arith) in
      sym (ap frame_of w ∙ g (ap all_digits (sym w) ∙ e))

  pub frame_two : (k x : ℕ) → length l ≡ 4 → k ≡ byte_in l 0 → x ≡ byte_in l 2 → kind_of_two k x ≡ frame_of l
  unfolding listed frame_of whole_pairs bytes_of frame_of_bytes
  frame_two k x n i j = rw (i, j) (frame_of_lem 4 (kind_of_two (byte_in l 0) (byte_in l 2)) n (λ d. rw d))

  pub frame_three : (k x y : ℕ) → length l ≡ 6 → k ≡ byte_in l 0 → x ≡ byte_in l 2 → y ≡ byte_in l 4 → kind_of_three k x y ≡ frame_of l
  unfolding listed frame_of whole_pairs bytes_of frame_of_bytes
  frame_three k x y n i j m = rw (i, j, m) (frame_of_lem 6 (kind_of_three (byte_in l 0) (byte_in l 2) (byte_in l 4)) n (λ d. rw d))

  pub frame_four : (k x y z : ℕ) → length l ≡ 8 → k ≡ byte_in l 0 → x ≡ byte_in l 2 → y ≡ byte_in l 4 → z ≡ byte_in l 6 → kind_of_four k x y z ≡ frame_of l
  unfolding listed frame_of whole_pairs bytes_of frame_of_bytes
  frame_four k x y z n i j m p = rw (i, j, m, p) (frame_of_lem 8 (kind_of_four (byte_in l 0) (byte_in l 2) (byte_in l 4) (byte_in l 6)) n (λ d. rw d))

-- no other length has a frame
odd_length : (l : List ℕ) → length l % 2 ≡ 1 → frame_of l ≡ Bad
unfolding frame_of whole_pairs
odd_length l e = rw (e, and-false (all_digits l))

pub other_length : (l : List ℕ) → (length l ≡ 4 → ⊥) → (length l ≡ 6 → ⊥) → (length l ≡ 8 → ⊥) → frame_of l ≡ Bad
unfolding frame_of bytes_of frame_of_bytes
other_length [] p q r = either_bad (whole_pairs [])
other_length (a ∷ b ∷ []) p q r = either_bad (whole_pairs (a ∷ b ∷ []))
other_length (a ∷ b ∷ c ∷ d ∷ []) p q r = absurd (p refl)
other_length (a ∷ b ∷ c ∷ d ∷ f ∷ g ∷ []) p q r = absurd (q refl)
other_length (a ∷ b ∷ c ∷ d ∷ f ∷ g ∷ h ∷ o ∷ []) p q r = absurd (r refl)
other_length (a ∷ b ∷ c ∷ d ∷ f ∷ g ∷ h ∷ o ∷ m ∷ n ∷ l) p q r = either_bad (whole_pairs (a ∷ b ∷ c ∷ d ∷ f ∷ g ∷ h ∷ o ∷ m ∷ n ∷ l))
other_length (a ∷ []) p q r = odd_length (a ∷ []) refl
other_length (a ∷ b ∷ c ∷ []) p q r = odd_length (a ∷ b ∷ c ∷ []) refl
other_length (a ∷ b ∷ c ∷ d ∷ f ∷ []) p q r = odd_length (a ∷ b ∷ c ∷ d ∷ f ∷ []) refl
other_length (a ∷ b ∷ c ∷ d ∷ f ∷ g ∷ h ∷ []) p q r = odd_length (a ∷ b ∷ c ∷ d ∷ f ∷ g ∷ h ∷ []) refl
other_length (a ∷ b ∷ c ∷ d ∷ f ∷ g ∷ h ∷ o ∷ m ∷ []) p q r = odd_length (a ∷ b ∷ c ∷ d ∷ f ∷ g ∷ h ∷ o ∷ m ∷ []) refl

pub ruleset parsings = (no_digits, frame_two, frame_three, frame_four, other_length)
