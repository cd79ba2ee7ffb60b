-- Digits: which bytes they are, lines of them, and bytes written as digits.
use Prim.Native.Nat.{ℕ, zero, suc, ◌+◌, ◌-◌, ◌*◌, ◌≤◌, ◌<◌}
use mathlib.Core.Path.{◌≡◌, refl, sym, ap, ap₂, ◌∙◌}
use mathlib.Core.Bool.{Bool, true, false, ◌&&◌, and-false, true≢false}
use mathlib.Core.List.{List, [], ◌∷◌, ◌++◌, flat_map, append_assoc, append-nil}
use Rattle.std.specs.List.{list_all}
use native.Mathlib.Omega.{arith}
use native.Mathlib.Numerals.{add-one}
use native.Mathlib.Decide.{dec_le}
use borrow.Author.Tests.{le-leb, lt-leb}
use lib.Dec.{leb}
use lib.ListN.{length, get_or, take, drop, length-append, take-append-drop}
use lib.Seq.{take-suc, take-length, length-take-le}
use Rattle.image.proofs.Has.{flat_map_append, length_flat_map}
use Rattle.image.proofs.Overwrite.{behind}
use Rattle.line.specs.Digits.{is_digit, digit_value, all_digits, pair_of, digits_of}

-- no digit stands below 48, from 58 to 96, or above 102
below_digits : (c : ℕ) → c < 48 → is_digit c ≡ false
unfolding is_digit
below_digits c l = rw (lt-leb 48 c l, lt-leb 97 c (omega arith))

between_digits : (c : ℕ) → 57 < c → c < 97 → is_digit c ≡ false
unfolding is_digit
between_digits c l k = rw (lt-leb c 57 l, lt-leb 97 c k, and-false (leb 48 c))

above_digits : (c : ℕ) → 102 < c → is_digit c ≡ false
unfolding is_digit
above_digits c l = rw (lt-leb c 57 (omega arith), lt-leb c 102 l, and-false (leb 48 c), and-false (leb 97 c))

module _ (c : ℕ) (digit : is_digit c ≡ true) where
  not_other : is_digit c ≡ false → ⊥
  not_other e = true≢false (sym digit ∙ e)

  pub low_digit : 48 ≤ c
  low_digit = elim (dec_le 48 c) [
    | yes l ↦ l
    | no l ↦ absurd (not_other (below_digits c (omega arith)))
  ]

  pub high_digit : 57 < c → (97 ≤ c) × (c ≤ 102)
  high_digit k = (
    elim (dec_le 97 c) [
      | yes l ↦ l
      | no l ↦ absurd (not_other (between_digits c k (omega arith)))
    ],
    elim (dec_le c 102) [
      | yes l ↦ l
      | no l ↦ absurd (not_other (above_digits c (omega arith)))
    ],
  )

  pub value_low : c ≤ 57 → (c - 48 ≡ digit_value c) × (c - 48 ≤ 15)
  unfolding digit_value
  value_low l = rw (le-leb c 57 l) (refl, omega arith)

  pub value_high : 57 < c → (c - 97 + 10 ≡ digit_value c) × (c - 97 + 10 ≤ 15)
  unfolding digit_value
  value_high l = rw (lt-leb c 57 l) (omega (arith, (high_digit l).0), omega (arith, (high_digit l).1))

-- a line of digits, as std says that a test holds of all
pub list_all_digits : (l : List ℕ) → list_all is_digit l ≡ all_digits l
unfolding all_digits
list_all_digits [] = refl
list_all_digits (c ∷ l) = ap (λ t. is_digit c && t) (list_all_digits l)

-- each byte of a line of digits is one
pub each_digit : (l : List ℕ) (i : ℕ) → all_digits l ≡ true → i < length l → is_digit (get_or l i 0) ≡ true
unfolding all_digits
each_digit [] i e k = absurd (omega arith)
each_digit (a ∷ l) zero e k = go (is_digit a) e
  where
    go : (t : Bool) → (t && all_digits l) ≡ true → t ≡ true
    go true f = refl
    go false f = f
each_digit (a ∷ l) (suc i) e k = each_digit l i (go (is_digit a) e) (omega arith)
  where
    go : (t : Bool) → (t && all_digits l) ≡ true → all_digits l ≡ true
    go true f = f
    go false f = absurd (true≢false (sym f))

-- the digits of bytes in a row
pub digits_append : (l m : List ℕ) → digits_of (l ++ m) ≡ digits_of l ++ digits_of m
unfolding digits_of
digits_append l m = flat_map_append pair_of l m

pub digits_one : (a : ℕ) → digits_of (a ∷ []) ≡ pair_of a
unfolding digits_of flat_map
digits_one a = refl

pub length_digits : (l : List ℕ) → length (digits_of l) ≡ 2 * length l
unfolding digits_of
length_digits l = length_flat_map 2 pair_of (λ r. refl) l ∙ omega arith

-- d with the digits of the first i bytes from a place on
pub digits_to : List ℕ → ℕ → List ℕ → ℕ → List ℕ
digits_to d at bytes i = take at d ++ digits_of (take i bytes) ++ drop (at + 2 * i) d

pub digits_to_start : (d : List ℕ) (at : ℕ) (bytes : List ℕ) → d ≡ digits_to d at bytes 0
unfolding digits_to digits_of flat_map
digits_to_start d at bytes =
    let e : at + 2 * 0 ≡ at = omega arith in
    sym (ap (λ j. take at d ++ [] ++ drop j d) e ∙ ap (λ r. r ++ drop at d) (append-nil (take at d)) ∙ take-append-drop at d)

module _ (d l bytes : List ℕ) (at place i : ℕ) (stands : place ≡ at + 2 * i) (fits : at + 2 * length bytes ≤ length d) (k : i < length bytes)
    (so_far : l ≡ digits_to d at bytes i) where
  abbrev front : List ℕ
  front = take at d ++ digits_of (take i bytes)

  length_front : length front ≡ at + 2 * i
  length_front =
      length-append (take at d) (digits_of (take i bytes))
      ∙ omega (arith, length-take-le at d (omega arith), length_digits (take i bytes), length-take-le i bytes (omega arith))

  pub digits_to_next : (x : List ℕ) → x ≡ take place l ++ pair_of (get_or bytes i 0) ++ drop (place + 2) l → x ≡ digits_to d at bytes (i + 1)
  unfolding digits_to
  digits_to_next x e =
      let j : at + 2 * i + 2 ≡ at + 2 * (i + 1) = omega arith in
      e
      ∙ ap₂ (λ p m. take p m ++ pair_of (get_or bytes i 0) ++ drop (p + 2) m) stands so_far
      ∙ behind front d (pair_of (get_or bytes i 0)) (at + 2 * i) 2 length_front
      ∙ ap₂ (λ p n. p ++ drop n d) more j
    where
      more : front ++ pair_of (get_or bytes i 0) ≡ take at d ++ digits_of (take (i + 1) bytes)
      more =
          append_assoc (take at d) (digits_of (take i bytes)) (pair_of (get_or bytes i 0))
          ∙ ap (λ r. take at d ++ r)
          (ap (λ r. digits_of (take i bytes) ++ r) (sym (digits_one (get_or bytes i 0)))
          ∙ sym (digits_append (take i bytes) (get_or bytes i 0 ∷ []))
          ∙ ap digits_of (sym (take-suc bytes i 0 k) ∙ ap (λ n. take n bytes) (sym (add-one i))))

pub digits_to_end : (d l bytes : List ℕ) (at i : ℕ) → i ≤ length bytes → length bytes ≤ i → l ≡ digits_to d at bytes i
    → l ≡ take at d ++ digits_of bytes ++ drop (at + 2 * length bytes) d
unfolding digits_to
digits_to_end d l bytes at i a b e =
    let j : i ≡ length bytes = omega arith in
    e ∙ ap (λ k. take at d ++ digits_of (take k bytes) ++ drop (at + 2 * k) d) j ∙ ap (λ r. take at d ++ digits_of r ++ drop (at + 2 * length bytes) d) (take-length bytes)

pub ruleset values = (low_digit, high_digit, value_low, value_high)

pub ruleset each_one = (each_digit)
