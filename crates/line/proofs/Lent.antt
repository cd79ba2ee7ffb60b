-- What is lent to a call: the front of an array of zeros, as long as the call wants it, or a part of a state.
use Prim.Native.Nat.{ℕ, ◌+◌, ◌-◌, ◌≤◌}
use mathlib.Core.Path.{◌≡◌, sym, ap, ◌∙◌}
use mathlib.Core.List.{List, ◌++◌, append_assoc}
use native.Mathlib.Omega.{arith}
use lib.ListN.{length, take, drop, replicate, length-append, length-drop, length-replicate}
use lib.Seq.{length-take-le, take_at, drop-drop}

module _ (k size : ℕ) (fits : k ≤ size) where
  pub lent_long : k ≡ length (take {A = ℕ} k (replicate size 0))
  lent_long = sym (length-take-le {A = ℕ} k (replicate size 0) (omega (arith, length-replicate {A = ℕ} size 0, fits)))

  -- what the call leaves there
  module _ (x : List ℕ) (same : length x ≡ length (take {A = ℕ} k (replicate size 0))) where
    pub array_long : length (x ++ drop k (replicate size 0)) ≡ size
    array_long =
        length-append x (drop k (replicate size 0))
        ∙ omega (arith, same, lent_long, length-drop {A = ℕ} k (replicate size 0), length-replicate {A = ℕ} size 0, fits)

    pub front_long : k ≡ length (take k (x ++ drop k (replicate size 0)))
    front_long = sym (length-take-le k (x ++ drop k (replicate size 0)) (omega (arith, array_long, fits)))

    pub the_front : take k (x ++ drop k (replicate size 0)) ≡ x
    the_front = take_at x (drop k (replicate size 0)) k (same ∙ sym lent_long)

-- bytes of a state from a place on
module _ (s : List ℕ) (at count : ℕ) where
  pub part_length : at + count ≤ length s → length (take (at + count - at) (drop at s)) ≡ count
  part_length fits = length-take-le (at + count - at) (drop at s) (omega (arith, length-drop at s)) ∙ omega arith

  -- and the state with what the call leaves there
  pub part_back : (x : List ℕ) → take at s ++ (x ++ drop (at + count - at) (drop at s)) ≡ take at s ++ x ++ drop (at + count) s
  part_back x =
      let k : at + (at + count - at) ≡ at + count = omega arith in
      ap (λ r. take at s ++ (x ++ r)) (drop-drop (at + count - at) at s ∙ ap (λ j. drop j s) k) ∙ sym (append_assoc (take at s) x (drop (at + count) s))
