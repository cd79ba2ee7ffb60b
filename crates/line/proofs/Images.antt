-- The images of a state: fresh when a parlour is opened, and each by itself.
use Prim.Native.Nat.{ℕ, ◌+◌, ◌-◌, ◌≤◌, ◌<◌}
use mathlib.Core.Path.{◌≡◌, sym, ap, ◌∙◌}
use mathlib.Core.List.{List, [], ◌∷◌, ◌++◌, append_assoc}
use native.Mathlib.Omega.{arith}
use native.Mathlib.Decide.{dec_lt}
use borrow.Author.Tests.{le-leb}
use lib.ListN.{length, get_or, take, drop, replicate, length-append, length-drop, get_or-append}
use lib.Seq.{length-take-le, take_at, drop_at, get_or-take, get_or-drop, get_or-append-add, ext_get_or}
use Rattle.image.specs.Stalls.{each}
use Rattle.image.specs.Layout.{largest, length_of, longest}
use Rattle.image.specs.Fresh.{fresh_image}
use Rattle.image.proofs.Has.{has_part, Has, has_self, has_left, has_right, has_each}
use Rattle.image.proofs.Stages.{length_range}
use Rattle.image.proofs.FreshTable.{length_fresh, fresh_in_lem}
use Rattle.line.specs.Parlour.{state_length, heads_of, slot_place, image_of, with_image, fresh_slot, fresh_state}
use Rattle.line.specs.Asked.{StallOf}
use Rattle.line.proofs.Slots.{slot_fits, length_slot}

-- an opened parlour has the fresh image of each stall
module _ (n r : ℕ) (from : 2 ≤ n) (to : n ≤ largest) (good : StallOf n r) where
  slot_there : Has (n ∷ each largest (fresh_slot n)) (slot_place r) (fresh_slot n r)
  slot_there =
      has_each longest (fresh_slot n) (λ k. length_slot n k from to) largest (has_right (n ∷ []) (each largest (fresh_slot n)) (has_self (n ∷ each largest (fresh_slot n)))) r good.from
      (omega (arith, good.to))

  image_there : Has (n ∷ each largest (fresh_slot n)) (slot_place r) (fresh_image n r)
  unfolding fresh_slot
  image_there = has_left (fresh_image n r) (replicate (longest - length_of n) 0) (rw (le-leb r n good.to, fresh_in_lem n r from to longest (length_range n from to).1) at slot_there)

  pub opened_image : image_of (fresh_state n) r ≡ fresh_image n r
  unfolding image_of fresh_state
  opened_image = ap (λ k. take k (drop (slot_place r) (n ∷ each largest (fresh_slot n)))) (sym (length_fresh n r from to)) ∙ has_part image_there

-- another image at stall r
module _ (state : List ℕ) (r : ℕ) (x : List ℕ) (long : length state ≡ state_length) (from : 2 ≤ heads_of state) (to : heads_of state ≤ largest) (good : StallOf (heads_of state) r)
    (size : length x ≡ length_of (heads_of state)) where
  fits : slot_place r + length x ≤ length state
  fits = omega (arith, slot_fits (heads_of state) r from to good.from good.to)

  front : length (take (slot_place r) state) ≡ slot_place r
  front = length-take-le (slot_place r) state (omega (arith, fits))

  both : length (take (slot_place r) state ++ x) ≡ slot_place r + length x
  both = length-append (take (slot_place r) state) x ∙ omega (arith, front)

  pub length_with : length (with_image state r x) ≡ length state
  unfolding with_image
  length_with =
      length-append (take (slot_place r) state ++ x) (drop (slot_place r + length x) state) ∙ omega (arith, both, length-drop (slot_place r + length x) state, fits)

  -- every byte before it and behind it stays
  before : (j : ℕ) → j < slot_place r → get_or (with_image state r x) j 0 ≡ get_or state j 0
  unfolding with_image
  before j l =
      get_or-append (take (slot_place r) state ++ x) (drop (slot_place r + length x) state) 0 j (omega (arith, both))
      ∙ get_or-append (take (slot_place r) state) x 0 j (omega (arith, front))
      ∙ get_or-take (slot_place r) state j 0 l

  after : (j : ℕ) → slot_place r + length x ≤ j → get_or (with_image state r x) j 0 ≡ get_or state j 0
  unfolding with_image
  after j l =
      let d : length (take (slot_place r) state ++ x) + (j - (slot_place r + length x)) ≡ j = omega (arith, both) in
      let e : slot_place r + length x + (j - (slot_place r + length x)) ≡ j = omega arith in
      ap (λ k. get_or (take (slot_place r) state ++ x ++ drop (slot_place r + length x) state) k 0) (sym d)
      ∙ get_or-append-add (take (slot_place r) state ++ x) (drop (slot_place r + length x) state) (j - (slot_place r + length x)) 0
      ∙ get_or-drop (slot_place r + length x) state (j - (slot_place r + length x)) 0
      ∙ ap (λ k. get_or state k 0) e

  pub heads_with : heads_of (with_image state r x) ≡ heads_of state
  heads_with = before 0 (omega arith)

  -- it is the image of stall r, and no other image changes
  pub image_same : image_of (with_image state r x) r ≡ x
  unfolding image_of with_image
  image_same =
      ap (λ k. take (length_of k) (drop (slot_place r) (take (slot_place r) state ++ x ++ drop (slot_place r + length x) state))) heads_with
      ∙ ap (λ l. take (length_of (heads_of state)) (drop (slot_place r) l)) (append_assoc (take (slot_place r) state) x (drop (slot_place r + length x) state))
      ∙ ap (take (length_of (heads_of state))) (drop_at (take (slot_place r) state) (x ++ drop (slot_place r + length x) state) (slot_place r) front)
      ∙ take_at x (drop (slot_place r + length x) state) (length_of (heads_of state)) size

  pub image_other : (q : ℕ) → StallOf (heads_of state) q → (q ≡ r → ⊥) → image_of (with_image state r x) q ≡ image_of state q
  unfolding image_of
  image_other q other ne =
      let k = length_of (heads_of state) in
      let w = length_range (heads_of state) from to in
      let there = slot_fits (heads_of state) q from to other.from other.to in
      let a : length (take k (drop (slot_place q) (with_image state r x))) ≡ k =
      length-take-le k (drop (slot_place q) (with_image state r x)) (omega (arith, length-drop (slot_place q) (with_image state r x), length_with, there)) in
      let b : length (take k (drop (slot_place q) state)) ≡ k = length-take-le k (drop (slot_place q) state) (omega (arith, length-drop (slot_place q) state, there)) in
      ap (λ h. take (length_of h) (drop (slot_place q) (with_image state r x))) heads_with
      ∙ ext_get_or 0 (take k (drop (slot_place q) (with_image state r x))) (take k (drop (slot_place q) state)) (a ∙ sym b)
      (λ j l. get_or-take k (drop (slot_place q) (with_image state r x)) j 0 (omega arith)
      ∙ get_or-drop (slot_place q) (with_image state r x) j 0
      ∙ elim (dec_lt q r) [
        | yes p ↦ before (slot_place q + j) (omega (arith, w.1, other.from))
        | no p ↦ after (slot_place q + j) (omega (arith, w.1, size, good.from, ne))
      ]
      ∙ sym (get_or-drop (slot_place q) state j 0)
      ∙ sym (get_or-take k (drop (slot_place q) state) j 0 (omega arith)))
