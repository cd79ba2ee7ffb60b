-- The images of an open parlour's state, along the lines.
use Prim.Native.Nat.{ℕ, ◌≤◌}
use mathlib.Core.Path.{◌≡◌, refl, sym, ap, subst, ◌∙◌}
use mathlib.Core.Bool.{cond}
use mathlib.Core.List.{List, []}
use native.Mathlib.Omega.{arith}
use borrow.Author.Tests.{eq-eqb, ne_eqb}
use lib.Dec.{eqb}
use lib.ListN.{length, replicate}
use Rattle.image.specs.Layout.{largest, length_of, longest}
use Rattle.image.proofs.Accepted.{Accepted}
use Rattle.image.proofs.Has.{length_each}
use Rattle.image.proofs.OrderEntry.{length_is}
use Rattle.line.specs.Parlour.{state_length, heads_of, image_of, with_image, fresh_slot, fresh_state}
use Rattle.line.specs.Asked.{StallOf}
use Rattle.line.proofs.Slots.{length_slot}
use Rattle.line.proofs.Images.{opened_image, length_with, heads_with, image_same, image_other}
use Rattle.parlour.specs.Item.{Item}
use Rattle.parlour.specs.Run.{Images, put}
use Rattle.parlour.specs.Call.{FreshCall}
use Rattle.parlour.proofs.Put.{put_each}
use Rattle.parlour.proofs.Kept.{Kept, fresh_kept}
use Rattle.parlour.proofs.Existence.{fresh_call}

-- an open parlour whose images are those of a history
pub record Open (l : List Item) (state : List ℕ) : Type 0 where
  pub long : length state ≡ state_length
  pub kept : Kept (heads_of state) l (image_of state)

-- images that are the same at every stall
pub kept_agree : {n : ℕ} {l : List Item} {images next : Images} → Kept n l images → ((p : ℕ) → StallOf n p → next p ≡ images p) → Kept n l next
kept_agree {n} w e =
    record {
      n_from = w.n_from;
      n_to = w.n_to;
      joins = w.joins;
      good = λ p i j. subst (λ s. Accepted s n p) (sym (e p (record { from = i; to = j }))) (w.good p i j);
      is = λ p i j. e p (record { from = i; to = j }) ∙ w.is p i j;
    }

-- an image of a parlour has the length for its number of heads
pub kept_long : {n : ℕ} {l : List Item} {images : Images} → Kept n l images → (p : ℕ) → StallOf n p → length (images p) ≡ length_of n
kept_long {n} w p r = (w.good p r.from r.to).frame.long ∙ sym (length_is n w.n_from w.n_to)

pub put_own : (images : Images) (r : ℕ) (x : List ℕ) → put images r x r ≡ x
unfolding put
put_own images r x = rw (eq-eqb r r refl)

pub put_other : (images : Images) (r : ℕ) (x : List ℕ) (p : ℕ) → (p ≡ r → ⊥) → put images r x p ≡ images p
unfolding put
put_other images r x p f = rw (ne_eqb p r f)

pub put_agree : (images next : Images) (r : ℕ) (x : List ℕ) (p : ℕ) → images p ≡ next p → put images r x p ≡ put next r x p
unfolding put
put_agree images next r x p e = ap (λ s. cond (eqb p r) x s) e

-- what is put into the state is put among the images
pub record Placed (n : ℕ) (state : List ℕ) (r : ℕ) (x : List ℕ) : Type 0 where
  pub long : length (with_image state r x) ≡ state_length
  pub heads : heads_of (with_image state r x) ≡ n
  pub images : (p : ℕ) → StallOf n p → image_of (with_image state r x) p ≡ put (image_of state) r x p

pub placed : {n : ℕ} (state : List ℕ) → length state ≡ state_length → heads_of state ≡ n → 2 ≤ n → n ≤ largest
    → (r : ℕ) → StallOf n r → (x : List ℕ) → length x ≡ length_of n → Placed n state r x
placed state long e =
    subst (λ n. 2 ≤ n → n ≤ largest → (r : ℕ) → StallOf n r → (x : List ℕ) → length x ≡ length_of n → Placed n state r x) e
    (λ from to r good x size. record {
      long = length_with state r x long from to good size ∙ long;
      heads = heads_with state r x long from to good size;
      images = λ p i.
          put_each (λ q s. StallOf (heads_of state) q → image_of (with_image state r x) q ≡ s) (image_of state) r p
          (λ j. image_same state r x long from to good size) (λ f j. image_other state r x long from to good size p j f) i;
    })

-- a state of n heads whose images are those of a history
pub is_open : {n : ℕ} {l : List Item} (state : List ℕ) → length state ≡ state_length → heads_of state ≡ n → Kept n l (image_of state) → Open l state
is_open {l = l} state long e w = record { long = long; kept = subst (λ k. Kept k l (image_of state)) (sym e) w }

-- a parlour just opened
pub opened : (n : ℕ) → 2 ≤ n → n ≤ largest → Open [] (fresh_state n)
unfolding fresh_state
opened n i j =
    record {
      long = omega (arith, length_each longest (fresh_slot n) (λ r. length_slot n r i j) largest);
      kept = fresh_kept i j (λ p. replicate (length_of n) 0) (image_of (fresh_state n)) (λ p k l.
          subst (FreshCall (replicate (length_of n) 0) n p 0) (sym (opened_image n p i j (record { from = k; to = l }))) (fresh_call n p i j k l));
    }
