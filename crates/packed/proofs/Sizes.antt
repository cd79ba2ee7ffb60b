-- How long a packed image and its unpacked form are, and what passing the checks 1 and 2 says.
use Prim.Native.Nat.{ℕ, ◌+◌, ◌-◌, ◌*◌, ◌≤◌, ◌<◌, min}
use mathlib.Core.Path.{◌≡◌, refl, sym, ap, ◌∙◌}
use mathlib.Core.Logic.Iff
use mathlib.Core.Logic.{◌↔◌}
use mathlib.Core.Bool.{false}
use mathlib.Core.List.{List, [], ◌∷◌}
use native.Mathlib.Omega.{arith}
use native.Mathlib.Nat.{mul-le-mul}
use native.Mathlib.Decide.{dec_le}
use borrow.Author.Tests.{le-leb, lt-leb}
use lib.ListN.{length, get_or, take, drop, length-take, length-drop}
use Rattle.image.specs.Stalls.{each}
use Rattle.image.specs.Layout.{largest, is_count, image_length}
use Rattle.image.specs.Frame.{Sized}
use Rattle.image.proofs.OrderEntry.{order_wide, order_single}
use Rattle.image.proofs.Encoding.{name_wide}
use Rattle.image.proofs.Passing.{passing}
use Rattle.image.proofs.Accepted.{Accepted}
use Rattle.packed.specs.Form.{largest_packed, is_packed_count, longest_unpacked, packed_length, packed_yields_place, packed_image_length, packed_place, name_of, unpacked_row, unpacked_of, unpacked}
use Rattle.packed.specs.Check.{bad_packed_count, bad_packed_length}
use Rattle.packed.proofs.Rows.{length_between}

pub packed_length_is : (n : ℕ) → 2 ≤ n → n ≤ largest_packed → packed_length n ≡ packed_image_length n
packed_length_is n a b = rw (le-leb 2 n a, le-leb n largest_packed b) (omega (arith, ap (λ w. n * w) (order_single n b)))

-- no parlour that is packed is larger than those that are not
pub packed_few : {n : ℕ} → n ≤ largest_packed → n ≤ largest
packed_few l = omega arith

-- and none of them has a longer plain image
pub plain_short : {n : ℕ} → n ≤ largest_packed → image_length n ≤ longest_unpacked
plain_short {n} l = omega (arith, mul-le-mul l l, ap (λ w. n * w) (order_single n l))

pub same_count : {n : ℕ} → n ≤ largest_packed → is_packed_count n ≡ is_count n
same_count {n} l = rw (le-leb n largest_packed l, le-leb n largest (packed_few l))

-- The unpacked form

-- of any list: two bytes for one, where it is long enough
pub length_unpacked_of : (n : ℕ) (p : List ℕ) → length (unpacked_of n p) ≡ min 4 (length p) + n * (n + n) + (length p - packed_yields_place n)
unfolding unpacked_of unpacked_row
length_unpacked_of n p =
    length_between n 2 (n + n) _ (omega arith) (λ r c. name_wide (name_of c (get_or p (packed_place n r c) 0))) (take 4 p) (drop (packed_yields_place n) p)
    ∙ omega (arith, length-take 4 p, length-drop (packed_yields_place n) p)

pub length_unpacked : (n : ℕ) (p : List ℕ) → length p ≡ packed_image_length n → length (unpacked_of n p) ≡ image_length n
length_unpacked n p e = length_unpacked_of n p ∙ omega arith

-- the first byte of any list stays, and the second where there is one
pub count_of : (p : List ℕ) → get_or (unpacked_of (get_or p 0 0) p) 0 0 ≡ get_or p 0 0
unfolding unpacked_of each
count_of [] = refl
count_of (x ∷ p) = refl

pub stall_unpacked : (n : ℕ) (p : List ℕ) → 2 ≤ length p → get_or (unpacked_of n p) 1 0 ≡ get_or p 1 0
unfolding unpacked_of
stall_unpacked n [] l = absurd (omega arith)
stall_unpacked n (x ∷ []) l = absurd (omega arith)
stall_unpacked n (x ∷ y ∷ p) l = refl

-- by N: that of a packed table, or none
pub unpacked_is : (p : List ℕ) → get_or p 0 0 ≤ largest_packed → unpacked p ≡ unpacked_of (get_or p 0 0) p
unfolding unpacked
unpacked_is p l = rw (le-leb (get_or p 0 0) largest_packed l)

pub unpacked_none : (p : List ℕ) → largest_packed < get_or p 0 0 → unpacked p ≡ []
unfolding unpacked
unpacked_none p l = rw (lt-leb (get_or p 0 0) largest_packed l)

-- what passes has N that of a packed table
pub packed_count : (p : List ℕ) {n own : ℕ} → Accepted (unpacked p) n own → (get_or p 0 0 ≤ largest_packed) × (get_or p 0 0 ≡ n)
packed_count p {n} w = elim (dec_le (get_or p 0 0) largest_packed) [
  | yes l ↦ (l, sym (ap (λ s. get_or s 0 0) (unpacked_is p l) ∙ count_of p) ∙ w.count)
  | no l ↦ absurd (omega (arith, ap length (unpacked_none p (omega arith)), w.frame.long))
]

-- A packed image that has passed the checks 1 and 2

pub record PackedSized (p : List ℕ) (n : ℕ) : Type 0 where
  pub n_from : 2 ≤ n
  pub n_to : n ≤ largest_packed
  pub long : length p ≡ packed_image_length n

pub count_passes : (p : List ℕ) → (bad_packed_count p ≡ false) ↔ ((length p ≡ 0 → ⊥) × ((2 ≤ get_or p 0 0) × (get_or p 0 0 ≤ largest_packed)))
unfolding bad_packed_count
count_passes p = simp passing Iff.rfl

length_passes : (p : List ℕ) → (bad_packed_length p ≡ false) ↔ (length p ≡ packed_length (get_or p 0 0))
unfolding bad_packed_length
length_passes p = simp passing Iff.rfl

pub packed_sized : (p : List ℕ) → ((bad_packed_count p ≡ false) × (bad_packed_length p ≡ false)) ↔ PackedSized p (get_or p 0 0)
packed_sized p = (
  λ e.
      let (a, b) = ((count_passes p).0 e.0).1 in
      record { n_from = a; n_to = b; long = (length_passes p).0 e.1 ∙ packed_length_is _ a b },
  λ z. (
    (count_passes p).1 (λ e. omega (arith, z.long), (z.n_from, z.n_to)),
    (length_passes p).1 (z.long ∙ sym (packed_length_is _ z.n_from z.n_to)),
  ),
)

pub sized_unpacked : {p : List ℕ} {n : ℕ} → PackedSized p n → Sized (unpacked_of n p) n
sized_unpacked {p} {n} z = record { n_from = z.n_from; n_to = packed_few z.n_to; long = length_unpacked n p z.long }

-- no other list has an unpacked form as long as an image
pub unpacked_long : (n : ℕ) (p : List ℕ) → 2 ≤ n → length (unpacked_of n p) ≡ image_length n → length p ≡ packed_image_length n
unpacked_long n p a e = omega (arith, length_unpacked_of n p, order_wide n)
