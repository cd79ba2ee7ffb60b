-- A fresh packed image is the packed form of the plain one, and the call that makes it answers the same.
use Prim.Native.Nat.{ℕ, ◌≤◌, ◌<◌}
use mathlib.Core.Path.{◌≡◌, sym, ap, ap₂, subst, ◌∙◌}
use mathlib.Core.Bool.{true, not}
use mathlib.Core.List.{List}
use native.Mathlib.Omega.{arith}
use borrow.Author.Tests.{eq-eqb, le-leb, lt-leb}
use lib.Dec.{eqb}
use lib.ListN.{length, get_or, take}
use lib.Seq.{length-take-le}
use Rattle.image.specs.Layout.{is_count, length_of}
use Rattle.image.specs.Encode.{nothing}
use Rattle.image.specs.Fresh.{fresh_image, fresh_in}
use Rattle.image.specs.Frame.{Sized}
use Rattle.image.specs.Check.{bad_stall}
use Rattle.image.specs.declared.Head.{Head}
use Rattle.image.proofs.OrderEntry.{length_is}
use Rattle.image.proofs.Stages.{in_range}
use Rattle.image.proofs.FreshTable.{length_fresh, fresh_alone}
use Rattle.image.proofs.Made.{nothing_made}
use Rattle.head.specs.Calls.{Outcome, refused, accepted, fresh_call}
use Rattle.head.proofs.Freshness.{into_zero, into_refused, into_same}
use Rattle.packed.specs.Form.{largest_packed, is_packed_count, longest_unpacked, packed_length, packed_image_length, packed_image, packed, unpacked}
use Rattle.packed.specs.Calls.{packed_fresh_call}
use Rattle.packed.specs.Bytes.{packed_of, plain_of}
use Rattle.packed.proofs.Checks.{plain_unpacked}
use Rattle.packed.proofs.Sizes.{PackedSized, packed_sized, packed_length_is, packed_few, plain_short, same_count}
use Rattle.packed.proofs.Forms.{unpacked_image, packed_encode}
use Rattle.packed.proofs.SmallImages.{packed_image_lem}

pub packed_fresh : (n own : ℕ) → 2 ≤ n → n ≤ largest_packed → 1 ≤ own → own ≤ n
    → (unpacked (packed_image n own nothing) ≡ fresh_image n own) × (packed (fresh_image n own) ≡ packed_image n own nothing)
unfolding fresh_image
packed_fresh n own a b c d = (unpacked_image n own nothing b (nothing_made n own), packed_image_lem n own nothing b d (nothing_made n own) a c)

-- The call

-- where both buffers have the length for N, or neither
pub fresh_same : (s u : List ℕ) (n stall : ℕ) → n ≤ largest_packed → eqb (length s) (packed_length n) ≡ eqb (length u) (length_of n) → (packed_fresh_call s n stall).answer ≡ (fresh_call u n stall).answer
unfolding packed_fresh_call fresh_call
fresh_same s u n stall few e = rw (e, ap not (same_count few)) (into_same (not (is_count n)) (not (eqb (length u) (length_of n))) (bad_stall n stall) (packed_image n stall nothing) s (fresh_image n stall) u)

module _ (s : List ℕ) (n stall : ℕ) where
  -- N over that of packed tables is 1
  pub fresh_over : largest_packed < n → packed_fresh_call s n stall ≡ refused 1 s
  unfolding packed_fresh_call
  fresh_over l = rw (le-leb 2 n (omega arith), lt-leb n largest_packed l)

  -- whoever is answered 0 holds the fresh image
  pub fresh_zero : (out : List ℕ) → ◌≡◌ {A = Outcome} (record { answer = 0; image = out }) (packed_fresh_call s n stall) → out ≡ packed_image n stall nothing
  unfolding packed_fresh_call
  fresh_zero out e =
      ap (λ o. o.image) e
      ∙ into_zero (not (is_packed_count n)) (not (eqb (length s) (packed_length n))) (bad_stall n stall) (packed_image n stall nothing) s (sym (ap (λ o. o.answer) e))

  -- and refused, it leaves the buffer
  pub fresh_refused : ((packed_fresh_call s n stall).answer ≡ 0 → ⊥) → (packed_fresh_call s n stall).image ≡ s
  unfolding packed_fresh_call
  fresh_refused = into_refused (not (is_packed_count n)) (not (eqb (length s) (packed_length n))) (bad_stall n stall) (packed_image n stall nothing) s

  -- none of 1 to 3 applies
  pub fresh_taken : 2 ≤ n → n ≤ largest_packed → length s ≡ packed_length n → 1 ≤ stall → stall ≤ n → accepted (packed_image n stall nothing) ≡ packed_fresh_call s n stall
  unfolding packed_fresh_call
  fresh_taken i j e k l = rw (eq-eqb (length s) (packed_length n) e, le-leb 2 n i, le-leb n largest_packed j, le-leb 1 stall k, le-leb stall n l)

-- The code writes the fresh image into the first bytes of a room, has m for n, and packs it

module _ (n stall m long : ℕ) (room : List ℕ) (count : is_packed_count n ≡ true) (m_is : m ≡ n) (long_is : long ≡ length_of m) (room_is : length room ≡ longest_unpacked) where
  n_in : (2 ≤ n) × (n ≤ largest_packed)
  n_in = in_range 2 largest_packed n (ap not count)

  long_n : long ≡ length_of n
  long_n = long_is ∙ ap length_of m_is

  pub fresh_fits : long ≤ length room
  fresh_fits = omega (arith, room_is, long_n, length_is n n_in.0 (packed_few n_in.1), plain_short n_in.1)

  pub fresh_long : (s : List ℕ) → length s ≡ packed_length n → length s ≡ packed_image_length m
  fresh_long s e = e ∙ rw m_is (packed_length_is n n_in.0 n_in.1)

  module _ (head : Head) (out : List ℕ) (head_is : head ≡ record { n = n; stall = stall }) (out_is : out ≡ fresh_in (length (take long room)) head.n head.stall) where
    out_fresh : out ≡ fresh_image n stall
    out_fresh =
        out_is
        ∙ ap₂ (λ k h. fresh_in k h.n h.stall) (length-take-le long room fresh_fits ∙ long_n) head_is
        ∙ fresh_alone n stall n_in.0 (packed_few n_in.1)

    pub fresh_sized : Sized out m
    fresh_sized =
        subst (Sized out) (sym m_is)
        (record { n_from = n_in.0; n_to = packed_few n_in.1; long = ap length out_fresh ∙ length_fresh n stall n_in.0 (packed_few n_in.1) ∙ length_is n n_in.0 (packed_few n_in.1) })

    pub fresh_packed : packed_of m out ≡ packed_image n stall nothing
    unfolding fresh_image
    fresh_packed = ap₂ packed_of m_is out_fresh ∙ packed_encode n stall nothing n_in.1 (nothing_made n stall)

-- and its image is the fresh one
pub fresh_reads : (s : List ℕ) (n stall : ℕ) → is_packed_count n ≡ true → length s ≡ packed_length n → s ≡ packed_image n stall nothing → plain_of s ≡ fresh_image n stall
unfolding packed_image fresh_image
fresh_reads s n stall count long is =
    let (a, b) = in_range 2 largest_packed n (ap not count) in
    let first : n ≡ get_or s 0 0 = sym (ap (λ l. get_or l 0 0) is) in
    let sized : PackedSized s (get_or s 0 0) = subst (PackedSized s) first (record { n_from = a; n_to = b; long = long ∙ packed_length_is n a b }) in
    let (e, f) = (packed_sized s).1 sized in
    plain_unpacked s e f ∙ ap unpacked is ∙ unpacked_image n stall nothing b (nothing_made n stall)
