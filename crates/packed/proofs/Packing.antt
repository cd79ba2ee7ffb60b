-- One form of an image into a buffer, by the check and the buffer's length: for the calls that pack and unpack.
use Prim.Native.Nat.{ℕ, ◌≤◌}
use mathlib.Core.Path.{◌≡◌, sym, ◌∙◌}
use mathlib.Core.List.{List}
use borrow.Author.Tests.{eq-eqb, ne_eqb}
use lib.ListN.{length}
use Rattle.image.specs.Layout.{length_of}
use Rattle.image.specs.Frame.{Sized}
use Rattle.image.specs.declared.Header.{Header}
use Rattle.image.specs.declared.Checked.{Checked}
use Rattle.image.specs.declared.Checked.TheVariants.{Good, Refused}
use Rattle.image.proofs.OrderEntry.{length_is}
use Rattle.image.specs.Check.{checked}
use Rattle.image.proofs.Accepted.{Accepted, accepted}
use Rattle.head.specs.Calls.{refused, accepted as accepted_into}
use Rattle.packed.specs.Form.{largest_packed, packed_length, packed_image_length, unpacked}
use Rattle.packed.specs.Check.{packed_checked}
use Rattle.packed.specs.Bytes.{plain_of}
use Rattle.packed.proofs.Checks.{checked_plain, good_packed}
use Rattle.packed.specs.Calls.{into, unpack_call}
use Rattle.packed.proofs.Sizes.{packed_length_is}

module _ (form out : List ℕ) (long : ℕ → ℕ) {x : Checked} where
  pub into_refused : {k code : ℕ} → x ≡ Refused k → code ≡ k → refused code out ≡ into form x long out
  unfolding into
  into_refused e i = rw (e, i)

  pub into_short : {h : Header} → x ≡ Good h → (length out ≡ long h.n → ⊥) → refused 8 out ≡ into form x long out
  unfolding into
  into_short {h} e f = rw (e, ne_eqb (length out) (long h.n) f)

  pub into_done : {h : Header} → x ≡ Good h → length out ≡ long h.n → {z : List ℕ} → z ≡ form → accepted_into z ≡ into form x long out
  unfolding into
  into_done {h} e i j = rw (e, eq-eqb (length out) (long h.n) i, j)

-- an accepted image, where the code has m for n
module _ {s : List ℕ} {n own m : ℕ} (w : Accepted s n own) (m_is : m ≡ n) where
  pub accepted_sized : Sized s m
  accepted_sized = let f = w.frame in rw m_is (record { n_from = f.n_from; n_to = f.n_to; long = f.long })

  pub packed_long : {long : ℕ} → n ≤ largest_packed → long ≡ packed_length m → long ≡ packed_image_length m
  packed_long few e = e ∙ rw m_is (packed_length_is n w.frame.n_from few)

-- what is handed over for a packed image, by its check, goes into a buffer of its length
module _ (p out : List ℕ) where
  by_check : {x : Checked} → x ≡ checked (plain_of p) → packed_checked p ≡ x
  by_check e = sym (e ∙ checked_plain p)

  pub unpack_refused : {k code : ℕ} → Refused k ≡ checked (plain_of p) → code ≡ k → refused code out ≡ unpack_call p out
  unpack_refused e i = into_refused (unpacked p) out length_of (by_check e) i

  module _ {h : Header} (e : Good h ≡ checked (plain_of p)) where
    plain_long : length (plain_of p) ≡ length_of h.n
    plain_long = let f = (accepted (plain_of p) h (sym e)).frame in f.long ∙ sym (length_is h.n f.n_from f.n_to)

    pub unpack_short : (length out ≡ length (plain_of p) → ⊥) → refused 8 out ≡ unpack_call p out
    unpack_short f = into_short (unpacked p) out length_of (by_check e) (λ i. f (i ∙ sym plain_long))

    pub unpack_done : length out ≡ length (plain_of p) → accepted_into (plain_of p) ≡ unpack_call p out
    unpack_done i = into_done (unpacked p) out length_of (by_check e) (i ∙ plain_long) (good_packed p (by_check e)).plain

pub ruleset unpacks = (unpack_refused, unpack_short, unpack_done)
