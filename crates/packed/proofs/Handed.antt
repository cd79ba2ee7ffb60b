-- What is handed to the plain calls in the place of a packed image, by the tests in their order.
use Prim.Native.Nat.{ℕ, ◌≤◌}
use mathlib.Core.Path.{◌≡◌, sym, ap, subst, ◌∙◌}
use mathlib.Core.Bool.{Bool, true, false, not}
use mathlib.Core.List.{List, [], ◌∷◌}
use native.Mathlib.Omega.{arith}
use borrow.Author.Tests.{eq-eqb, ne_eqb}
use lib.ListN.{length, get_or, set, take}
use lib.Seq.{length-take-le}
use Rattle.image.specs.Layout.{length_of, image_length}
use Rattle.image.specs.Frame.{Sized}
use Rattle.image.proofs.OrderEntry.{length_is}
use Rattle.packed.specs.Form.{is_packed_count, longest_unpacked, packed_length, packed_image_length, unpacked_of}
use Rattle.packed.specs.Check.{bad_packed_count, bad_packed_length}
use Rattle.packed.specs.Bytes.{plain_of}
use Rattle.packed.proofs.Sizes.{PackedSized, packed_few, plain_short, unpacked_is, packed_sized}
use Rattle.packed.proofs.Checks.{plain_empty, plain_count, plain_unpacked}

module _ (p : List ℕ) where
  abbrev n : ℕ
  n = get_or p 0 0

  pub handed_empty : length p ≡ 0 → ◌≡◌ {A = List ℕ} [] (plain_of p)
  unfolding bad_packed_count
  handed_empty e = sym (plain_empty p (rw (eq-eqb (length p) 0 e)))

  module _ (some : length p ≡ 0 → ⊥) where
    count_bad : (b : Bool) → not (is_packed_count n) ≡ b → bad_packed_count p ≡ b
    unfolding bad_packed_count
    count_bad b e = rw (ne_eqb (length p) 0 some) e

    pub handed_none : not (is_packed_count n) ≡ true → ◌≡◌ {A = List ℕ} [] (plain_of p)
    handed_none e = sym (plain_empty p (count_bad true e))

    module _ (count : not (is_packed_count n) ≡ false) where
      -- the first byte of a room, which has one
      pub handed_count : (room : List ℕ) → 1 ≤ length room → (length p ≡ packed_length n → ⊥) → take 1 (set room 0 n) ≡ plain_of p
      unfolding bad_packed_length
      handed_count [] l f = absurd (omega arith)
      handed_count (x ∷ room) l f = sym (plain_count p (count_bad false count) (rw (ne_eqb (length p) (packed_length n) f)))

      module _ (long : length p ≡ packed_length n) where
        long_good : bad_packed_length p ≡ false
        unfolding bad_packed_length
        long_good = rw (eq-eqb (length p) (packed_length n) long)

        whole : PackedSized p n
        whole = (packed_sized p).0 (count_bad false count, long_good)

        -- where the code has m for n, and unpacks into so many bytes
        module _ {m k : ℕ} (m_is : m ≡ n) (k_is : k ≡ length_of m) where
          image_long : k ≡ image_length n
          image_long = k_is ∙ ap length_of m_is ∙ length_is n whole.n_from (packed_few whole.n_to)

          pub handed_fits : k ≤ longest_unpacked
          handed_fits = omega (arith, image_long, plain_short whole.n_to)

          pub handed_sized : (room : List ℕ) → length room ≡ longest_unpacked → Sized (take k room) m × (length p ≡ packed_image_length m)
          handed_sized room e =
              let long = length-take-le k room (omega (arith, e, handed_fits)) ∙ image_long in
              (subst (Sized (take k room)) (sym m_is) (record { n_from = whole.n_from; n_to = packed_few whole.n_to; long = long }), whole.long ∙ ap packed_image_length (sym m_is))

        pub handed_whole : {m : ℕ} → m ≡ n → unpacked_of m p ≡ plain_of p
        handed_whole m_is = ap (λ k. unpacked_of k p) m_is ∙ sym (plain_unpacked p (count_bad false count) long_good ∙ unpacked_is p whole.n_to)

pub ruleset handings = (handed_empty, handed_none, handed_count, handed_fits, handed_whole)
