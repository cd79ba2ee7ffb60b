-- The images of a well-made table, packed and plain, have bytes only, and so has a packed image after a milking.
use Prim.Native.Nat.{ℕ, zero, suc, ◌/◌, ◌%◌, ◌^◌, ◌≤◌, ◌<◌}
use mathlib.Core.Path.{◌≡◌, refl, sym, subst, ◌∙◌}
use mathlib.Core.Bool.{Bool, true, false}
use mathlib.Core.Logic.{inl, inr}
use mathlib.Core.List.{List, [], ◌∷◌, ◌++◌}
use native.Mathlib.Omega.{arith}
use native.Mathlib.Decide.{dec_lt}
use borrow.Author.Tests.{leb-true, eqb-true, ltb-false}
use lib.Dec.{leb, ltb, eqb}
use lib.ListN.{set}
use lib.Pow.{pow_mono}
use Rattle.image.specs.Stalls.{each, bits}
use Rattle.image.specs.Layout.{yield_limit, no_yield, is_yield}
use Rattle.image.specs.Encode.{Table, word_bytes, order_bytes, encode, table_of}
use Rattle.image.specs.Made.{Made}
use Rattle.image.specs.declared.Checked.{Checked}
use Rattle.image.specs.declared.Checked.TheVariants.{Good, Refused}
use Rattle.image.proofs.Bits.{bits_lt}
use Rattle.image.proofs.OrderEntry.{order_single, bytes_one}
use Rattle.image.proofs.Passing.{or_holds}
use Rattle.image.proofs.Accepted.{Accepted}
use Rattle.image.proofs.AcceptedMade.{accepted_made}
use Rattle.image.proofs.MadeAccepted.{made_accepted}
use Rattle.merge.specs.Call.{meeting_call}
use Rattle.head.specs.Calls.{with_current, milked}
use Rattle.packed.specs.Form.{largest_packed, name_byte, packed_image, packed, unpacked}
use Rattle.packed.specs.Check.{packed_checked}
use Rattle.packed.specs.Calls.{packed_milking_call, packed_meeting_call}
use Rattle.packed.proofs.Small.{Small, small_two, small_append, small_within}
use Rattle.packed.proofs.Rows.{rows}
use Rattle.packed.proofs.Sizes.{packed_few}
use Rattle.packed.proofs.Names.{name_small}
use Rattle.packed.proofs.Forms.{header, yields, orders, packed_parts, packed_table, unpacked_of_image, packed_encode, packed_is}
use Rattle.packed.proofs.Unpacked.{small_unpacked}
use Rattle.packed.proofs.MetAlike.{meeting_after}
use Rattle.packed.proofs.MetPacked.{few_after, after_taken, after_kept}

small_one : {a : ℕ} → a < 256 → Small (a ∷ [])
small_one l zero = l
small_one l (suc k) = omega arith

small_set : (l : List ℕ) (i a : ℕ) → Small l → a < 256 → Small (set l i a)
small_set [] i a f b k = f k
small_set (x ∷ l) zero a f b zero = b
small_set (x ∷ l) zero a f b (suc k) = f (suc k)
small_set (x ∷ l) (suc i) a f b zero = f 0
small_set (x ∷ l) (suc i) a f b (suc k) = small_set l i a (λ j. f (suc j)) b k

-- a yield is 0 to 999 or ffff
small_yield : (x : ℕ) → is_yield x ≡ true → Small (word_bytes x)
unfolding is_yield no_yield
small_yield x e =
    elim ((or_holds (leb x yield_limit) (eqb x no_yield)).0 e) [
      | inl i ↦ small_two (omega (arith, leb-true x yield_limit i)) (omega arith)
      | inr i ↦ small_two (omega (arith, eqb-true x no_yield i)) (omega arith)
    ]

small_order : (n x : ℕ) → n ≤ largest_packed → x < 2 ^ n → Small (order_bytes n x)
small_order n x a b = subst Small (sym (bytes_one n x (order_single n a))) (small_one (omega (arith, pow_mono {i = n} {j = largest_packed} a)))

module _ (n own : ℕ) (t : Table) (n_to : n ≤ largest_packed) (own_to : own ≤ n) (m : Made n own t) where
  abbrev names : ℕ → ℕ → List ℕ
  names r c = name_byte c (t.names r c) ∷ []

  small_front : Small (header n own t ++ rows n names)
  small_front =
      small_append (header n own t) (rows n names)
      (small_append (n ∷ own ∷ []) (word_bytes t.current) (small_two (omega arith) (omega arith)) (small_yield t.current m.current_in))
      (small_within n (λ r. each n (names r)) (λ r i j. small_within n (names r) (λ c k l. small_one (name_small n c (t.names r c) (omega arith) n_to (m.names_in r c i j k l)))))

  pub small_packed_image : Small (packed_image n own t)
  small_packed_image =
      subst Small (sym (packed_parts n own t))
      (small_append (header n own t ++ rows n names) (yields n own t ++ orders n own t) small_front
      (small_append (yields n own t) (orders n own t)
      (small_within n _ (λ r i j. small_yield (t.yields r) (m.yields_in r i j)))
      (small_within n _ (λ r i j. small_order n (bits n (t.order r)) n_to (bits_lt n (t.order r))))))

  -- the unpacked form of bytes has bytes only
  pub small_encode : Small (encode n own t)
  small_encode = subst Small (unpacked_of_image n own t n_to m) (small_unpacked n (packed_image n own t) small_packed_image)

  -- so its image packs to its packed image
  pub packed_image_lem : 2 ≤ n → 1 ≤ own → packed (encode n own t) ≡ packed_image n own t
  packed_image_lem n_from own_from = sym (packed_is (made_accepted n own t n_from (packed_few n_to) own_from own_to m) n_to small_encode) ∙ packed_encode n own t n_to m

-- a milking sets the two bytes of a yield
pub small_milked : (s : List ℕ) (yield : ℕ) → Small s → yield ≤ yield_limit → Small (with_current s yield)
small_milked s yield f l = small_set (set s 2 (yield / 256)) 3 (yield % 256) (small_set s 2 (yield / 256) f (omega arith)) (omega arith)

-- The calls leave bytes only

pub small_milking : (s : List ℕ) (yield : ℕ) → Small s → Small (packed_milking_call s yield).image
unfolding milked
small_milking s yield f = go (packed_checked s) (ltb yield_limit yield) refl
  where
    go : (x : Checked) (t : Bool) → ltb yield_limit yield ≡ t → Small (milked s yield x).image
    go (Refused number) t e = f
    go (Good h) true e = rw e f
    go (Good h) false e = rw e (small_milked s yield f (ltb-false yield_limit yield e))

small_packed : {s : List ℕ} {n own : ℕ} → Accepted s n own → n ≤ largest_packed → Small (packed s)
small_packed {s} {n} {own} w few =
    subst Small (sym (packed_table w)) (small_packed_image n own (table_of s n) few w.frame.own_to (accepted_made w))

pub small_meeting : (s u buffer : List ℕ) → Small s → Small u → let o = packed_meeting_call s u buffer in Small o.first × Small o.second
small_meeting s u buffer f g =
    let m = meeting_call (unpacked s) (unpacked u) buffer in
    elim (dec_lt m.answer 256) [
      | yes l ↦
          let w = meeting_after (unpacked s) (unpacked u) buffer l in
          rw (after_taken s u buffer m l) (small_packed w.first_after_lem (few_after s u w), small_packed w.second_after_lem (few_after s u w))
      | no l ↦ rw (after_kept s u buffer m (omega arith)) (f, g)
    ]
