-- A table packed and unpacked: its packed image and its image are the forms of each other.
use Prim.Native.Nat.{ℕ, ◌+◌, ◌-◌, ◌*◌, ◌%◌, ◌≤◌, ◌<◌}
use mathlib.Core.Path.{◌≡◌, refl, sym, ap, ap₂, subst, ◌∙◌}
use mathlib.Core.List.{List, [], ◌∷◌, ◌++◌, append_assoc}
use native.Mathlib.Omega.{arith}
use lib.ListN.{length, get_or, length-append}
use Rattle.image.specs.Stalls.{each, bits}
use Rattle.image.specs.Layout.{name_from, name_at, order_width}
use Rattle.image.specs.Encode.{Table, name_bytes, word_bytes, order_bytes, encode, table_of}
use Rattle.image.specs.Made.{Made}
use Rattle.image.specs.declared.Name.{Name}
use Rattle.image.proofs.Has.{Has, has_first, has_place, length_each}
use Rattle.image.proofs.OrderEntry.{length_order}
use Rattle.image.proofs.Encoding as Encoding
use Rattle.image.proofs.Encoding.{Proper, name_wide}
use Rattle.image.proofs.Accepted.{Accepted, accepted_encode}
use Rattle.image.proofs.AcceptedMade.{accepted_made}
use Rattle.packed.specs.Form.{largest_packed, packed_image_length, packed_place, name_byte, packed_image, packed, name_of, unpacked_row, unpacked_of, unpacked}
use Rattle.packed.specs.Bytes.{packed_row, packed_of}
use Rattle.packed.proofs.Small.{Small}
use Rattle.packed.proofs.Names.{proper_of, name_back, name_small}
use Rattle.packed.proofs.Sizes.{unpacked_is}
use Rattle.packed.proofs.Rows.{rows, rows_agree, parts_agree, length_between, between}

-- the name whose bytes stand at a place
name_has : {s : List ℕ} {i : ℕ} (x : Name) → Proper x → Has s i (name_bytes x) → name_from (get_or s i 0) (get_or s (i + 1) 0) ≡ x
name_has x p h =
    let two = name_wide x in
    ap₂ name_from (has_first h (omega arith)) (h.byte 1 (omega arith)) ∙ Encoding.name_back x p

pub one_byte : {x : ℕ} → x < 256 → x % 256 ∷ [] ≡ x ∷ []
one_byte {x} l = let e : x % 256 ≡ x = omega arith in ap (λ b. b ∷ []) e

-- Rows between other bytes

module _ (n : ℕ) (header rest : List ℕ) (long : length header ≡ 4) where
  pub unpacked_rows : (f : ℕ → ℕ → ℕ) → unpacked_of n (header ++ rows n (λ r c. f r c ∷ []) ++ rest) ≡ header ++ rows n (λ r c. name_bytes (name_of c (f r c))) ++ rest
  unfolding unpacked_of unpacked_row
  unpacked_rows f =
      let parts = between n 1 n (λ r c. f r c ∷ []) (omega arith) (λ r c. refl) header rest long in
      let place : (r c : ℕ) → 4 + (r - 1) * n + (c - 1) * 1 ≡ packed_place n r c = λ r c. omega arith in
      parts_agree parts.front
      (rows_agree n _ _ (λ r c i j k l. ap (λ b. name_bytes (name_of c b)) (has_first (has_place (place r c) (parts.name r c i j k l)) (omega arith))))
      parts.back

  pub packed_rows : (x : ℕ → ℕ → Name) → ((r c : ℕ) → 1 ≤ r → r ≤ n → 1 ≤ c → c ≤ n → Proper (x r c))
      → packed_of n (header ++ rows n (λ r c. name_bytes (x r c)) ++ rest) ≡ header ++ rows n (λ r c. name_byte c (x r c) % 256 ∷ []) ++ rest
  unfolding packed_of packed_row name_at
  packed_rows x proper =
      let parts = between n 2 (n + n) (λ r c. name_bytes (x r c)) (omega arith) (λ r c. name_wide (x r c)) header rest long in
      parts_agree parts.front
      (rows_agree n _ _ (λ r c i j k l. ap (λ y. name_byte c y % 256 ∷ []) (name_has (x r c) (proper r c i j k l) (parts.name r c i j k l))))
      parts.back

-- A table

module _ (n own : ℕ) (t : Table) where
  abbrev pub header : List ℕ
  header = n ∷ own ∷ word_bytes t.current

  abbrev pub yields : List ℕ
  yields = each n (λ r. word_bytes (t.yields r))

  abbrev pub orders : List ℕ
  orders = each n (λ r. order_bytes n (bits n (t.order r)))

  -- both its images have the same header and the same rest
  pub packed_parts : packed_image n own t ≡ header ++ rows n (λ r c. name_byte c (t.names r c) ∷ []) ++ (yields ++ orders)
  unfolding packed_image
  packed_parts = append_assoc (header ++ rows n (λ r c. name_byte c (t.names r c) ∷ [])) yields orders

  plain_parts : encode n own t ≡ header ++ rows n (λ r c. name_bytes (t.names r c)) ++ (yields ++ orders)
  unfolding encode
  plain_parts = append_assoc (header ++ rows n (λ r c. name_bytes (t.names r c))) yields orders

  length_rest : length (yields ++ orders) ≡ n * 2 + n * order_width n
  length_rest =
      length-append yields orders
      ∙ ap₂ ◌+◌ (length_each 2 (λ r. word_bytes (t.yields r)) (λ r. refl) n) (length_each (order_width n) (λ r. order_bytes n (bits n (t.order r))) (λ r. length_order n _) n)

  pub length_packed : length (packed_image n own t) ≡ packed_image_length n
  length_packed =
      ap length packed_parts
      ∙ length_between n 1 n (λ r c. name_byte c (t.names r c) ∷ []) (omega arith) (λ r c. refl) header (yields ++ orders)
      ∙ omega (arith, length_rest)

  module _ (n_to : n ≤ largest_packed) (m : Made n own t) where
    names_back : (r c : ℕ) → 1 ≤ r → r ≤ n → 1 ≤ c → c ≤ n → name_of c (name_byte c (t.names r c)) ≡ t.names r c
    names_back r c i j k l = name_back n c (t.names r c) k n_to (m.names_in r c i j k l)

    -- the unpacked form of its packed image is its image
    pub unpacked_of_image : unpacked_of n (packed_image n own t) ≡ encode n own t
    unpacked_of_image =
        ap (unpacked_of n) packed_parts
        ∙ unpacked_rows n header (yields ++ orders) refl (λ r c. name_byte c (t.names r c))
        ∙ ap (λ names. header ++ names ++ (yields ++ orders)) (rows_agree n _ _ (λ r c i j k l. ap name_bytes (names_back r c i j k l)))
        ∙ sym plain_parts

    pub unpacked_image : unpacked (packed_image n own t) ≡ encode n own t
    unfolding packed_image
    unpacked_image = unpacked_is (packed_image n own t) n_to ∙ unpacked_of_image

    -- and its image, packed byte by byte, is its packed image
    pub packed_encode : packed_of n (encode n own t) ≡ packed_image n own t
    packed_encode =
        ap (packed_of n) plain_parts
        ∙ packed_rows n header (yields ++ orders) refl t.names (λ r c i j k l. subst Proper (names_back r c i j k l) (proper_of c _))
        ∙ ap (λ names. header ++ names ++ (yields ++ orders))
        (rows_agree n _ _ (λ r c i j k l. one_byte (name_small n c (t.names r c) (omega arith) n_to (m.names_in r c i j k l))))
        ∙ sym packed_parts

-- An accepted image

module _ {s : List ℕ} {n own : ℕ} (w : Accepted s n own) where
  pub packed_table : packed s ≡ packed_image n own (table_of s n)
  unfolding packed
  packed_table = rw (w.count, w.stall)

  -- whatever its numbers, packed and unpacked it is the image of what it says
  pub packed_encodes : n ≤ largest_packed → unpacked (packed s) ≡ encode n own (table_of s n)
  packed_encodes few = ap unpacked packed_table ∙ unpacked_image n own (table_of s n) few (accepted_made w)

  module _ (few : n ≤ largest_packed) (bytes : Small s) where
    -- what the code packs is the packed form
    pub packed_is : packed_of n s ≡ packed s
    packed_is =
        ap (packed_of n) (sym (accepted_encode w bytes)) ∙ packed_encode n own (table_of s n) few (accepted_made w) ∙ sym packed_table

    pub packed_unpacked : unpacked (packed s) ≡ s
    packed_unpacked = packed_encodes few ∙ accepted_encode w bytes
