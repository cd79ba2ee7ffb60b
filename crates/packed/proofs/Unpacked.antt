-- A packed image, unpacked and packed again, is as it was.
use Prim.Native.Nat.{ℕ, ◌+◌, ◌-◌, ◌*◌, ◌%◌, ◌≤◌}
use mathlib.Core.Path.{◌≡◌, refl, sym, ap, subst, ◌∙◌}
use mathlib.Core.List.{List, [], ◌∷◌, ◌++◌}
use native.Mathlib.Omega.{arith}
use native.Mathlib.Nat.{mul-le-mul_right}
use lib.ListN.{length, get_or, take, drop, take-append-drop}
use lib.Seq.{length-take-le, take-add}
use Rattle.image.specs.Encode.{name_bytes}
use Rattle.image.proofs.Search.{times_step}
use Rattle.image.proofs.Has.{Has, has_one, has_place, has_part}
use Rattle.image.proofs.Accepted.{Accepted}
use Rattle.packed.specs.Form.{largest_packed, packed_yields_place, packed_image_length, packed_place, packed, name_of, unpacked_row, unpacked_of, unpacked}
use Rattle.packed.specs.Bytes.{packed_of}
use Rattle.packed.proofs.Small.{Small, small_append, small_each, small_take, small_drop}
use Rattle.packed.proofs.Names.{byte_back, proper_of, bytes_small}
use Rattle.packed.proofs.Rows.{rows, rows_agree, length_rows, rows_has}
use Rattle.packed.proofs.Sizes.{unpacked_is, packed_count}
use Rattle.packed.proofs.Forms.{one_byte, packed_rows, packed_is}

module _ (p : List ℕ) (n : ℕ) (long : length p ≡ packed_image_length n) where
  abbrev name_byte_at : ℕ → ℕ → List ℕ
  name_byte_at r c = get_or p (packed_place n r c) 0 ∷ []

  names_stand : Has p 4 (rows n name_byte_at)
  names_stand =
      rows_has n 1 n name_byte_at (omega arith) (λ r c. refl) (omega arith)
      (λ r c i j k l.
      let e : packed_place n r c ≡ 4 + (r - 1) * n + (c - 1) * 1 = omega arith in
      has_place e (has_one _ (omega (arith, times_step r n i, mul-le-mul_right n j)) refl))

  names_part : rows n name_byte_at ≡ take (n * n) (drop 4 p)
  names_part = sym (has_part names_stand) ∙ ap (λ k. take k (drop 4 p)) (length_rows n 1 n name_byte_at (omega arith) (λ r c. refl))

  pub unpacked_packed_of : Small p → packed_of n (unpacked_of n p) ≡ p
  unfolding unpacked_of unpacked_row
  unpacked_packed_of bytes =
      let rest = drop (packed_yields_place n) p in
      packed_rows n (take 4 p) rest (length-take-le 4 p (omega arith)) (λ r c. name_of c (get_or p (packed_place n r c) 0)) (λ r c i j k l. proper_of c _)
      ∙ ap (λ names. take 4 p ++ names ++ rest)
      (rows_agree n _ _ (λ r c i j k l. ap (λ b. b % 256 ∷ []) (byte_back c _) ∙ one_byte (bytes (packed_place n r c))) ∙ names_part)
      ∙ ap (λ start. start ++ rest) (sym (take-add 4 (n * n) p))
      ∙ take-append-drop (packed_yields_place n) p

-- Its unpacked form has bytes only

pub small_unpacked : (n : ℕ) (p : List ℕ) → Small p → Small (unpacked_of n p)
unfolding unpacked_of unpacked_row
small_unpacked n p f =
    small_append (take 4 p ++ rows n (λ r c. name_bytes (name_of c (get_or p (packed_place n r c) 0)))) (drop (packed_yields_place n) p)
    (small_append (take 4 p) _ (small_take 4 p f) (small_each n _ (λ r. small_each n _ (λ c. bytes_small c _ (f (packed_place n r c))))))
    (small_drop (packed_yields_place n) p f)

pub unpacked_packed : (p : List ℕ) {n own : ℕ} → Accepted (unpacked p) n own → length p ≡ packed_image_length n → Small p → packed (unpacked p) ≡ p
unpacked_packed p {n} w long bytes =
    let (l, count) = packed_count p w in
    let is = unpacked_is p l in
    sym (packed_is w (subst (λ m. m ≤ largest_packed) count l) (subst Small (sym is) (small_unpacked (get_or p 0 0) p bytes)))
    ∙ ap (packed_of n) is
    ∙ ap (λ m. packed_of n (unpacked_of m p)) count
    ∙ unpacked_packed_of p n long bytes
